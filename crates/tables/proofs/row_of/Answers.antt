-- `tables::row_of` meets its contract: the first row among those left is the first of all.
use Prim.Native.Nat.{◌-◌}
use mathlib.Core.Path.{◌≡◌, refl, ◌∙◌, sym}
use native.Mathlib.Omega.{arith}
use Rattle.tables.specs.Tables.{row_of}
use Rattle.tables.proofs.FirstOf.{first_here, first_on, first_none}
use Rattle.tables.proofs.row_of.Goals as goal

pub loop-i-init : goal.loop-i-init
unfolding row_of
loop-i-init c = refl

pub returns-then-held_by : goal.returns-then-held_by
returns-then-held_by c =
    let l = c.loop-i in
    sym (l.invariant ∙ first_here 6 l.i _ (omega arith) (sym c.held_by.ensures ∙ c.if-held_by.true))

pub loop-i-preserved : goal.loop-i-preserved
loop-i-preserved c =
    let l = c.loop-i in
    l.invariant ∙ first_on 6 l.i _ (omega arith) (sym c.held_by.ensures ∙ c.if-held_by.false)

pub returns : goal.returns
returns c =
    let l = c.loop-i in
    let over : l.i ≡ 6 = omega arith in
    sym (l.invariant ∙ first_none 6 l.i _ over ∙ over)
