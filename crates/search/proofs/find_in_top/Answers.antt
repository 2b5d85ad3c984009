-- `search::find_in_top` meets its contract: what is still to be searched gives what the whole loop gives.
use Prim.Native.Nat.{◌-◌}
use mathlib.Core.Path.{◌≡◌, sym, ◌∙◌}
use native.Mathlib.Omega.{arith}
use Rattle.std.specs.Prelude.{Some, Ok}
use Rattle.loops.specs.Descriptors.{step_at, told_step}
use Rattle.loops.proofs.Loops.{body_on}
use Rattle.search.specs.Search.{none}
use Rattle.search.proofs.Hits.{hit_here, hit_on}
use Rattle.search.proofs.find_in_top.Goals as goal
use Rattle.search.proofs.find_in_top.Goals.{In-Ok-Some}

-- A descriptor stands at p.
stands : (c : In-Ok-Some) → told_step (Ok (Some c.in-Ok-Some.d)) ≡ step_at c.args.bytes.now c.loop-d.p
stands c = rw c.in-Ok-Some.field-0-is at c.in-Ok-Some.ensures

pub returns-then-d-tag : goal.returns-then-d-tag
returns-then-d-tag c =
    sym (hit_here c.args.bytes.now c.loop-d.p c.args.tag 0 none _ (stands (goal.at.returns-then-d-tag c).In-Ok-Some) c.if-d-tag.true)
    ∙ c.loop-d.invariant

pub overflow_add-p : goal.overflow_add-p
overflow_add-p c = omega (arith, body_on _ _ _ (stands (goal.at.overflow_add-p c).In-Ok-Some))

pub loop-d-smaller : goal.loop-d-smaller
loop-d-smaller c = omega (arith, body_on _ _ _ (stands (goal.at.loop-d-smaller c).In-Ok-Some))

pub loop-d-preserved : goal.loop-d-preserved
loop-d-preserved c =
    sym (hit_on c.args.bytes.now c.loop-d.p c.args.tag 0 none _ (stands (goal.at.loop-d-preserved c).In-Ok-Some) c.if-d-tag.false)
    ∙ c.loop-d.invariant
