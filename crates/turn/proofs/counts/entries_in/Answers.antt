-- `turn::counts::entries_in` meets its contract.
use mathlib.Core.Path.{ap, ◌∙◌}
use Prim.Native.Nat.{◌+◌}
use native.Mathlib.Omega.{arith}
use lib.ListN.{length}
use Rattle.tables.specs.Tables.{place}
use Rattle.wire.specs.Bytes.{len12_at}
use Rattle.sheet.specs.Section.{section_entry}
use Rattle.contents.proofs.SectionLaws.{entry_full}
use Rattle.turn.proofs.CountLaws.{count_begins, count_on, count_less, count_ends, fixed_small, entry_says_lem}
use borrow.Author.Rules.{rules}
use Rattle.turn.proofs.counts.entries_in.Goals as goal

pub loop-p-init : goal.loop-p-init
loop-p-init c = search count_begins

pub overflow_sub-fixed : goal.overflow_sub-fixed
overflow_sub-fixed c =
    omega (arith, fixed_small c.args.fixed (place c.args.table) c.requires)

pub overflow_add-size : goal.overflow_add-size
overflow_add-size c =
    omega (arith, c.length12_at.ensures.small, fixed_small c.args.fixed (place c.args.table) c.requires)

pub overflow_add-k : goal.overflow_add-k
overflow_add-k c =
    omega (arith, c.loop-p.invariant.few, c.loop-p-test.true, c.well_formed.0.0)

pub loop-p-smaller : goal.loop-p-smaller
loop-p-smaller c =
    let a = c.args in
    count_less (length a.bytes.now) c.past-p.ensures
    (omega (arith, fixed_small a.fixed (place a.table) c.requires)) c.loop-p-test.true c.well_formed.0.0

pub loop-p-preserved : goal.loop-p-preserved
loop-p-preserved c =
    let a = c.args in
    let l = a.bytes.now in
    let q = c.loop-p.p in
    count_on (section_entry (place a.table)) (entry_full (place a.table)) l c.past-p.ensures
    (omega (arith, fixed_small a.fixed (place a.table) c.requires))
    (λ e o t.
    ap (λ x. a.fixed + x) (c.length12_at.ensures.same ∙ ap (len12_at l) c.past.ensures)
    ∙ entry_says_lem a.fixed (place a.table) c.requires l q c.well_formed.0.0 e o t)
    c.loop-p-test.true c.well_formed.0.0 c.loop-p.invariant

pub returns : goal.returns
returns c = search (count_ends, rules)
