-- `turn::counts::descriptors_in` meets its contract.
use native.Mathlib.Omega.{arith}
use lib.ListN.{length}
use Rattle.sheet.specs.Sheet.{descriptor}
use Rattle.contents.proofs.SectionLaws.{descriptor_full}
use Rattle.turn.proofs.CountLaws.{count_begins, count_on, count_less, count_ends, descriptor_says_lem}
use borrow.Author.Rules.{rules}
use Rattle.turn.proofs.counts.descriptors_in.Goals as goal

pub loop-p-init : goal.loop-p-init
loop-p-init c = search count_begins

pub overflow_add-wide : goal.overflow_add-wide
overflow_add-wide c = omega (arith, c.wide.ensures.small)

pub overflow_add-k : goal.overflow_add-k
overflow_add-k c =
    omega (arith, c.loop-p.invariant.few, c.loop-p-test.true, c.well_formed.0.0)

pub loop-p-smaller : goal.loop-p-smaller
loop-p-smaller c =
    count_less (length c.args.bytes.now) c.past-p.ensures (omega arith) c.loop-p-test.true c.well_formed.0.0

pub loop-p-preserved : goal.loop-p-preserved
loop-p-preserved c =
    let l = c.args.bytes.now in
    count_on descriptor descriptor_full l c.past-p.ensures (omega arith)
    (descriptor_says_lem l 0 c.loop-p.p c.wide.ensures.same c.byte_at.ensures (λ _. omega arith))
    c.loop-p-test.true c.well_formed.0.0 c.loop-p.invariant

pub returns : goal.returns
returns c = search (count_ends, rules)
