-- `collector::stretch::sections` meets its contract: the invariant is `Reached`, and each way out of a turn is a law of
-- `SectionLoop`.
use Rattle.std.proofs.Common.{ℕ, ◌≤◌, length, ap, arith, length-take-le}
use Rattle.verdict.specs.Verdict.{number_of}
use Rattle.collector.proofs.SectionLoop.{none_yet, end_all, end_filler, end_going, end_over, whole_in, again}
use Rattle.collector.proofs.stretch.sections.Goals as goal
use Rattle.collector.proofs.stretch.sections.Goals.{In-Whole}

-- in the arm of a whole section its bytes are there
module _ (w : In-Whole) where
  abbrev long : ℕ
  long = w.in-Whole.t

  there : (3 ≤ long) × (long ≤ length w.loop-rest.rest.now)
  there =
      whole_in w.loop-rest.invariant (omega arith) w.if-rest.false w.looked.result
      w.looked.ensures long w.in-Whole.is

pub loop-rest-init : goal.loop-rest-init
loop-rest-init c =
    let a = c.args in
    none_yet a.part.now a.was a.hold.now a.out.now a.at _ c.none_yet-g.ensures (omega arith)

pub returns-then-rest : goal.returns-then-rest
returns-then-rest c = end_filler c.loop-rest.invariant (omega arith) c.if-rest.true

pub returns-in-Going : goal.returns-in-Going
returns-in-Going c =
    end_going c.loop-rest.invariant (omega arith) c.if-rest.false c.looked.result
    c.looked.ensures c.in-Going.is _ c.lay.ensures

pub returns-in-Over : goal.returns-in-Over
returns-in-Over c =
    end_over c.loop-rest.invariant (omega arith) c.if-rest.false c.looked.result
    c.looked.ensures c.in-Over.is

pub overflow_add-at : goal.overflow_add-at
overflow_add-at c =
    omega (arith, there (goal.at.overflow_add-at c).In-Whole, c.loop-rest.invariant.fits, c.well_formed)

pub settle-verdict-requires : goal.settle-verdict-requires
settle-verdict-requires c =
    let in_whole = (goal.at.settle-verdict-requires c).In-Whole in
    let x = c.loop-rest.invariant in
    let t = long in_whole in
    omega (arith, there in_whole, x.fits, x.long, length-take-le t c.loop-rest.rest.now (there in_whole).1)

pub with_section-g-requires : goal.with_section-g-requires
with_section-g-requires c =
    let in_whole = (goal.at.with_section-g-requires c).In-Whole in
    let x = c.loop-rest.invariant in
    record {
      sections = omega (arith, x.few, x.passed, c.requires);
      bytes = omega (arith, there in_whole, x.passed, c.requires);
      rejected = omega (arith, there in_whole, x.passed, c.requires);
    }

pub loop-rest-smaller : goal.loop-rest-smaller
loop-rest-smaller c = omega (arith, there ((goal.at.loop-rest-smaller c).In-Whole))

pub loop-rest-preserved : goal.loop-rest-preserved
loop-rest-preserved c =
    again c.loop-rest.invariant (omega arith) c.if-rest.false c.looked.result c.looked.ensures
    (long (goal.at.loop-rest-preserved c).In-Whole)
    c.in-Whole.is (omega arith) _ (ap number_of c.settle-verdict.ensures.value) _ c.with_section-g.ensures _
    c.settle-verdict.ensures.out_after

pub returns : goal.returns
returns c = end_all c.loop-rest.invariant (omega arith)
