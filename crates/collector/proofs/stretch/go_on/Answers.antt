-- `collector::stretch::go_on` meets its contract: each way out is a law of `StretchInHand`.
use Rattle.std.proofs.Common.{ℕ, ◌+◌, ◌<◌, ◌≤◌, List, length, take, ap, arith, length-take-le}
use Rattle.wire.specs.Sections.{Unfinished}
use Rattle.verdict.specs.Verdict.{number_of}
use Rattle.collector.specs.declared.stretch.Gain.{Gain}
use Rattle.collector.proofs.StretchInHand.{Given, end_none, going_in, end_kept, end_dropped, end_over, whole_in, end_whole}
use Rattle.collector.proofs.stretch.go_on.Goals as goal
use Rattle.collector.proofs.stretch.go_on.Goals.{In-Whole}

-- what is given at the start
given : (hold rest : List ℕ) (n m : ℕ) → n ≤ length hold → m ≤ length rest → Unfinished (take n hold) → Given hold rest n m
given hold rest n m h p u = record { in_hold = h; in_packet = p; stands = u }

-- in the arm of a whole section its bytes are there
there : (w : In-Whole) → (w.args.n < w.in-Whole.t) × (w.in-Whole.t ≤ w.args.n + w.args.m) × (w.in-Whole.t ≤ 4096)
there w =
    let a = w.args in
    whole_in (given a.hold.now a.rest.now a.n a.m (omega arith) (omega arith) w.requires.unfinished) a.out.now a.keep
    a.was _ w.none_yet-r.ensures w.if-n-eq0.false w.looked.result w.looked.ensures w.in-Whole.t w.in-Whole.is

pub returns-then-n-eq0 : goal.returns-then-n-eq0
returns-then-n-eq0 c =
    let a = c.args in
    end_none (given a.hold.now a.rest.now a.n a.m (omega arith) (omega arith) c.requires.unfinished) a.out.now a.keep
    a.was _ c.none_yet-r.ensures c.if-n-eq0.true

pub lay_mostly-requires : goal.lay_mostly-requires
lay_mostly-requires c =
    let a = c.args in
    let f = going_in (given a.hold.now a.rest.now a.n a.m (omega arith) (omega arith) c.requires.unfinished)
    a.out.now a.keep a.was _ c.none_yet-r.ensures c.if-n-eq0.false c.looked.result c.looked.ensures c.in-Going.is in
    omega (arith, f, length-take-le a.m a.rest.now (omega arith))

pub returns-then-keep : goal.returns-then-keep
returns-then-keep c =
    let a = c.args in
    end_kept (given a.hold.now a.rest.now a.n a.m (omega arith) (omega arith) c.requires.unfinished) a.out.now a.keep
    a.was _ c.none_yet-r.ensures c.if-n-eq0.false c.looked.result c.looked.ensures c.if-keep.true c.in-Going.is _
    c.lay_mostly.ensures

pub overflow_sub-t : goal.overflow_sub-t
overflow_sub-t c = omega (arith, there (goal.at.overflow_sub-t c).In-Whole)

pub settle_held-verdict-requires : goal.settle_held-verdict-requires
settle_held-verdict-requires c =
    let f = there (goal.at.settle_held-verdict-requires c).In-Whole in
    (omega arith, omega (arith, f), omega (arith, f), omega arith, omega (arith, f))

pub with_section-r-requires : goal.with_section-r-requires
with_section-r-requires c =
    let e = c.none_yet-r.ensures in
    let f = there (goal.at.with_section-r-requires c).In-Whole in
    record {
      sections = omega (arith, ap (λ (g : Gain). g.sections) e);
      bytes = omega (arith, f, ap (λ (g : Gain). g.bytes) e);
      rejected = omega (arith, f, ap (λ (g : Gain). g.rejected) e);
    }

pub overflow_sub-r : goal.overflow_sub-r
overflow_sub-r c = omega (arith, there ((goal.at.overflow_sub-r c).In-Whole))

pub overflow_sub-r-in-Whole : goal.overflow_sub-r-in-Whole
overflow_sub-r-in-Whole c = omega (arith, there ((goal.at.overflow_sub-r-in-Whole c).In-Whole))

pub returns-else-keep : goal.returns-else-keep
returns-else-keep c =
    let a = c.args in
    end_dropped (given a.hold.now a.rest.now a.n a.m (omega arith) (omega arith) c.requires.unfinished) a.out.now a.keep
    a.was _ c.none_yet-r.ensures c.if-n-eq0.false c.looked.result c.looked.ensures c.if-keep.false c.in-Going.is

pub returns-in-Over : goal.returns-in-Over
returns-in-Over c =
    let a = c.args in
    end_over (given a.hold.now a.rest.now a.n a.m (omega arith) (omega arith) c.requires.unfinished) a.out.now a.keep
    a.was _ c.none_yet-r.ensures c.if-n-eq0.false c.looked.result c.looked.ensures c.in-Over.is

pub returns-in-Whole : goal.returns-in-Whole
returns-in-Whole c =
    let a = c.args in
    end_whole (given a.hold.now a.rest.now a.n a.m (omega arith) (omega arith) c.requires.unfinished) a.out.now a.keep
    a.was _ c.none_yet-r.ensures c.if-n-eq0.false c.looked.result c.looked.ensures c.in-Whole.t c.in-Whole.is _
    (ap number_of c.settle_held-verdict.ensures.value) _ c.settle_held-verdict.ensures.hold_unchanged _
    c.settle_held-verdict.ensures.out_after _
    c.with_section-r.ensures
