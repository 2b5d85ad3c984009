-- `collector::stretch::sections` meets its contract: the invariant is `Reached`, and each way out of a turn is a law of
-- `SectionLoop`.
use Rattle.std.proofs.Common.{length}
use Rattle.collector.proofs.SectionLoop.{Reached}
use Rattle.collector.proofs.stretch.sections.Given as goal

abbrev pub invariant-loop-rest : goal.invariant-loop-rest
invariant-loop-rest l = Reached l.part l.was l.initial.hold l.initial.out l.at l.hold l.out l.rest l.g

abbrev pub decreases-loop-rest : goal.decreases-loop-rest
decreases-loop-rest l = length l.rest
