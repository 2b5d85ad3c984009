-- `turn::counts::descriptors_size` meets its contract.
use Rattle.turn.proofs.CountLaws.{Sizing}
use Rattle.turn.proofs.counts.descriptors_size.Given as goal

abbrev pub invariant-loop : goal.invariant-loop
invariant-loop l = Sizing l.s l.at l.number l.n l.counter
