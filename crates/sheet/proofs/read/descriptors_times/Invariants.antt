-- `sheet::read::descriptors_times` meets its contract.
use Rattle.sheet.specs.Sheet.{descriptor}
use Rattle.sheet.proofs.ReadLaws.{Rest}
use Rattle.sheet.proofs.read.descriptors_times.Given as goal

abbrev pub invariant-loop : goal.invariant-loop
invariant-loop l = Rest descriptor l.s l.at l.count l.p l.counter
