-- All 256 are there.
use native.Mathlib.Omega.{arith}
use Rattle.cabinet.specs.Inner.Rolls.{numbersOf}
use Rattle.cabinet.proofs.TableLaws.{table_is}
use Rattle.cabinet.proofs.rolls.numbers_of.Goals as goal

pub returns : goal.returns
unfolding numbersOf
returns c = let l = c.loop-i in table_is l.numbers 256 _ 0 l.invariant.0 (λ j h. l.invariant.1 j (omega arith))
