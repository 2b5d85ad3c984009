-- All 32 are there.
use native.Mathlib.Omega.{arith}
use Rattle.cabinet.specs.Inner.Rolls.{known_kept}
use Rattle.cabinet.proofs.TableLaws.{table_is}
use Rattle.cabinet.proofs.rolls.known_in.Goals as goal

pub returns : goal.returns
unfolding known_kept
returns c = let l = c.loop-k in table_is l.numbers 32 _ 0 l.invariant.0 (λ j h. l.invariant.1 j (omega arith))
