-- All 32 are there.
use native.Mathlib.Omega.{arith}
use Rattle.cabinet.specs.Inner.Rolls.{ends_settled}
use Rattle.cabinet.proofs.TableLaws.{table_is}
use Rattle.cabinet.proofs.rolls.ends_in.Goals as goal

pub returns : goal.returns
unfolding ends_settled
returns c = let l = c.loop-k in table_is l.numbers 32 _ 0 l.invariant.0 (λ j h. l.invariant.1 j (omega arith))
