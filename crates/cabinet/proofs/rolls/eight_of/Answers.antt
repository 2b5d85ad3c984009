-- All 8 are there.
use native.Mathlib.Omega.{arith}
use mathlib.Core.Bool.{false}
use Rattle.cabinet.specs.Inner.Rolls.{eight_of}
use Rattle.cabinet.proofs.TableLaws.{table_is}
use Rattle.cabinet.proofs.rolls.eight_of.Goals as goal

pub returns : goal.returns
unfolding eight_of
returns c = let l = c.loop-i in table_is l.eight 8 _ false l.invariant.0 (λ j h. l.invariant.1 j (omega arith))
