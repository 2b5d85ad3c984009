-- All 256 are there.
use native.Mathlib.Omega.{arith}
use mathlib.Core.Bool.{false}
use Rattle.cabinet.specs.Inner.Rolls.{flags_kept}
use Rattle.cabinet.proofs.TableLaws.{table_is}
use Rattle.cabinet.proofs.rolls.flags_in.Goals as goal

pub returns : goal.returns
unfolding flags_kept
returns c = let l = c.loop-i in table_is l.flags 256 _ false l.invariant.0 (λ j h. l.invariant.1 j (omega arith))
