-- `loops::descriptors::judge_descriptors` meets its contract: reading on from p says what reading from the start says.
use Prim.Native.Nat.{◌-◌}
use mathlib.Core.Path.{◌≡◌}
use lib.ListN.{length, drop}
use Rattle.loops.specs.Descriptors.{descriptors}
use Rattle.loops.proofs.descriptors.judge_descriptors.Given as goal

abbrev pub invariant-loop-p : goal.invariant-loop-p
invariant-loop-p l = (descriptors l.at (drop l.at l.bytes)).ends ≡ (descriptors l.p (drop l.p l.bytes)).ends

abbrev pub decreases-loop-p : goal.decreases-loop-p
decreases-loop-p l = length l.bytes - l.p
