-- The invariant of both loops: the window, and then the bytes behind it, give the CRC_32 of s.
use mathlib.Core.List.{[], ◌∷◌}
use Prim.Native.Nat.{◌-◌}
use lib.ListN.{length}
use Rattle.crc.specs.Inner.Windows.{Ahead}
use Rattle.crc.proofs.five.to_end.Given as goal

abbrev pub invariant-loop-w : goal.invariant-loop-w
invariant-loop-w l = Ahead l.s (l.w.a ∷ l.w.b ∷ l.w.c ∷ l.w.d ∷ l.w.e ∷ []) l.w.at

abbrev pub decreases-loop-w : goal.decreases-loop-w
decreases-loop-w l = length l.s - l.w.at

abbrev pub invariant-loop-w-2 : goal.invariant-loop-w-2
invariant-loop-w-2 l = Ahead l.s (l.w.a ∷ l.w.b ∷ l.w.c ∷ l.w.d ∷ l.w.e ∷ []) l.w.at

abbrev pub decreases-loop-w-2 : goal.decreases-loop-w-2
decreases-loop-w-2 l = length l.s - l.w.at
