-- The invariant: the first i of the eight are there.
use Prim.Native.Nat.{◌*◌}
use mathlib.Core.Path.{◌≡◌}
use lib.ListN.{length}
use lib.Seq.{paste}
use Rattle.cabinet.proofs.rolls.put_eight.Given as goal

abbrev pub invariant-loop-i : goal.invariant-loop-i
invariant-loop-i l = (length l.flags ≡ 256) × (l.flags ≡ paste l.initial.flags (l.k * 8) l.eight l.i)
