-- The invariant: the first i bytes are moved, in whole blocks.
use mathlib.Core.Path.{◌≡◌}
use Prim.Native.Nat.{◌≤◌}
use lib.ListN.{drop}
use lib.Seq.{paste}
use Rattle.copy.proofs.within.down.Given as goal

abbrev pub invariant-loop-i : goal.invariant-loop-i
invariant-loop-i l = (l.i ≤ l.n) × (l.room ≡ paste l.initial.room l.to (drop l.from l.initial.room) l.i)
