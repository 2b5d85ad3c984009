-- The invariant: the bytes from i on are moved, in whole blocks.
use mathlib.Core.Path.{◌≡◌}
use Prim.Native.Nat.{◌+◌, ◌-◌, ◌≤◌}
use lib.ListN.{drop}
use lib.Seq.{paste}
use Rattle.copy.proofs.within.up.Given as goal

abbrev pub invariant-loop-i : goal.invariant-loop-i
invariant-loop-i l = (l.i ≤ l.n) × (l.room ≡ paste l.initial.room (l.to + l.i) (drop (l.from + l.i) l.initial.room) (l.n - l.i))

abbrev pub decreases-loop-i : goal.decreases-loop-i
decreases-loop-i l = l.i
