-- The invariant: the first i bytes are copied, in whole blocks.
use mathlib.Core.Path.{◌≡◌}
use Prim.Native.Nat.{◌≤◌}
use lib.ListN.{drop}
use lib.Seq.{paste}
use Rattle.copy.proofs.in_blocks.Given as goal

abbrev pub invariant-loop-i : goal.invariant-loop-i
invariant-loop-i N l = (l.i ≤ l.n) × (l.dst ≡ paste l.initial.dst l.at (drop l.from l.src) l.i)
