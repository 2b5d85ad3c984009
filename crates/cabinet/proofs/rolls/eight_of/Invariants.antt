-- The invariant: the first i are there.
use Prim.Native.Nat.{ℕ, ◌<◌, ◌+◌, ◌*◌}
use mathlib.Core.Path.{◌≡◌}
use mathlib.Core.Bool.{false}
use lib.ListN.{length, get_or}
use Rattle.cabinet.proofs.rolls.eight_of.Given as goal

abbrev pub invariant-loop-i : goal.invariant-loop-i
invariant-loop-i l = (length l.eight ≡ 8) × ((j : ℕ) → j < l.i → get_or l.eight j false ≡ get_or l.flags (l.k * 8 + j) false)
