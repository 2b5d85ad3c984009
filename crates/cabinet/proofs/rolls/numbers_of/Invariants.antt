-- The invariant: the first i are there.
use Prim.Native.Nat.{ℕ, ◌<◌}
use mathlib.Core.Path.{◌≡◌}
use mathlib.Core.Bool.{false}
use lib.ListN.{length, get_or}
use Rattle.cabinet.specs.Numbers.{bit}
use Rattle.cabinet.proofs.rolls.numbers_of.Given as goal

abbrev pub invariant-loop-i : goal.invariant-loop-i
invariant-loop-i l = (length l.numbers ≡ 256) × ((j : ℕ) → j < l.i → get_or l.numbers j 0 ≡ bit (get_or l.flags j false))
