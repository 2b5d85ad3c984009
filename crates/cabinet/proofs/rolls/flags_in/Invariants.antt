-- The invariant: the first i are there.
use Prim.Native.Nat.{ℕ, ◌<◌}
use mathlib.Core.Path.{◌≡◌}
use mathlib.Core.Bool.{false}
use lib.ListN.{length, get_or}
use Rattle.std.specs.Prelude.{if◌then◌else◌}
use Rattle.cabinet.specs.Roll.{came_in}
use Rattle.cabinet.proofs.rolls.flags_in.Given as goal

abbrev pub invariant-loop-i : goal.invariant-loop-i
invariant-loop-i l = (length l.flags ≡ 256) × ((j : ℕ) → j < l.i → get_or l.flags j false ≡ (if l.keep then came_in l.came j else false))
