-- The invariant: the first k are there.
use Prim.Native.Nat.{ℕ, ◌<◌}
use mathlib.Core.Path.{◌≡◌}
use mathlib.Core.Bool.{false}
use lib.ListN.{length, get_or}
use Rattle.std.specs.Prelude.{if◌then◌else◌}
use Rattle.cabinet.specs.Numbers.{bit, is_set}
use Rattle.cabinet.proofs.rolls.known_in.Given as goal

abbrev pub invariant-loop-k : goal.invariant-loop-k
invariant-loop-k l = (length l.numbers ≡ 32)
    × ((j : ℕ) → j < l.k → get_or l.numbers j 0 ≡ bit (if l.keep then is_set (get_or l.known j 0) else false))
