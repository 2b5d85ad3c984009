-- The invariant: the first k are there.
use Prim.Native.Nat.{ℕ, ◌<◌}
use mathlib.Core.Path.{◌≡◌}
use lib.ListN.{length, get_or}
use Rattle.std.specs.Prelude.{if◌then◌else◌}
use Rattle.cabinet.specs.Numbers.{is_set}
use Rattle.cabinet.proofs.rolls.ends_in.Given as goal

abbrev pub invariant-loop-k : goal.invariant-loop-k
invariant-loop-k l = (length l.numbers ≡ 32)
    × ((j : ℕ) → j < l.k → get_or l.numbers j 0 ≡ (if is_set (get_or l.known j 0) then get_or l.end j 0 else 0))
