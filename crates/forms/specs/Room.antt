-- Bytes put into a lent room.
use Rattle.std.specs.Prelude.{ℕ, ◌+◌, ◌-◌, ◌^◌, List, ◌++◌, length, take, drop, leb, if◌then◌else◌}

-- the room o with the bytes of l at the place `to`, where they fit; its other bytes stay
unfoldable pub put : List ℕ → ℕ → List ℕ → List ℕ
put o to l = if leb (to + length l) (length o) then take to o ++ (l ++ drop (to + length l) o) else o

-- the sum, and no more than the greatest 64-bit number
unfoldable pub sum : ℕ → ℕ → ℕ
sum n k = if leb (n + k) (2 ^ 64 - 1) then n + k else 2 ^ 64 - 1
