-- Bytes moved within one list: they go from one place to another as they were before, and every other byte stays.
use Rattle.std.specs.Prelude.{ℕ, ◌+◌, ◌≤◌, ◌≡◌, List, Bool, false, length, take, drop, leb, if◌then◌else◌}
use Rattle.std.proofs.Math.Seq.{paste}

-- n elements of l from one place on can go down to another: it is no higher, and l has them
unfoldable pub moves_down : List ℕ → ℕ → ℕ → ℕ → Bool
moves_down l from n to = if leb to from then leb (from + n) (length l) else false

-- l with them there, where that can be; otherwise as it was
unfoldable pub moved_down : List ℕ → ℕ → ℕ → ℕ → List ℕ
moved_down l from n to = if moves_down l from n to then paste l to (drop from l) n else l

-- n elements of l from one place on can go up to another: it is no lower, and l has place for them there
unfoldable pub moves_up : List ℕ → ℕ → ℕ → ℕ → Bool
moves_up l from n to = if leb from to then leb (to + n) (length l) else false

-- l with them there, where that can be; otherwise as it was
unfoldable pub movedUp : List ℕ → ℕ → ℕ → ℕ → List ℕ
movedUp l from n to = if moves_up l from n to then paste l to (drop from l) n else l

-- what a move leaves: before the place, there, and behind
pub record Moved (l l' : List ℕ) (from n to : ℕ) : Type 0 where
  pub before : take to l' ≡ take to l
  pub there : take n (drop to l') ≡ take n (drop from l)
  pub behind : drop (to + n) l' ≡ drop (to + n) l

abbrev pub MovesDown : Type 0
MovesDown = (l : List ℕ) (from n to : ℕ) → to ≤ from → from + n ≤ length l → Moved l (moved_down l from n to) from n to

abbrev pub MovesUp : Type 0
MovesUp = (l : List ℕ) (from n to : ℕ) → from ≤ to → to + n ≤ length l → Moved l (movedUp l from n to) from n to
