-- A copy of bytes from one list into another.
use Rattle.std.specs.Prelude.{ℕ, ◌+◌, List, Bool, false, length, drop, leb, if◌then◌else◌}
use Rattle.std.proofs.Math.Seq.{paste}

-- n elements of s from one place on can go to another place of d: s has them, and d has room for them
unfoldable pub copies : List ℕ → ℕ → ℕ → List ℕ → ℕ → Bool
copies s from n d at = if leb (from + n) (length s) then leb (at + n) (length d) else false

-- d with them there, where that can be; otherwise as it was
unfoldable pub copied : List ℕ → ℕ → ℕ → List ℕ → ℕ → List ℕ
copied s from n d at = if copies s from n d at then paste d at (drop from s) n else d
