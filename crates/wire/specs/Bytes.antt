-- Bytes as numbers.
use Rattle.std.specs.Prelude.{◌≡◌, List, ℕ, ◌+◌, ◌*◌, ◌%◌, ◌<◌, get_or}

-- the elements of a list are bytes
abbrev pub Bytes : List ℕ → Type 0
Bytes s = (i : ℕ) → get_or s i 0 < 256

-- a number that was read: what it is, and that it is below a bound
pub record Below (bound value r : ℕ) : Type 0 where
  pub same : r ≡ value
  pub small : r < bound

-- "A loop is a 12-bit length in the low bits of two bytes"
abbrev pub len12 : ℕ → ℕ → ℕ
len12 high low = high % 16 * 256 + low

-- the 12-bit length in the two bytes at place i of s
abbrev pub len12_at : List ℕ → ℕ → ℕ
len12_at s i = len12 (get_or s i 0) (get_or s (i + 1) 0)
