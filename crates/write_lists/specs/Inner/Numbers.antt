-- Numbers of some bits, put together.
use Rattle.std.specs.Prelude.{◌≡◌, ℕ, ◌+◌, ◌*◌, ◌≤◌, ◌<◌, Option, Some, None}
use Rattle.wire.specs.Reading.{Reading, value, refused, ◌>>=◌}
use Rattle.wire.specs.Digits.{bcd_show}

-- what an answer tells
abbrev pub told_bits : Option ℕ → Reading ℕ
told_bits (Some n) = value n
told_bits None = refused 112

-- its number, or 0
abbrev pub bits_or : Option ℕ → ℕ
bits_or (Some n) = n
bits_or None = 0

-- an answer tells what is read, and is below a limit
pub record Within (limit : ℕ) (read : Reading ℕ) (b : Option ℕ) : Type 0 where
  pub told : told_bits b ≡ read
  pub small : bits_or b < limit

-- one number in front of another, which has so many values
unfoldable pub joint : Reading ℕ → ℕ → Reading ℕ → Reading ℕ
joint high values low = high >>= λ h. low >>= λ l. value (h * values + l)

-- an answer is two others, put together
pub record Joined (high : Option ℕ) (values : ℕ) (low : Option ℕ) (b : Option ℕ) : Type 0 where
  pub told : told_bits b ≡ joint (told_bits high) values (told_bits low)
  pub small : bits_or b ≤ bits_or high * values + bits_or low

-- two digits
unfoldable pub digits : Reading ℕ → Reading ℕ
digits number = number >>= λ n. value (bcd_show 2 n)
