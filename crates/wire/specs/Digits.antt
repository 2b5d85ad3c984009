-- Numbers in BCD: four bits for each decimal digit, the highest first.
use Rattle.std.specs.Prelude.{ℕ, zero, suc, ◌+◌, ◌-◌, ◌*◌, ◌/◌, ◌%◌, ◌^◌, ◌<◌, ◌≤◌, ltb, if◌then◌else◌, Result as Returned, Ok, Err}
use Rattle.wire.specs.Reading.{Result, value, refused}
use Rattle.wire.specs.declared.digits.BadDigit.{BadDigit}

-- the digit of v that has k digits below it
abbrev pub digit : ℕ → ℕ → ℕ
digit k v = v / 2 ^ (4 * k) % 16

-- the number a, read from i digits, followed by the k low digits of v; a digit above 9 is refused with its place
unfoldable pub bcd_after : ℕ → ℕ → ℕ → ℕ → Result ℕ ℕ
bcd_after i a zero v = value a
bcd_after i a (suc k) v = if ltb 9 (digit k v) then refused i else bcd_after (i + 1) (a * 10 + digit k v) k v

-- the number that the n low digits of v are, or "the place of the first bad digit": the highest of the n is at 0
unfoldable pub bcd_of : ℕ → ℕ → Result ℕ ℕ
bcd_of v n = bcd_after 0 0 n v

-- the digit at place j of the n low digits of v, the highest of them at 0
abbrev pub digit_from : ℕ → ℕ → ℕ → ℕ
digit_from n v j = digit (n - 1 - j) v

-- none of n digits is above 9
abbrev pub NoneBad : (ℕ → ℕ) → ℕ → Type 0
NoneBad digits n = (j : ℕ) → j < n → digits j ≤ 9

-- "the place of the first bad digit": of n digits the one at place j is above 9, and none in front of it
pub record FirstBad (digits : ℕ → ℕ) (n j : ℕ) : Type 0 where
  pub inside : j < n
  pub bad : 9 < digits j
  pub before : NoneBad digits j

-- the sum of the k low digits of v, each at its power of ten
abbrev pub decimal : ℕ → ℕ → ℕ
decimal zero v = 0
decimal (suc k) v = digit k v * 10 ^ k + decimal k v

-- the n low decimal digits of a, in BCD
unfoldable pub bcd_show : ℕ → ℕ → ℕ
bcd_show zero a = 0
bcd_show (suc k) a = bcd_show k (a / 10) * 16 + a % 10

-- the number, or the place of the first bad digit
abbrev pub told : Returned ℕ BadDigit → Result ℕ ℕ
told (Ok a) = value a
told (Err bad) = refused bad.0
