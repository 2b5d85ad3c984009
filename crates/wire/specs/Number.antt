-- Numbers of several bytes, the highest first, and fields of some bits of a byte.
use Rattle.std.specs.Prelude.{List, [], ◌∷◌, ℕ, zero, suc, ◌+◌, ◌-◌, ◌*◌, ◌/◌, ◌%◌, ◌^◌, eqb, get_or, if◌then◌else◌}

-- the number a followed by the bytes of l
abbrev pub number_after : ℕ → List ℕ → ℕ
number_after a [] = a
number_after a (b ∷ l) = number_after (a * 256 + b) l

-- the number that the bytes of l are, the first of them the highest
abbrev pub number : List ℕ → ℕ
number [] = 0
number (b ∷ l) = number_after b l

-- the n bytes of s from place i on; a byte that is not there counts as 0
abbrev pub bytes_at : ℕ → List ℕ → ℕ → List ℕ
bytes_at zero s i = []
bytes_at (suc n) s i = get_or s i 0 ∷ bytes_at n s (i + 1)

-- the number in the n bytes of s at place i
unfoldable pub number_at : ℕ → List ℕ → ℕ → ℕ
number_at n s i = number (bytes_at n s i)

-- the half byte of s at place i, the high half of the first byte at 0
abbrev pub half_byte : List ℕ → ℕ → ℕ
half_byte s i = if eqb (i % 2) 0 then get_or s (i / 2) 0 / 16 else get_or s (i / 2) 0 % 16

-- the bits h down to l of the byte of s at place i; b7 is a byte's highest, b0 its lowest
unfoldable pub bits_at : List ℕ → ℕ → ℕ → ℕ → ℕ
bits_at s i h l = get_or s i 0 / 2 ^ l % 2 ^ (h + 1 - l)
