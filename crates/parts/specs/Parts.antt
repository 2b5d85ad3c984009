-- A part of bytes, by its place and its size.
use Rattle.std.specs.Prelude.{ℕ, ◌+◌, ◌-◌, ◌≡◌, Bool, List, length, take, drop, leb}
use Rattle.wire.specs.Parts as stands
use Rattle.parts.specs.declared.Part.{Part}

-- the two put together
abbrev pub part : ℕ → ℕ → Part
part a n = record { start = a; size = n }

-- in the place of a part where there is none
abbrev pub no_part : Part
no_part = part 0 0

-- the part lies in s
unfoldable pub within : List ℕ → Part → Bool
within s p = leb (p.start + p.size) (length s)

-- the bytes of a part, as far as s has them
abbrev pub bytes_of : List ℕ → Part → List ℕ
bytes_of s p = take p.size (drop p.start s)

-- what is left of a part behind its first n bytes
abbrev pub behind : ℕ → Part → Part
behind n p = part (p.start + n) (p.size - n)

-- the part of s is l, to the last byte
pub record Is (s : List ℕ) (p : Part) (l : List ℕ) : Type 0 where
  pub stands : stands.Part s p.start l
  pub sized : length l ≡ p.size
