-- A section's bytes by its own header: all of them, or the first of them.
use Rattle.std.specs.Prelude.{◌≡◌, List, ℕ, ◌+◌, ◌≤◌, ◌<◌, length}
use Rattle.wire.specs.Bytes.{len12_at}

-- the bytes of a section, by its header: three, and those of its section_length
abbrev pub total_of : List ℕ → ℕ
total_of s = 3 + len12_at s 1

-- bytes that are one section: the header is there, and declares as many as there are, 4,096 at most
pub record WholeSection (bs : List ℕ) : Type 0 where
  pub header : 3 ≤ length bs
  pub exact : length bs ≡ total_of bs
  pub limit : total_of bs ≤ 4096

-- bytes that a section begins with and that are not all of it: the header, once it is there, declares more than there is, and 4,096 at most
pub record Unfinished (h : List ℕ) : Type 0 where
  pub more : 3 ≤ length h → (total_of h ≤ 4096) × (length h < total_of h)
