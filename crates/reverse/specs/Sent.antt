-- The sections that are sent.
use Rattle.std.specs.Prelude.{◌≡◌, ℕ, length, get_or}
use mathlib.Core.List.{List, map, flatten}
use Rattle.wire.specs.Each.{Each}
use Rattle.wire.specs.Sections.{WholeSection}

-- "a section whose length is not its header's, is over 4,096, or begins 0xFF" is not sent: each other one is
pub record Sendable (s : List ℕ) : Type 0 where
  pub whole : WholeSection s
  pub no_filler : get_or s 0 0 ≡ 255 → ⊥

-- bytes and sizes that are these sections, end to end, each of which can be sent
pub record Sent (bytes sizes : List ℕ) (sections : List (List ℕ)) : Type 0 where
  pub bytes_are : flatten sections ≡ bytes
  pub sizes_are : map length sections ≡ sizes
  pub each : Each Sendable sections
