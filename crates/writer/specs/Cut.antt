-- Sections that stand end to end, each with its size, and which of them can be sent.
use Rattle.std.specs.Prelude.{Bool, not, ◌&&◌, List, [], ◌∷◌, ℕ, length, take, drop, get_or, leb, eqb}
use Rattle.wire.specs.Sections.{total_of}

-- "102 a section whose length is not its header's, is over 4,096, or begins 0xFF": one that can be sent is none of these
abbrev pub sendable : List ℕ → Bool
sendable s = leb 3 (length s) && (eqb (length s) (total_of s) && (leb (length s) 4096 && not (eqb (get_or s 0 0) 255)))

-- the sections by their sizes
abbrev pub cut_by : List ℕ → List ℕ → List (List ℕ)
cut_by [] bytes = []
cut_by (size ∷ sizes) bytes = take size bytes ∷ cut_by sizes (drop size bytes)

-- each can be sent, none is cut short, and no byte is left behind the last
unfoldable pub fit : List ℕ → List ℕ → Bool
fit [] bytes = eqb (length bytes) 0
fit (size ∷ sizes) bytes = leb size (length bytes) && (sendable (take size bytes) && fit sizes (drop size bytes))
