-- A section's byte by its place, so that each is known from every other.
use Rattle.std.specs.Prelude.{List, [], ◌∷◌, ℕ, ◌+◌, length}

-- the number of its section, how many bytes of the section are before it and how many behind, and its value
pub record Place : Type 0 where
  pub section : ℕ
  pub before : ℕ
  pub behind : ℕ
  pub value : ℕ

abbrev pub places_of : ℕ → ℕ → List ℕ → List Place
places_of i j [] = []
places_of i j (v ∷ vs) = record { section = i; before = j; behind = length vs; value = v } ∷ places_of i (j + 1) vs

-- the sections from number i on
abbrev pub placed_from : ℕ → List (List ℕ) → List (List Place)
placed_from i [] = []
placed_from i (s ∷ ss) = places_of i 0 s ∷ placed_from (i + 1) ss

abbrev pub placed : List (List ℕ) → List (List Place)
placed sections = placed_from 0 sections
