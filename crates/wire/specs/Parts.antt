-- A part of a list, by its place.
use Rattle.std.specs.Prelude.{◌≡◌, List, ◌++◌, ℕ, length}

-- l is the part of s at the place p
pub record Part (s : List ℕ) (p : ℕ) (l : List ℕ) : Type 0 where
  pub front : List ℕ
  pub back : List ℕ
  pub whole : s ≡ front ++ (l ++ back)
  pub place : length front ≡ p
