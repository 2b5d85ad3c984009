-- What a descriptor's bytes are, said of the bytes alone: no reading stands in here.
use Prim.{Unit}
use Rattle.std.specs.Prelude.{ℕ, ◌+◌, ◌≡◌, List, [], ◌∷◌, ◌++◌, length}
use Rattle.layout.specs.Refusal.{part_at}
use Rattle.layout.specs.declared.texts.TwoTexts.{TwoTexts}

-- a tag, the number of the bytes behind it, and those bytes
abbrev pub Framed : ℕ → List ℕ → List ℕ → Type 0
Framed tag s body = s ≡ tag ∷ length body ∷ body

-- "61 no byte, or tag differs"
abbrev pub NoTag : ℕ → List ℕ → Type 0
NoTag tag [] = Unit {0}
NoTag tag (t ∷ rest) = t ≡ tag → ⊥

-- "62 length byte missing or not the number of bytes after it"
abbrev pub NoBody : ℕ → List ℕ → Type 0
NoBody tag s = (NoTag tag s → ⊥) × ((body : List ℕ) → Framed tag s body → ⊥)

-- lists put together, one behind the other
abbrev pub joined : List (List ℕ) → List ℕ
joined [] = []
joined (x ∷ xs) = x ++ joined xs

-- each of them has k elements
abbrev pub Each : ℕ → List (List ℕ) → Type 0
Each k [] = Unit {0}
Each k (x ∷ xs) = (length x ≡ k) × Each k xs

-- a descriptor whose body is the items, each of k bytes, put together
pub record Itemed (k tag : ℕ) (s : List ℕ) (items : List (List ℕ)) : Type 0 where
  pub framed : Framed tag s (joined items)
  pub each : Each k items

-- a body of h bytes, a first text after the byte that gives its length, a second text so, and nothing else; t has their places
pub record Texted (h : ℕ) (body : List ℕ) (t : TwoTexts) : Type 0 where
  pub head : List ℕ
  pub first : List ℕ
  pub second : List ℕ
  pub filled : body ≡ head ++ (length first ∷ (first ++ (length second ∷ second)))
  pub size : length head ≡ h
  pub places : t ≡ record { first = part_at (h + 1) (length first); second = part_at (h + 2 + length first) (length second) }
