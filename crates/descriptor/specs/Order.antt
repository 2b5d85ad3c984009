-- "Order: 61, 62, 66, then fields left to right": what a reading says of bytes that have no tag, of bytes whose body does not fit, and of an index
-- past the end, whatever else may be wrong with them.
use Rattle.std.specs.Prelude.{ℕ, ◌≤◌, ◌≡◌, List, length}
use Rattle.wire.specs.Reading.{refused}
use Rattle.clock.specs.Fault.{Answered, plain}
use Rattle.layout.specs.Shapes.{Framed, NoTag, Itemed, Texted}
use Rattle.layout.specs.declared.texts.TwoTexts.{TwoTexts}

-- which bodies fit: any
abbrev pub AnyBody : ℕ → List ℕ → Type 0
AnyBody tag s = (b : List ℕ) × Framed tag s b

-- of n bytes
abbrev pub Sized : ℕ → ℕ → List ℕ → Type 0
Sized n tag s = (b : List ℕ) × Framed tag s b × (length b ≡ n)

-- of items of k bytes
abbrev pub Items : ℕ → ℕ → List ℕ → Type 0
Items k tag s = (xs : List (List ℕ)) × Itemed k tag s xs

-- of h bytes and two texts
abbrev pub Texts : ℕ → ℕ → List ℕ → Type 0
Texts h tag s = (b : List ℕ) × Framed tag s b × ((t : TwoTexts) × Texted h b t)

-- 61 first, and then 62
pub record InOrder {A : Type 0} (tag : ℕ) (Fits : List ℕ → Type 0) (read : List ℕ → Answered A) : Type 0 where
  pub tag_first : (s : List ℕ) → NoTag tag s → read s ≡ refused (plain 61)
  pub then-body : (s : List ℕ) → (NoTag tag s → ⊥) → (Fits s → ⊥) → read s ≡ refused (plain 62)

-- and then 66, for every index
pub record ListInOrder {A : Type 0} (k tag : ℕ) (read : List ℕ → ℕ → Answered A) : Type 0 where
  pub at : (i : ℕ) → InOrder tag (Items k tag) (λ s. read s i)
  pub then-index : (s : List ℕ) (xs : List (List ℕ)) (i : ℕ) → Itemed k tag s xs → length xs ≤ i
      → read s i ≡ refused (plain 66)
