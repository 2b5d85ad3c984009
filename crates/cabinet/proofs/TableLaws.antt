-- Lists by their elements, and an array that is filled one element at a time.
use Prim.Native.Nat.{ℕ, zero, suc, ◌+◌, ◌≤◌, ◌<◌}
use mathlib.Core.Path.{◌≡◌, refl, sym, ap, ap₂, ◌∙◌}
use mathlib.Core.List.{List, [], ◌∷◌, ◌++◌}
use native.Mathlib.Numerals.{add-one}
use native.Mathlib.Omega.{arith}
use lib.ListN.{length, take, get_or, set}
use lib.Seq.{take-suc-set, take_all, ext_get_or}
use Rattle.cabinet.specs.Table.{table}

module _ {A : Type 0} where
  pub table_long : (n : ℕ) (f : ℕ → A) → length (table n f) ≡ n
  unfolding table
  table_long zero f = refl
  table_long (suc n) f = ap suc (table_long n (λ i. f (suc i)))

  pub table_at : (n : ℕ) (f : ℕ → A) (i : ℕ) (d : A) → i < n → get_or (table n f) i d ≡ f i
  unfolding table
  table_at zero f i d h = absurd (omega arith)
  table_at (suc n) f zero d h = refl
  table_at (suc n) f (suc i) d h = table_at n (λ j. f (suc j)) i d (omega arith)

  -- a list that has these elements
  pub table_is : (l : List A) (n : ℕ) (f : ℕ → A) (d : A) → length l ≡ n → ((i : ℕ) → i < n → get_or l i d ≡ f i) → l ≡ table n f
  table_is l n f d long each =
      ext_get_or d l (table n f) (long ∙ sym (table_long n f))
      (λ i h. let below : i < n = omega (arith, long) in each i below ∙ sym (table_at n f i d below))

  pub table_same : (n : ℕ) (f g : ℕ → A) → ((i : ℕ) → i < n → f i ≡ g i) → table n f ≡ table n g
  unfolding table
  table_same zero f g h = refl
  table_same (suc n) f g h =
      ap₂ ◌∷◌ (h 0 (omega arith)) (table_same n (λ i. f (suc i)) (λ i. g (suc i)) (λ i l. h (suc i) (omega arith)))

  table_suc : (n : ℕ) (f : ℕ → A) → table (suc n) f ≡ table n f ++ (f n ∷ [])
  unfolding table
  table_suc zero f = refl
  table_suc (suc n) f = ap (λ l. f 0 ∷ l) (table_suc n (λ i. f (suc i)))

  -- the first i elements are there
  abbrev pub Filled : (ℕ → A) → List A → ℕ → Type 0
  Filled f l i = take i l ≡ table i f

  pub filled_none : (f : ℕ → A) → [] ≡ table 0 f
  unfolding table
  filled_none f = refl

  pub filled_more : (f : ℕ → A) (l : List A) (i : ℕ) (b : A) → i < length l → b ≡ f i → Filled f l i → Filled f (set l i b) (i + 1)
  filled_more f l i b h is so_far = rw (add-one i, take-suc-set l i b h, so_far, is) (sym (table_suc i f))

  pub filled_all : (f : ℕ → A) (l : List A) (i n : ℕ) → length l ≡ n → n ≤ i → i ≤ n → Filled f l i → l ≡ table n f
  filled_all f l i n long a b so_far =
      let same : i ≡ n = omega arith in
      sym (take_all i l (omega (arith, long))) ∙ so_far ∙ ap (λ k. table k f) same
