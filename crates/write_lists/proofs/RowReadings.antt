-- Lists of items as rows of numbers: for any reading of an item of its numbers that goes with a row for each item.
use Prim.{Unit, tt}
use mathlib.Core.Path.{◌≡◌, refl, sym, ap, ap₂, ◌∙◌, subst}
use mathlib.Core.Logic.{◌↔◌, ◌⊎◌, inl, inr, ⊎_elim}
use mathlib.Core.Bool.{Bool, true, false}
use mathlib.Core.List.{List, [], ◌∷◌, ◌++◌, map}
use Prim.Native.Nat.{ℕ, zero, suc, ◌+◌, ◌*◌, ◌/◌, ◌%◌, ◌<◌, ◌≤◌}
use native.Mathlib.Nat.{mul-suc, mul_comm, mul-mod_right, mul-div_right, div-add-mod', mul-zero, add-zero}
use native.Mathlib.Omega.{arith}
use borrow.Author.Tests.{eqb-true, eqb-false, eq-eqb, ltb-true, lt-ltb}
use lib.Dec.{eqb, ltb}
use lib.IntN.{ℤ, pos, negsuc}
use lib.ListN.{length, get_or, take, drop, length-append, length-drop, take-append-drop}
use lib.Seq.{drop-cons, drop-drop, take_at, drop_at, get_or-drop}
use Rattle.wire.specs.Each.{Each}
use Rattle.std.specs.Prelude.{if◌then◌else◌}
use Rattle.wire.specs.Reading.{Result, Reading, value, refused, ◌>>=◌}
use Rattle.wire.proofs.IfLaws.{if-case}
use Rattle.wire.proofs.ReadingLaws.{value_is, refused_is, never, through}
use Rattle.clock.specs.Fault.{Answered}
use Rattle.layout.specs.Shapes.{joined}
use Rattle.writing.specs.Rows.{natural, rows, items_of, together, items_from}
use Rattle.write_lists.specs.Lists.{row_at}

-- ---- one test

-- what is read where a test holds
pub if-value : {W A : Type 0} (t : Bool) (a b : A) (w : W) → (if t then value a else refused w) ≡ value b
    → (t ≡ true) × (a ≡ b)
if-value true a b w e = (refl, value_is e)
if-value false a b w e = absurd (never (sym e))

-- ---- refusals

-- what is refused through two readings was refused by the first, or by the second
refused_by_lem : {W A B : Type 0} (r : Result W A) (f : A → Result W B) (w : W) → (r >>= f) ≡ refused w
    → (r ≡ refused w) ⊎ ((a : A) × (r ≡ value a) × (f a ≡ refused w))
refused_by_lem (value a) f w e = inr (a, refl, e)
refused_by_lem (refused v) f w e = inl (ap refused (refused_is e))

-- "112 a field outside its layout" is the only refusal
abbrev pub Field112 : {A : Type 0} → Reading A → Type 0
Field112 r = (j : ℕ) → r ≡ refused j → j ≡ 112

module _ {A : Type 0} where
  pub value-112 : (a : A) → Field112 (value a)
  value-112 a j e = absurd (never e)

  pub refused-112 : Field112 {A = A} (refused 112)
  refused-112 j e = sym (refused_is e)

  pub then-112 : {B : Type 0} (r : Reading A) (f : A → Reading B) → Field112 r → ((a : A) → Field112 (f a))
      → Field112 (r >>= f)
  then-112 (value a) f g h = h a
  then-112 (refused w) f g h = λ j e. g j (ap refused (refused_is e))

-- ---- a number from 0 on, below a limit

module _ (limit : ℕ) where
  pub natural_value : (n : ℕ) → n < limit → natural limit (pos n) ≡ value n
  unfolding natural
  natural_value n h = rw (lt-ltb n limit h)

  natural_is : (z : ℤ) (n : ℕ) → natural limit z ≡ value n → (z ≡ pos n) × (n < limit)
  unfolding natural
  natural_is (pos m) n = λ e.
      let x = if-value (ltb m limit) m n 112 e in
      (ap pos x.1, subst (λ j. j < limit) x.1 (ltb-true m limit x.0))
  natural_is (negsuc m) n = λ e. absurd (never (sym e))

  -- what is read through a number and more
  pub natural_then : {A : Type 0} (z : ℤ) (f : ℕ → Reading A) (a : A) → (natural limit z >>= f) ≡ value a
      → (n : ℕ) × (z ≡ pos n) × (n < limit) × (f n ≡ value a)
  natural_then z f a e =
      let t = through (natural limit z) f a e in let x = natural_is z t.0 t.1 in (t.0, x.0, x.1, t.2)

  pub natural-112 : (z : ℤ) → Field112 (natural limit z)
  unfolding natural
  natural-112 (pos m) = if-case Field112 (ltb m limit) (λ _. value-112 m) (λ _. refused-112)
  natural-112 (negsuc m) = refused-112

-- ---- k numbers of a list, from a place on

abbrev pub numbers_from : List ℤ → ℕ → ℕ → List ℤ
numbers_from zs i zero = []
numbers_from zs i (suc k) = get_or zs i (pos 0) ∷ numbers_from zs (suc i) k

take_numbers : (k i : ℕ) (zs : List ℤ) → i + k ≤ length zs → take k (drop i zs) ≡ numbers_from zs i k
take_numbers zero i zs h = refl
take_numbers (suc k) i zs h =
    ap (take (suc k)) (drop-cons zs i (pos 0) (omega arith))
    ∙ ap (λ l. get_or zs i (pos 0) ∷ l) (take_numbers k (suc i) zs (omega arith))

pub first_numbers : (k : ℕ) (zs : List ℤ) → k ≤ length zs → take k zs ≡ numbers_from zs 0 k
first_numbers k zs h = take_numbers k 0 zs (omega arith)

pub numbers_drop : (k i j : ℕ) (zs : List ℤ) → numbers_from (drop j zs) i k ≡ numbers_from zs (j + i) k
numbers_drop zero i j zs = refl
numbers_drop (suc k) i j zs =
    let e : j + suc i ≡ suc (j + i) = omega arith in
    ap₂ ◌∷◌ (get_or-drop j zs i (pos 0)) (numbers_drop k (suc i) j zs ∙ ap (λ m. numbers_from zs m k) e)

-- ---- items and their rows

-- so many elements each, put together
pub together_length : {A B : Type 0} (k : ℕ) (show : A → List B) → ((a : A) → length (show a) ≡ k) → (l : List A)
    → length (together show l) ≡ k * length l
unfolding together
together_length k show sized [] = sym (mul-zero k)
together_length k show sized (a ∷ l) =
    length-append (show a) (together show l)
    ∙ ap₂ ◌+◌ (sized a) (together_length k show sized l)
    ∙ (let e = mul-suc k (length l) in omega arith)

-- `item` makes an item of the numbers that a list begins with, k of them; `row` are those of a good one
pub record Rowed {A : Type 0} (k : ℕ) (item : List ℤ → Reading A) (row : A → List ℤ) (Good : A → Type 0) : Type 0 where
  pub some : 0 < k
  pub sized : (a : A) → length (row a) ≡ k
  pub there : (a : A) (zs : List ℤ) → Good a → item (row a ++ zs) ≡ value a
  pub back : (zs : List ℤ) (a : A) → k ≤ length zs → item zs ≡ value a → (take k zs ≡ row a) × Good a
  pub only : (zs : List ℤ) → Field112 (item zs)

-- one row more is k numbers more
next : (k i : ℕ) → k * suc i ≡ k + k * i
next k i = let e = mul-suc k i in omega arith

module _ {A : Type 0} {k : ℕ} {item : List ℤ → Reading A} {row : A → List ℤ} {Good : A → Type 0}
    (laws : Rowed k item row Good) where
  row_length : (l : List A) → length (together row l) ≡ k * length l
  row_length = together_length k row laws.sized

  -- so many rows
  pub row_count : (l : List A) → (length (together row l) % k ≡ 0) × (length (together row l) / k ≡ length l)
  row_count l = (
    ap (λ j. j % k) (row_length l) ∙ mul-mod_right k (length l),
    ap (λ j. j / k) (row_length l) ∙ mul-div_right (length l) laws.some,
  )

  -- the row of an index
  pub row-at : (l : List A) (i : ℕ) → i < length l → Each Good l
      → (a : A) × Good a × (row_at k (together row l) i ≡ row a)
  unfolding together
  row-at [] i h g = absurd (omega arith)
  row-at (a ∷ l) zero h g = (
    a,
    g.0,
    ap (λ j. take k (drop j (row a ++ together row l))) (mul-zero k)
        ∙ take_at (row a) (together row l) k (laws.sized a),
  )
  row-at (a ∷ l) (suc i) h g =
      let x = row-at l i (omega arith) g.1 in (
        x.0,
        x.1,
        ap (λ j. take k (drop j (row a ++ together row l))) (next k i)
            ∙ ap (take k) (sym (drop-drop (k * i) k (row a ++ together row l))
            ∙ ap (drop (k * i)) (drop_at (row a) (together row l) k (laws.sized a)))
            ∙ x.2,
      )

  rows_there : (l : List A) → Each Good l → rows k item (length l) (together row l) ≡ value l
  unfolding rows together
  rows_there [] g = refl
  rows_there (a ∷ l) g =
      rw (
        laws.there a (together row l) g.0,
        drop_at (row a) (together row l) k (laws.sized a),
        rows_there l g.1,
      )

  module _ (m : ℕ) (zs : List ℤ) (e : length zs ≡ k * suc m) where
    rest : length (drop k zs) ≡ k * m
    rest = length-drop k zs ∙ (let n = next k m in omega arith)

    enough : k ≤ length zs
    enough = let n = next k m in omega arith

  rows_back : (m : ℕ) (zs : List ℤ) (l : List A) → length zs ≡ k * m → rows k item m zs ≡ value l
      → Each Good l × (together row l ≡ zs)
  unfolding rows together
  rows_back zero [] l h e = subst (λ l. Each Good l × (together row l ≡ [])) (value_is e) (tt, refl)
  rows_back zero (z ∷ zs) l h e = absurd (let n = mul-zero k in omega arith)
  rows_back (suc m) zs l h e =
      let t = through (item zs) _ l e in
      let u = through (rows k item m (drop k zs)) _ l t.2 in
      let x = laws.back zs t.0 (enough m zs h) t.1 in
      let y = rows_back m (drop k zs) u.0 (rest m zs h) u.1 in
      subst (λ l. Each Good l × (together row l ≡ zs)) (value_is u.2)
      ((x.1, y.0), ap₂ ◌++◌ (sym x.0) y.1 ∙ take-append-drop k zs)

  rows_refused : (m : ℕ) (zs : List ℤ) (j : ℕ) → rows k item m zs ≡ refused j
      → (i : ℕ) × (i < m) × (item (drop (k * i) zs) ≡ refused j)
  unfolding rows
  rows_refused zero zs j e = absurd (never e)
  rows_refused (suc m) zs j e =
      ⊎_elim
      (λ (r : item zs ≡ refused j). (0, omega arith, ap (λ i. item (drop i zs)) (mul-zero k) ∙ r))
      (λ (x : (a : A) × (item zs ≡ value a) × _).
      ⊎_elim
      (λ (r : rows k item m (drop k zs) ≡ refused j).
      let y = rows_refused m (drop k zs) j r in (
        suc y.0,
        omega (arith, y.1),
        ap (λ i. item (drop i zs)) (next k y.0) ∙ ap item (sym (drop-drop (k * y.0) k zs)) ∙ y.2,
      ))
      (λ y. absurd (never y.2))
      (refused_by_lem (rows k item m (drop k zs)) _ j x.2))
      (refused_by_lem (item zs) _ j e)

  -- numbers are the rows of good items, or some are left that are no row, or one row is refused
  pub items_exactly : (zs : List ℤ) (l : List A) → items_of k item zs ≡ value l ↔ Each Good l × (together row l ≡ zs)
  unfolding items_of
  items_exactly zs l = (
    if-case (λ r. r ≡ value l → Each Good l × (together row l ≡ zs)) (eqb (length zs % k) 0)
        (λ h e. rows_back (length zs / k) zs l (whole (eqb-true _ _ h)) e)
        (λ _ e. absurd (never (sym e))),
    λ x.
        let c = row_count l in
        ap (items_of k item) (sym x.1)
        ∙ rw (eq-eqb (length (together row l) % k) 0 c.0, c.1) (rows_there l x.0),
  )
    where
      whole : length zs % k ≡ 0 → length zs ≡ k * (length zs / k)
      whole z =
          sym (div-add-mod' (length zs) k)
          ∙ ap₂ ◌+◌ (mul_comm (length zs / k) k) z
          ∙ add-zero (k * (length zs / k))

  pub items_refused : (zs : List ℤ) (j : ℕ) → items_of k item zs ≡ refused j
      → (j ≡ 112)
      × ((length zs % k ≡ 0 → ⊥) ⊎ ((i : ℕ) × (i < length zs / k) × (item (drop (k * i) zs) ≡ refused j)))
  unfolding items_of
  items_refused zs j =
      if-case (λ r. r ≡ refused j → Why) (eqb (length zs % k) 0)
      (λ _ e. let x = rows_refused (length zs / k) zs j e in (laws.only _ j x.2, inr x))
      (λ h e. (sym (refused_is e), inl (eqb-false _ _ h)))
    where
      Why : Type 0
      Why = (j ≡ 112)
          × ((length zs % k ≡ 0 → ⊥) ⊎ ((i : ℕ) × (i < length zs / k) × (item (drop (k * i) zs) ≡ refused j)))

-- ---- what is made of items

module _ {A : Type 0} (f : A → List ℕ) where
  pub joined_map : (l : List A) → joined (map f l) ≡ together f l
  unfolding together
  joined_map [] = refl
  joined_map (a ∷ l) = ap (λ t. f a ++ t) (joined_map l)

  -- the bytes of an item of the numbers that a list begins with
  abbrev pub piece_of : (List ℤ → Reading A) → List ℤ → Reading (List ℕ)
  piece_of item zs = item zs >>= λ a. value (f a)

  module _ (k : ℕ) (item : List ℤ → Reading A) where
    rows_made : (m : ℕ) (zs : List ℤ) → rows k (piece_of item) m zs ≡ (rows k item m zs >>= λ l. value (map f l))
    unfolding rows
    rows_made zero zs = refl
    rows_made (suc m) zs =
        ap (λ r. piece_of item zs >>= λ b. r >>= λ l. value (b ∷ l)) (rows_made m (drop k zs))
        ∙ one (item zs) (rows k item m (drop k zs))
      where
        one : (r : Reading A) (t : Reading (List A))
            → ((r >>= λ a. value (f a)) >>= λ b. (t >>= λ l. value (map f l)) >>= λ l. value (b ∷ l))
            ≡ ((r >>= λ a. t >>= λ l. value (a ∷ l)) >>= λ l. value (map f l))
        one (value a) (value l) = refl
        one (value a) (refused j) = refl
        one (refused j) t = refl

    -- the pieces are those of the items
    pub items_made : (zs : List ℤ) → items_of k (piece_of item) zs ≡ (items_of k item zs >>= λ l. value (map f l))
    unfolding items_of
    items_made zs = by_test (eqb (length zs % k) 0)
      where
        by_test : (t : Bool)
            → (if t then rows k (piece_of item) (length zs / k) zs else refused 112)
            ≡ ((if t then rows k item (length zs / k) zs else refused 112) >>= λ l. value (map f l))
        by_test true = rows_made (length zs / k) zs
        by_test false = refl

-- ---- two lists, one beside the other

abbrev pub Beside : {A B : Type 0} → (B → A → Type 0) → List B → List A → Type 0
Beside R [] [] = Unit {0}
Beside R [] (a ∷ l) = ⊥
Beside R (b ∷ bs) [] = ⊥
Beside R (b ∷ bs) (a ∷ l) = R b a × Beside R bs l

module _ {A B : Type 0} where
  module _ (R S : B → A → Type 0) (so : (b : B) (a : A) → R b a → S b a) where
    pub beside_map : (bs : List B) (l : List A) → Beside R bs l → Beside S bs l
    beside_map [] [] x = tt
    beside_map [] (a ∷ l) x = x
    beside_map (b ∷ bs) [] x = x
    beside_map (b ∷ bs) (a ∷ l) x = (so b a x.0, beside_map bs l x.1)

  module _ (R : B → A → Type 0) where
    pub beside_length : (bs : List B) (l : List A) → Beside R bs l → length bs ≡ length l
    beside_length [] [] x = refl
    beside_length [] (a ∷ l) x = absurd x
    beside_length (b ∷ bs) [] x = absurd x
    beside_length (b ∷ bs) (a ∷ l) x = ap suc (beside_length bs l x.1)

    -- a property of each by its index
    pub beside_with : (d : B) (P : B → Type 0) (bs : List B) (l : List A) → Beside R bs l
        → ((i : ℕ) → i < length bs → P (get_or bs i d)) → Beside (λ b a. R b a × P b) bs l
    beside_with d P [] [] x h = tt
    beside_with d P [] (a ∷ l) x h = x
    beside_with d P (b ∷ bs) [] x h = x
    beside_with d P (b ∷ bs) (a ∷ l) x h =
        ((x.0, h 0 (omega arith)), beside_with d P bs l x.1 (λ i g. h (suc i) (omega arith)))

    pub beside_at : (d : B) (bs : List B) (l : List A) → Beside R bs l → (i : ℕ) → i < length bs
        → (a : A) × R (get_or bs i d) a
    beside_at d [] l x i h = absurd (omega arith)
    beside_at d (b ∷ bs) [] x i h = absurd x
    beside_at d (b ∷ bs) (a ∷ l) x zero h = (a, x.0)
    beside_at d (b ∷ bs) (a ∷ l) x (suc i) h = beside_at d bs l x.1 i (omega arith)

    -- items that are read by their index
    module _ (d : B) (read : ℕ → Answered A) where
      pub items_from_lem : (bs : List B) (l : List A) (i : ℕ)
          → ((j : ℕ) (a : A) → j < length bs → R (get_or bs j d) a → read (i + j) ≡ value a)
          → Beside R bs l → items_from read i (length bs) ≡ value l
      unfolding items_from
      items_from_lem [] [] i h x = refl
      items_from_lem [] (a ∷ l) i h x = absurd x
      items_from_lem (b ∷ bs) [] i h x = absurd x
      items_from_lem (b ∷ bs) (a ∷ l) i h x =
          let first : read i ≡ value a = subst (λ j. read j ≡ value a) (add-zero i) (h 0 a (omega arith) x.0) in
          let others = items_from_lem bs l (i + 1)
          (λ j c g r. subst (λ n. read n ≡ value c) (omega arith) (h (suc j) c (omega arith) r)) x.1 in
          rw (first, others)

      pub from_items : (bs : List B) (l : List A) (i : ℕ)
          → ((j : ℕ) (a : A) → j < length bs → read (i + j) ≡ value a → R (get_or bs j d) a)
          → items_from read i (length bs) ≡ value l → Beside R bs l
      unfolding items_from
      from_items [] l i h e = subst (Beside R []) (value_is e) tt
      from_items (b ∷ bs) l i h e =
          let t = through (read i) _ l e in
          let u = through (items_from read (i + 1) (length bs)) _ l t.2 in
          let first = h 0 t.0 (omega arith) (subst (λ j. read j ≡ value t.0) (sym (add-zero i)) t.1) in
          let others = from_items bs u.0 (i + 1)
          (λ j c g r. h (suc j) c (omega arith) (subst (λ n. read n ≡ value c) (omega arith) r)) u.1 in
          subst (Beside R (b ∷ bs)) (value_is u.2) (first, others)

-- ---- bytes beside items

module _ {A : Type 0} (R : List ℕ → A → Type 0) (f : A → List ℕ) where
  -- what is made of the items, where each is the bytes beside it, and where it has as many
  pub beside_same : ((b : List ℕ) (a : A) → R b a → f a ≡ b) → (bs : List (List ℕ)) (l : List A) → Beside R bs l
      → together f l ≡ joined bs
  unfolding together
  beside_same so [] [] x = refl
  beside_same so [] (a ∷ l) x = absurd x
  beside_same so (b ∷ bs) [] x = absurd x
  beside_same so (b ∷ bs) (a ∷ l) x = ap₂ ◌++◌ (so b a x.0) (beside_same so bs l x.1)

  pub beside_size : ((b : List ℕ) (a : A) → R b a → length (f a) ≡ length b) → (bs : List (List ℕ)) (l : List A)
      → Beside R bs l → length (together f l) ≡ length (joined bs)
  unfolding together
  beside_size so [] [] x = refl
  beside_size so [] (a ∷ l) x = absurd x
  beside_size so (b ∷ bs) [] x = absurd x
  beside_size so (b ∷ bs) (a ∷ l) x =
      length-append (f a) (together f l)
      ∙ ap₂ ◌+◌ (so b a x.0) (beside_size so bs l x.1)
      ∙ sym (length-append b (joined bs))
