-- The place of each field in a layout is the one that `unpack` gives it, for any widths.
use mathlib.Core.Path.{◌≡◌, refl, sym, ap, ap₂, ◌∙◌, subst}
use mathlib.Core.Bool.{Bool, true, false}
use mathlib.Core.List.{List, [], ◌∷◌}
use Prim.Native.Nat.{ℕ, zero, suc, ◌+◌, ◌-◌, ◌*◌, ◌/◌, ◌%◌, ◌^◌, ◌<◌, ◌≤◌}
use native.Mathlib.Nat.{mod-eq_of_lt}
use native.Mathlib.Omega.{arith}
use borrow.Author.Tests.{eqb-true, eqb-false}
use lib.Dec.{eqb}
use lib.Pow.{shr_lt}
use lib.ListN.{length, get_or}
use Rattle.wire.specs.Bytes.{Bytes}
use Rattle.wire.specs.Number.{number, number_at}
use Rattle.wire.proofs.NumberBits.{number_below, number_at_below, bits_in_number}
use Rattle.wire.specs.Digits.{bcd_of, bcd_show}
use Rattle.wire.proofs.Decimal.{bcd_below}
use Rattle.wire.proofs.Shown.{bcd_shown, bcd_of_shown}
use Rattle.forms.proofs.Lawful.{bytes_front, bytes_behind}
use Rattle.forms.proofs.BitLaws.{slices, unpack_slices}
use Rattle.forms.specs.Fields.{Field, width, unpack}
use Rattle.wire.specs.Reading.{value}
use Rattle.clock.specs.Fault.{in_field}
use Rattle.clock.proofs.Exactly.{read_digits}
use Rattle.layout.specs.Widths.{bits, kept_of, keptIn, bit, size, Holds, HoldsItem}
use Rattle.layout.specs.Body.{fixed}
use Rattle.layout.specs.Field.{digits_at}
use Rattle.layout.specs.Shapes.{Framed, joined, Itemed}
use Rattle.layout.specs.Items.{item}
use Rattle.layout.proofs.Accepts.{fixed_exactly, each_at, item_exactly}

-- the number that w bits are, with o bits in front of them: those bits of the bytes over which they reach
abbrev pub span : ℕ → ℕ → List ℕ → ℕ
span o w b = number_at ((o % 8 + w + 7) / 8) b (o / 8) / 2 ^ (8 * ((o % 8 + w + 7) / 8) - o % 8 - w) % 2 ^ w

-- each field of a layout so, with o bits in front of the first
abbrev pub spans : ℕ → List Field → List ℕ → List ℕ
spans o [] b = []
spans o (f ∷ fs) b = span o (width f) b ∷ spans (o + width f) fs b

module _ (b : List ℕ) (bytes : Bytes b) where
  -- a field with o bits in front of it and r behind
  slice_span : (o w r : ℕ) → o + w + r ≡ 8 * length b → number b / 2 ^ r % 2 ^ w ≡ span o w b
  slice_span o w r e =
      let n : ℕ = (o % 8 + w + 7) / 8 in
      let i : ℕ = o / 8 in
      let k : ℕ = length b - i - n in
      let m : ℕ = 8 * n - o % 8 - w in
      let l : length b ≡ i + n + k = omega arith in
      let q : r ≡ 8 * k + m = omega arith in
      ap (λ y. number b / 2 ^ y % 2 ^ w) q ∙ bits_in_number b bytes n i k l m w (omega arith)

  slices_spans : (fs : List Field) (o : ℕ) → o + bits fs ≡ 8 * length b → slices (number b) fs ≡ spans o fs b
  slices_spans [] o e = refl
  slices_spans (f ∷ fs) o e =
      ap₂ ◌∷◌ (slice_span o (width f) (bits fs) (omega arith)) (slices_spans fs (o + width f) (omega arith))

  -- what a layout takes out of bytes that it fills is each field at its place
  pub unpack_spans : (fs : List Field) → bits fs ≡ 8 * length b → unpack fs (number b) ≡ spans 0 fs b
  unpack_spans fs e =
      unpack_slices fs (number b) (subst (λ y. number b < 2 ^ y) (sym e) (number_below b bytes))
      ∙ slices_spans fs 0 (omega arith)

  pub digits_below : (n i : ℕ) → n ≤ 8 → number_at 4 b i / 2 ^ (4 * (8 - n)) < 2 ^ (4 * n)
  digits_below n i h =
      let e : 32 ≡ 4 * n + 4 * (8 - n) = omega arith in
      shr_lt (4 * n) (4 * (8 - n)) (subst (λ y. number_at 4 b i < 2 ^ y) e (number_at_below 4 b i bytes))

  -- a field of whole bytes
  pub whole_span : (n i : ℕ) → number_at n b i / 2 ^ 0 % 2 ^ (8 * n) ≡ number_at n b i
  whole_span n i =
      let d : number_at n b i / 2 ^ 0 ≡ number_at n b i = omega arith in
      ap (λ y. y % 2 ^ (8 * n)) d ∙ mod-eq_of_lt (number_at_below n b i bytes)

  -- the first n of the eight digits that stand in four bytes
  pub digits_span : (n i : ℕ) → n ≤ 8 → i + 4 ≤ length b → span (8 * i) (4 * n) b ≡ number_at 4 b i / 2 ^ (4 * (8 - n))
  digits_span n i h l =
      let r : ℕ = 4 * (8 - n) in
      let k : ℕ = length b - i - 4 in
      sym (slice_span (8 * i) (4 * n) (8 * k + r) (omega arith))
      ∙ bits_in_number b bytes 4 i k (omega arith) r (4 * n) (omega arith)
      ∙ mod-eq_of_lt (digits_below n i h)

  module _ (n i x : ℕ) (most : n ≤ 8) (inside : i + 4 ≤ length b) where
    all : 8 - (8 - n) ≡ n
    all = omega arith

    -- digits that are read are what their number shows, and what a number shows is read
    pub digits_shown : digits_at b i n ≡ value x → (span (8 * i) (4 * n) b ≡ bcd_show n x) × (x < 10 ^ n)
    unfolding digits_at
    digits_shown e =
        let v : ℕ = number_at 4 b i / 2 ^ (4 * (8 - n)) in
        let r : bcd_of v n ≡ value x = ap (bcd_of v) (sym all) ∙ read_digits i x (bcd_of v (8 - (8 - n))) e in
        (digits_span n i most inside ∙ sym (bcd_shown n v x (digits_below n i most) r), bcd_below n v x r)

    pub digits_read : span (8 * i) (4 * n) b ≡ bcd_show n x → x < 10 ^ n → digits_at b i n ≡ value x
    unfolding digits_at
    digits_read e h =
        ap (in_field i)
        (ap₂ bcd_of (sym (digits_span n i most inside) ∙ e) all ∙ bcd_of_shown n x h)

-- a flag that is read is its bit
pub flag : (x : ℕ) → x % 2 ≡ bit (eqb (x % 2) 1)
flag x = bool_case (eqb (x % 2) 1) refl
  where
    bool_case : (t : Bool) → eqb (x % 2) 1 ≡ t → x % 2 ≡ bit t
    bool_case true e = eqb-true (x % 2) 1 e
    bool_case false e = let n = eqb-false (x % 2) 1 e in omega (arith, n)

-- one value more in front of two lists of values
infixr 3 ◌also◌
pub ◌also◌ : {x y : ℕ} {xs ys : List ℕ} → x ≡ y → xs ≡ ys → x ∷ xs ≡ y ∷ ys
e also es = ap₂ ◌∷◌ e es

pub bit_once : (p q : Bool) → bit p ≡ bit q → p ≡ q
bit_once true true e = refl
bit_once true false e = absurd (omega arith)
bit_once false true e = absurd (omega arith)
bit_once false false e = refl

pub bit_read : (p : Bool) → eqb (bit p) 1 ≡ p
bit_read true = refl
bit_read false = refl

-- ---- descriptors

pub body_bytes : {tag : ℕ} {s : List ℕ} (b : List ℕ) → Framed tag s b → Bytes s → Bytes b
body_bytes b e bytes i = subst (λ l. get_or l (suc (suc i)) 0 < 256) e (bytes (suc (suc i)))

module _ (tag n : ℕ) (s : List ℕ) (bytes : Bytes s) (fs : List Field) (fills : bits fs ≡ 8 * n) where
  -- a body of n bytes by the places of its fields
  pub holds : (b vs : List ℕ) → fixed s tag n ≡ value b → kept_of fs (spans 0 fs b) ≡ vs → Holds tag fs s vs
  unfolding keptIn
  holds b vs e h =
      let x = (fixed_exactly n tag s b).0 e in
      let f : bits fs ≡ 8 * length b = fills ∙ ap (λ j. 8 * j) (sym x.1) in
      record {
        body = b;
        framed = x.0;
        filled = f;
        fields = ap (kept_of fs) (unpack_spans b (body_bytes b x.0 bytes) fs f) ∙ h;
      }

  pub held : (vs : List ℕ) (h : Holds tag fs s vs)
      → (fixed s tag n ≡ value h.body) × (kept_of fs (spans 0 fs h.body) ≡ vs)
  unfolding keptIn
  held vs h =
      let b : List ℕ = h.body in
      let l : length b ≡ n = let f = h.filled in omega arith in (
        (fixed_exactly n tag s b).1 (h.framed, l),
        sym (ap (kept_of fs) (unpack_spans b (body_bytes b h.framed bytes) fs h.filled)) ∙ h.fields,
      )

-- ---- items

item_bytes : (xs : List (List ℕ)) (i : ℕ) → Bytes (joined xs) → Bytes (get_or xs i [])
item_bytes [] i h = λ j. omega arith
item_bytes (x ∷ xs) zero h = bytes_front x (joined xs) refl h
item_bytes (x ∷ xs) (suc i) h = item_bytes xs i (bytes_behind x (joined xs) refl h)

module _ (tag n i : ℕ) (some : 0 < n) (s : List ℕ) (bytes : Bytes s) (fs : List Field) (fills : bits fs ≡ 8 * n) where
  whole : size fs ≡ n
  whole = ap (λ j. j / 8) fills ∙ omega arith

  module _ (xs : List (List ℕ)) (are : Itemed n tag s xs) (l : i < length xs) where
    of-bytes : Bytes (get_or xs i [])
    of-bytes = item_bytes xs i (body_bytes (joined xs) are.framed bytes)

    of_length : bits fs ≡ 8 * length (get_or xs i [])
    of_length = fills ∙ ap (λ j. 8 * j) (sym (each_at n xs i are.each l))

  pub given_bytes : (b : List ℕ) → item s tag n i ≡ value b → Bytes b
  given_bytes b e = let x = (item_exactly n tag some s i b).0 e in subst Bytes x.3 (of-bytes x.0 x.1 x.2)

  -- an item by the places of its fields
  pub holds_item : (b vs : List ℕ) → item s tag n i ≡ value b → kept_of fs (spans 0 fs b) ≡ vs → HoldsItem tag fs s i vs
  unfolding keptIn
  holds_item b vs e h =
      let x = (item_exactly n tag some s i b).0 e in
      let xs = x.0 in
      let y : List ℕ = get_or xs i [] in
      record {
        items = xs;
        itemed = subst (λ k. Itemed k tag s xs) (sym whole) x.1;
        there = x.2;
        fields =
            ap (kept_of fs) (unpack_spans y (of-bytes xs x.1 x.2) fs (of_length xs x.1 x.2))
            ∙ ap (λ c. kept_of fs (spans 0 fs c)) x.3
            ∙ h;
      }

  pub held_item : (vs : List ℕ) → HoldsItem tag fs s i vs
      → (b : List ℕ) × (item s tag n i ≡ value b) × Bytes b × (kept_of fs (spans 0 fs b) ≡ vs)
  unfolding keptIn
  held_item vs h =
      let xs = h.items in
      let b : List ℕ = get_or xs i [] in
      let are : Itemed n tag s xs = subst (λ k. Itemed k tag s xs) whole h.itemed in
      let bb = of-bytes xs are h.there in (
        b,
        (item_exactly n tag some s i b).1 (xs, are, h.there, refl),
        bb,
        sym (ap (kept_of fs) (unpack_spans b bb fs (of_length xs are h.there))) ∙ h.fields,
      )
