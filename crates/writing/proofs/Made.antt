-- Bytes made of the fields of a layout have these fields, and bytes are made of the fields that they have: for any layout.
use Prim.{tt}
use mathlib.Core.Path.{◌≡◌, refl, sym, ap, ap₂, ◌∙◌, subst}
use mathlib.Core.Bool.{true}
use mathlib.Core.List.{List, [], ◌∷◌}
use Prim.Native.Nat.{ℕ, ◌*◌, ◌/◌, ◌^◌, ◌<◌}
use native.Mathlib.Omega.{arith}
use borrow.Author.Tests.{ltb-true, lt-ltb}
use lib.Dec.{ltb}
use lib.ListN.{length}
use lib.Pow.{pow_pos}
use Rattle.wire.specs.Bytes.{Bytes}
use Rattle.wire.specs.Number.{number}
use Rattle.wire.proofs.IfLaws.{if-case, true_not_false}
use Rattle.wire.proofs.NumberBits.{number_below}
use Rattle.forms.specs.Form.{EachOk}
use Rattle.forms.specs.Fields.{Field, kept, reserved, room, pack, unpack, Fit}
use Rattle.forms.proofs.FieldLaws.{pack_lt, unpack_pack, pack_unpack, unpack_fits}
use Rattle.forms.proofs.BitLaws.{room_is}
use Rattle.layout.specs.Widths.{bits, size, kept_of, keptIn}
use Rattle.writing.specs.Number.{ofNumber}
use Rattle.writing.specs.Fill.{ones, zeros, filled, made, Reserved, ReservedIn, below, capacities}
use Rattle.writing.proofs.NumberBytes.{length_of, of-bytes, number-of, of_number}

-- ---- below

module _ (v l : ℕ) (vs ls : List ℕ) where
  pub below_first : below (v ∷ vs) (l ∷ ls) ≡ true → (v < l) × (below vs ls ≡ true)
  unfolding below
  below_first =
      if-case (λ b. b ≡ true → (v < l) × (below vs ls ≡ true)) (ltb v l) (λ h e. (ltb-true v l h, e))
      (λ _ e. absurd (true_not_false (sym e)))

  pub below_also : v < l → below vs ls ≡ true → below (v ∷ vs) (l ∷ ls) ≡ true
  unfolding below
  below_also h e = rw (lt-ltb v l h) e

-- ---- what is laid down for reserved fields fits them

abbrev pub Laid : (ℕ → ℕ) → Type 0
Laid by = (w : ℕ) → by w < 2 ^ w

pub ones_laid : Laid ones
ones_laid w = let p = pow_pos w in omega arith

pub zeros_laid : Laid zeros
zeros_laid w = pow_pos w

-- ---- the values of all fields, and of those that are kept

module _ (by : ℕ → ℕ) where
  filled_fits : Laid by → (fs : List Field) (vs : List ℕ) → below vs (capacities fs) ≡ true → Fit fs (filled by fs vs)
  unfolding filled below EachOk
  filled_fits laid [] [] h = tt
  filled_fits laid [] (v ∷ vs) h = absurd (true_not_false (sym h))
  filled_fits laid (kept w ∷ fs) [] h = absurd (true_not_false (sym h))
  filled_fits laid (kept w ∷ fs) (v ∷ vs) h =
      let x = below_first v (2 ^ w) vs (capacities fs) h in (x.0, filled_fits laid fs vs x.1)
  filled_fits laid (reserved w ∷ fs) vs h = (laid w, filled_fits laid fs vs h)

  kept_filled : (fs : List Field) (vs : List ℕ) → below vs (capacities fs) ≡ true → kept_of fs (filled by fs vs) ≡ vs
  unfolding filled below
  kept_filled [] [] h = refl
  kept_filled [] (v ∷ vs) h = absurd (true_not_false (sym h))
  kept_filled (kept w ∷ fs) [] h = absurd (true_not_false (sym h))
  kept_filled (kept w ∷ fs) (v ∷ vs) h =
      ap (λ l. v ∷ l) (kept_filled fs vs (below_first v (2 ^ w) vs (capacities fs) h).1)
  kept_filled (reserved w ∷ fs) vs h = kept_filled fs vs h

  reserved_filled : (fs : List Field) (vs : List ℕ) → Reserved by fs (filled by fs vs)
  unfolding filled
  reserved_filled [] vs = tt
  reserved_filled (kept w ∷ fs) [] = tt
  reserved_filled (kept w ∷ fs) (v ∷ vs) = reserved_filled fs vs
  reserved_filled (reserved w ∷ fs) vs = (refl, reserved_filled fs vs)

  filled_kept : (fs : List Field) (us : List ℕ) → Fit fs us → Reserved by fs us → filled by fs (kept_of fs us) ≡ us
  unfolding filled EachOk
  filled_kept [] [] o r = refl
  filled_kept [] (u ∷ us) o r = absurd o
  filled_kept (f ∷ fs) [] o r = absurd o
  filled_kept (kept w ∷ fs) (u ∷ us) o r = ap (λ l. u ∷ l) (filled_kept fs us o.1 r)
  filled_kept (reserved w ∷ fs) (u ∷ us) o r = ap₂ ◌∷◌ (sym r.0) (filled_kept fs us o.1 r.1)

kept_below : (fs : List Field) (us : List ℕ) → Fit fs us → below (kept_of fs us) (capacities fs) ≡ true
unfolding below EachOk
kept_below [] [] o = refl
kept_below [] (u ∷ us) o = absurd o
kept_below (f ∷ fs) [] o = absurd o
kept_below (kept w ∷ fs) (u ∷ us) o = below_also u (2 ^ w) (kept_of fs us) (capacities fs) o.0 (kept_below fs us o.1)
kept_below (reserved w ∷ fs) (u ∷ us) o = kept_below fs us o.1

-- ---- bytes

module _ (fs : List Field) (n : ℕ) (fills : bits fs ≡ 8 * n) where
  size_is : size fs ≡ n
  size_is = ap (λ j. j / 8) fills ∙ omega arith

  room_bytes : room fs ≡ 2 ^ (8 * size fs)
  room_bytes = room_is fs ∙ ap (λ j. 2 ^ j) (fills ∙ ap (λ j. 8 * j) (sym size_is))

  module _ (by : ℕ → ℕ) (vs : List ℕ) where
    pub made_length : length (made by fs vs) ≡ n
    unfolding made
    made_length = length_of (size fs) (pack fs (filled by fs vs)) ∙ size_is

    pub made_bytes : Bytes (made by fs vs)
    unfolding made
    made_bytes = of-bytes (size fs) (pack fs (filled by fs vs))

    module _ (laid : Laid by) (inside : below vs (capacities fs) ≡ true) where
      made_unpacked : unpack fs (number (made by fs vs)) ≡ filled by fs vs
      unfolding made
      made_unpacked =
          let fit = filled_fits by laid fs vs inside in
          let small = subst (λ m. pack fs (filled by fs vs) < m) room_bytes (pack_lt fs (filled by fs vs) fit) in
          ap (unpack fs) (number-of (size fs) (pack fs (filled by fs vs)) small)
          ∙ unpack_pack fs (filled by fs vs) fit

      -- what is made has the values that it was made of
      pub made_kept : keptIn fs (made by fs vs) ≡ vs
      unfolding keptIn
      made_kept = ap (kept_of fs) made_unpacked ∙ kept_filled by fs vs inside

      pub made_reserved : ReservedIn by fs (made by fs vs)
      made_reserved = subst (Reserved by fs) (sym made_unpacked) (reserved_filled by fs vs)

  module _ (b : List ℕ) (bytes : Bytes b) (l : length b ≡ n) where
    in_room : number b < room fs
    in_room =
        subst (λ m. number b < m) (sym (room_is fs ∙ ap (λ j. 2 ^ j) (fills ∙ ap (λ j. 8 * j) (sym l))))
        (number_below b bytes)

    -- the values that bytes have are inside the layout
    pub kept_inside : below (keptIn fs b) (capacities fs) ≡ true
    unfolding keptIn
    kept_inside = kept_below fs (unpack fs (number b)) (unpack_fits fs (number b) in_room)

    -- bytes are made of the values that they have, where the reserved fields have what is laid down
    pub made_again : (by : ℕ → ℕ) → ReservedIn by fs b → made by fs (keptIn fs b) ≡ b
    unfolding keptIn made
    made_again by r =
        ap (λ us. ofNumber (size fs) (pack fs us))
        (filled_kept by fs (unpack fs (number b)) (unpack_fits fs (number b) in_room) r)
        ∙ ap₂ ofNumber (size_is ∙ sym l) (pack_unpack fs (number b) in_room)
        ∙ of_number b bytes
