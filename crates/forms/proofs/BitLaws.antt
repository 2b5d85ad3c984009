-- The law of bits: a byte of packed fields has each of them in its own bits, for any list of fields, and back.
use Prim.{Unit}
use Prim.Native.Nat.{ℕ, ◌+◌, ◌-◌, ◌*◌, ◌/◌, ◌%◌, ◌^◌, ◌<◌, ◌≤◌}
use mathlib.Core.Path.{◌≡◌, refl, sym, ap, ap₂, ◌∙◌, subst}
use mathlib.Core.List.{List, [], ◌∷◌}
use native.Mathlib.Nat.{mod-lt}
use native.Mathlib.Omega.{arith}
use lib.Pow.{pow-add, pow_pos, shr_mod, field, mod-mod-pow}
use lib.ListN.{get_or}
use Rattle.wire.specs.Number.{bits_at}
use Rattle.forms.specs.Fields.{Field, width, bits, room, pack, unpack, Fit}
use Rattle.forms.proofs.FieldLaws.{pack_lt, unpack_pack, pack_unpack}

pub room_is : (fs : List Field) → room fs ≡ 2 ^ bits fs
unfolding room
room_is [] = refl
room_is (f ∷ fs) = ap (λ r. 2 ^ width f * r) (room_is fs) ∙ sym (pow-add 2 (width f) (bits fs))

-- the w bits of x above the r lowest do not rest on what stands above them
slice_below : (x t r w : ℕ) → r + w ≤ t → (x % 2 ^ t) / 2 ^ r % 2 ^ w ≡ x / 2 ^ r % 2 ^ w
slice_below x t r w h =
    let e : t ≡ t - r - w + w + r = omega arith in
    ap (λ y. x % 2 ^ y / 2 ^ r % 2 ^ w) e
    ∙ ap (λ y. y % 2 ^ w) (field x (t - r - w + w) r)
    ∙ mod-mod-pow (x / 2 ^ r) (t - r - w) w

-- the fields of a number, each by the bits behind it
abbrev pub slices : ℕ → List Field → List ℕ
slices x [] = []
slices x (f ∷ fs) = (x / 2 ^ bits fs % 2 ^ width f) ∷ slices x fs

slices_below : (fs : List Field) (x t : ℕ) → bits fs ≤ t → slices (x % 2 ^ t) fs ≡ slices x fs
slices_below [] x t h = refl
slices_below (f ∷ fs) x t h =
    ap₂ ◌∷◌ (slice_below x t (bits fs) (width f) (omega arith)) (slices_below fs x t (omega arith))

pub unpack_slices : (fs : List Field) (x : ℕ) → x < 2 ^ bits fs → unpack fs x ≡ slices x fs
unfolding unpack
unpack_slices [] x h = refl
unpack_slices (f ∷ fs) x h =
    ap₂ ◌∷◌ (ap (λ r. x / r) (room_is fs) ∙ sym (shr_mod (width f) (bits fs) h))
    (ap (λ r. unpack fs (x % r)) (room_is fs)
    ∙ unpack_slices fs (x % 2 ^ bits fs) (mod-lt x (pow_pos (bits fs)))
    ∙ slices_below fs x (bits fs) (omega arith))

-- ---- in a byte

-- no field is empty
abbrev pub Wide : List Field → Type 0
Wide [] = Unit {0}
Wide (f ∷ fs) = (0 < width f) × Wide fs

module _ (s : List ℕ) (i : ℕ) where
  -- the fields of the byte at a place, each as `bits_at` takes it: from its highest bit to its lowest
  abbrev pub fields_at : List Field → List ℕ
  fields_at [] = []
  fields_at (f ∷ fs) = bits_at s i (bits fs + width f - 1) (bits fs) ∷ fields_at fs

  fields_slices : (fs : List Field) → Wide fs → fields_at fs ≡ slices (get_or s i 0) fs
  unfolding bits_at
  fields_slices [] w = refl
  fields_slices (f ∷ fs) w =
      let n = w.0 in
      let e : bits fs + width f - 1 + 1 - bits fs ≡ width f = omega arith in
      ap₂ ◌∷◌ (ap (λ k. get_or s i 0 / 2 ^ bits fs % 2 ^ k) e) (fields_slices fs w.1)

  pub fields_unpacked : (fs : List Field) → Wide fs → get_or s i 0 < room fs → fields_at fs ≡ unpack fs (get_or s i 0)
  fields_unpacked fs w h =
      fields_slices fs w ∙ sym (unpack_slices fs (get_or s i 0) (subst (λ n. get_or s i 0 < n) (room_is fs) h))

  -- what was packed is in its bits
  pub packed_at : (fs : List Field) (vs : List ℕ) → Wide fs → Fit fs vs → get_or s i 0 ≡ pack fs vs → fields_at fs ≡ vs
  packed_at fs vs w o e =
      fields_unpacked fs w (subst (λ n. n < room fs) (sym e) (pack_lt fs vs o)) ∙ ap (unpack fs) e ∙ unpack_pack fs vs o

  -- a byte is what its bits pack to
  pub at_packed : (fs : List Field) (vs : List ℕ) → Wide fs → get_or s i 0 < room fs → fields_at fs ≡ vs → get_or s i 0 ≡ pack fs vs
  at_packed fs vs w h e =
      sym (pack_unpack fs (get_or s i 0) h) ∙ ap (pack fs) (sym (fields_unpacked fs w h) ∙ e)
