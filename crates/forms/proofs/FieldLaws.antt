-- Laws of fields: what is packed is unpacked, and what is unpacked is packed.
use Prim.{tt}
use Prim.Native.Nat.{ℕ, suc, ◌+◌, ◌-◌, ◌*◌, ◌/◌, ◌%◌, ◌^◌, ◌<◌, ◌≤◌}
use mathlib.Core.Path.{◌≡◌, refl, sym, ap, ap₂, ◌∙◌, subst}
use mathlib.Core.List.{List, [], ◌∷◌, ◌++◌}
use native.Mathlib.Omega.{arith}
use native.Mathlib.Nat.{mul-le-mul_right, suc-mul, mul-add-div_right, mul-add-mod_self_right, div-eq_of_lt, mod-eq_of_lt, mod-lt, div-add-mod', mul-pos, div-lt_iff_lt-mul}
use borrow.Author.Tests.{ltb-true, lt-ltb}
use lib.Pow.{pow_pos}
use lib.ListN.{get_or}
use lib.Dec.{ltb}
use Rattle.wire.specs.Reading.{value}
use Rattle.wire.proofs.ReadingLaws.{value_is, never, through}
use Rattle.wire.proofs.IfLaws.{if-case}
use Rattle.forms.specs.Form.{Front, raw_read, EachOk}
use Rattle.forms.specs.Fields.{Field, kept, reserved, width, below_read, below, sheet_field, sheet_fields, room, pack, unpack, Fit, byte_read, byte_of}
use Rattle.forms.specs.Laws.{Lawful, Sound, Complete}
use Rattle.forms.proofs.Lawful.{read_on, mute_lawful, raw_read_lem, raw_shown, one_of, each_lawful, each_ok}

-- ---- one byte read

pub one_read : (s a r : List ℕ) → raw_read 1 s ≡ value (a, r) → s ≡ get_or a 0 0 ∷ r
one_read s a r e = let x = raw_shown 1 s a r e in x.0 ∙ ap (λ l. l ++ r) (one_of a x.1)

below_sound : (n : ℕ) → Sound (below n)
unfolding below_read
below_sound n s v t w e =
    let x = through (raw_read 1 s) _ (v, t) e in
    let a = x.0.0 in
    let r = x.0.1 in
    if-case P (ltb (get_or a 0 0) n)
    (λ h g.
    let q : ◌≡◌ {A = ℕ × List ℕ} (get_or a 0 0, r) (v, t) = value_is g in
    let p : get_or a 0 0 ≡ v = ap (λ (z : ℕ × List ℕ). z.0) q in
    (one_read s a r x.1 ∙ ap (λ (z : ℕ × List ℕ). z.0 ∷ z.1) q, subst (λ k. k < n) p (ltb-true _ _ h)))
    (λ _ g. absurd (never (sym g)))
    x.2
  where
    P : Front ℕ → Type 0
    P y = y ≡ value (v, t) → (s ≡ v ∷ t) × (v < n)

below_complete : (n : ℕ) → Complete (below n)
unfolding below_read
below_complete n v t h = read_on _ (raw_read_lem 1 (v ∷ []) t refl) ∙ rw (lt-ltb v n h)

pub below_lawful : (n : ℕ) → Lawful (below n)
below_lawful n = record { sound = below_sound n; complete = below_complete n }

pub field_lawful : (f : Field) → Lawful (sheet_field f)
field_lawful (kept w) = below_lawful (2 ^ w)
field_lawful (reserved w) = mute_lawful (2 ^ w - 1)

pub fields_lawful : (fs : List Field) → Lawful (sheet_fields fs)
fields_lawful fs = each_lawful sheet_field field_lawful fs

-- what a sheet shows fits a section
pub field_fits : (f : Field) (v : ℕ) → (sheet_field f).Ok v → v < 2 ^ width f
field_fits (kept w) v o = o
field_fits (reserved w) v o = let p = pow_pos w in omega arith

pub fields_fit : (fs : List Field) (vs : List ℕ) → (sheet_fields fs).Ok vs → Fit fs vs
fields_fit = each_ok sheet_field (λ f. below (2 ^ width f)) field_fits

-- ---- packed

pub room_pos : (fs : List Field) → 0 < room fs
unfolding room
room_pos [] = omega arith
room_pos (f ∷ fs) = mul-pos (pow_pos (width f)) (room_pos fs)

pub pack_lt : (fs : List Field) (vs : List ℕ) → Fit fs vs → pack fs vs < room fs
unfolding room pack EachOk
pack_lt [] [] o = omega arith
pack_lt [] (v ∷ vs) o = absurd o
pack_lt (f ∷ fs) [] o = absurd o
pack_lt (f ∷ fs) (v ∷ vs) o =
    let h = pack_lt fs vs o.1 in
    let g : suc v * room fs ≤ 2 ^ width f * room fs = mul-le-mul_right (room fs) o.0 in
    let e = suc-mul v (room fs) in
    omega arith

pub unpack_pack : (fs : List Field) (vs : List ℕ) → Fit fs vs → unpack fs (pack fs vs) ≡ vs
unfolding pack unpack EachOk
unpack_pack [] [] o = refl
unpack_pack [] (v ∷ vs) o = absurd o
unpack_pack (f ∷ fs) [] o = absurd o
unpack_pack (f ∷ fs) (v ∷ vs) o =
    let h = pack_lt fs vs o.1 in
    let p : (v * room fs + pack fs vs) / room fs ≡ v =
    mul-add-div_right (room_pos fs) v (pack fs vs) ∙ ap (λ n. v + n) (div-eq_of_lt h) ∙ omega arith in
    let q : (v * room fs + pack fs vs) % room fs ≡ pack fs vs = mul-add-mod_self_right v (room fs) (pack fs vs) ∙ mod-eq_of_lt h in
    ap₂ (λ x y. x ∷ y) p (ap (unpack fs) q ∙ unpack_pack fs vs o.1)

pub pack_unpack : (fs : List Field) (x : ℕ) → x < room fs → pack fs (unpack fs x) ≡ x
unfolding room pack unpack
pack_unpack [] x h = omega arith
pack_unpack (f ∷ fs) x h =
    ap (λ n. x / room fs * room fs + n) (pack_unpack fs (x % room fs) (mod-lt x (room_pos fs)))
    ∙ div-add-mod' x (room fs)

pub unpack_fits : (fs : List Field) (x : ℕ) → x < room fs → Fit fs (unpack fs x)
unfolding room unpack EachOk
unpack_fits [] x h = tt
unpack_fits (f ∷ fs) x h = ((div-lt_iff_lt-mul (room_pos fs)).1 h, unpack_fits fs (x % room fs) (mod-lt x (room_pos fs)))

pub byte_complete : (fs : List Field) → Complete (byte_of fs)
unfolding byte_read
byte_complete fs vs t o = read_on _ (raw_read_lem 1 (pack fs vs ∷ []) t refl) ∙ ap (λ l. value (l, t)) (unpack_pack fs vs o)
