-- What is told of a field that is wrong stands in the bytes: two digits of a clock, a day, and times, durations and offsets of them, each
-- judged by its fields.
use Prim.{tt}
use Prim.Native.Nat.{ℕ, zero, suc, ◌+◌, ◌-◌, ◌*◌, ◌/◌, ◌%◌, ◌^◌, ◌<◌, ◌≤◌}
use mathlib.Core.Path.{◌≡◌, refl, sym, ap, ap₂, ◌∙◌, subst}
use mathlib.Core.Logic.{inl, inr}
use mathlib.Core.Bool.{Bool, true, false}
use mathlib.Core.List.{List, [], ◌∷◌}
use native.Mathlib.Omega.{arith}
use borrow.Author.Tests.{ltb-true, ltb-false}
use lib.Dec.{eqb, ltb}
use lib.ListN.{get_or}
use Rattle.wire.specs.Bytes.{Bytes}
use Rattle.std.specs.Prelude.{None, Some, if◌then◌else◌}
use Rattle.wire.specs.Reading.{Result, value, refused, ◌>>=◌}
use Rattle.wire.specs.Number.{number, number_at}
use Rattle.wire.specs.Digits.{digit, bcd_of, digit_from, NoneBad}
use Rattle.wire.proofs.IfLaws.{if-case}
use Rattle.wire.proofs.ReadingLaws.{value_is}
use Rattle.wire.proofs.Decimal.{bcd_decimal, bcd_first, bcd_none}
use Rattle.wire.proofs.HalfBytes.{half_of, none_bad_same, first_bad_same}
use Rattle.clock.specs.Fault.{Answered, bad_digit, outOfRange, too_early, in_field}
use Rattle.clock.specs.Field.{below, field, hms}
use Rattle.clock.specs.Time.{Moment, day, time_at, time_of}
use Rattle.clock.specs.Duration.{duration_of}
use Rattle.clock.specs.Offset.{offset_at, offset_of}
use Rattle.clock.specs.Reported.{Checked, digits, clock, mjd, halves, two_digits, BadDigit, Judged, RefusalTells, offset_fields, duration_fields, time_fields}
use Rattle.clock.proofs.FirstWrong.{judged_value, judged_refusal, judged_then, judged_tells}

-- ---- numbers in BCD

-- n digits of a number, whose places in the bytes are those of the field at a place
module _ (b : List ℕ) (at n v : ℕ) (same : (j : ℕ) → j < n → digit_from n v j ≡ halves b at j) where
  bad_told : (j : ℕ) → bcd_of v n ≡ refused j → BadDigit b at n (bad_digit at j)
  bad_told j e = (j, first_bad_same (digit_from n v) (halves b at) n same j ((bcd_first n v j).0 e), refl)

  none_told : (x : ℕ) → bcd_of v n ≡ value x → NoneBad (halves b at) n
  none_told x e = none_bad_same (digit_from n v) (halves b at) n same (bcd_none n v x e)

  pub digits_judged : (r : Result ℕ ℕ) → bcd_of v n ≡ r → Judged b (digits at n ∷ []) (in_field at r)
  digits_judged (value x) e = judged_value b (digits at n ∷ []) x (none_told x e, tt)
  digits_judged (refused j) e = judged_refusal b (digits at n ∷ []) (bad_digit at j) (inl (bad_told j e))

-- two digits that are read are their number
two_are : (v x : ℕ) → bcd_of v 2 ≡ value x → x ≡ digit_from 2 v 0 * 10 + digit_from 2 v 1
two_are v x e =
    let none = bcd_none 2 v x e in
    let legal : (j : ℕ) → j < 2 → digit j v ≤ 9 = λ j l.
    let s : 2 - 1 - (1 - j) ≡ j = omega arith in subst (λ m. digit m v ≤ 9) s (none (1 - j) (omega arith)) in
    value_is (sym e ∙ bcd_decimal 2 v legal) ∙ omega arith

module _ (b : List ℕ) (bytes : Bytes b) where
  -- the digits of a byte
  byte_digits : (at j : ℕ) → j < 2 → digit_from 2 (get_or b at 0) j ≡ halves b at j
  unfolding number_at
  byte_digits at j l =
      let e : get_or b at 0 ≡ number_at 1 b at / 2 ^ (4 * (2 * 1 - 2)) = omega arith in
      ap (λ v. digit_from 2 v j) e ∙ half_of b bytes 1 at 2 j (omega arith) l

  -- "hour, minute and second .. are fields of their own"
  pub field_judged : (at limit : ℕ) → Judged b (clock at limit ∷ []) (field at (get_or b at 0) limit)
  unfolding field
  field_judged at limit = go (bcd_of (get_or b at 0) 2) refl
    where
      v : ℕ
      v = get_or b at 0

      same : (j : ℕ) → j < 2 → digit_from 2 v j ≡ halves b at j
      same = byte_digits at

      fs : List Checked
      fs = clock at limit ∷ []

      go : (r : Result ℕ ℕ) → bcd_of v 2 ≡ r → Judged b fs (in_field at r >>= below at limit)
      go (refused j) e = judged_refusal b fs (bad_digit at j) (inl (inl (bad_told b at 2 v same j e)))
      go (value x) e =
          let none = none_told b at 2 v same x e in
          let is : x ≡ two_digits b at = two_are v x e ∙ ap₂ (λ y z. y * 10 + z) (same 0 (omega arith)) (same 1 (omega arith)) in
          if-case (Judged b fs) (ltb x limit)
          (λ h. judged_value b fs x ((none, subst (λ y. y < limit) is (ltb-true x limit h)), tt))
          (λ h. judged_refusal b fs (outOfRange at) (inl (inr (none, subst (λ y. limit ≤ y) is (ltb-false x limit h), refl))))

  pub hms_judged : (at limit : ℕ)
      → Judged b (clock at limit ∷ clock (at + 1) 60 ∷ clock (at + 2) 60 ∷ [])
      (hms at limit (get_or b at 0) (get_or b (at + 1) 0) (get_or b (at + 2) 0))
  unfolding hms
  hms_judged at limit =
      judged_then b (clock at limit ∷ []) (clock (at + 1) 60 ∷ clock (at + 2) 60 ∷ []) _ _ (field_judged at limit) (λ hour.
      judged_then b (clock (at + 1) 60 ∷ []) (clock (at + 2) 60 ∷ []) _ _ (field_judged (at + 1) 60) (λ minute.
      judged_then b (clock (at + 2) 60 ∷ []) [] _ _ (field_judged (at + 2) 60) (λ second. judged_value b [] _ tt)))

  pub offset_judged : (at : ℕ) (behind : Bool)
      → Judged b (offset_fields at) (offset_at at behind (get_or b at 0) (get_or b (at + 1) 0))
  unfolding offset_at
  offset_judged at behind =
      judged_then b (clock at 24 ∷ []) (clock (at + 1) 60 ∷ []) _ _ (field_judged at 24) (λ hour.
      judged_then b (clock (at + 1) 60 ∷ []) [] _ _ (field_judged (at + 1) 60) (λ minute. judged_value b [] _ tt))

  pub day_judged : (at : ℕ) → Judged b (mjd at ∷ []) (day at (number_at 2 b at))
  day_judged at =
      let d : ℕ = number_at 2 b at in
      if-case (Judged b (mjd at ∷ [])) (ltb d 15079)
      (λ h. judged_refusal b (mjd at ∷ []) (too_early at) (inl (ltb-true d 15079 h, refl)))
      (λ h. judged_value b (mjd at ∷ []) d (ltb-false d 15079 h, tt))

  module _ (at : ℕ) where
    abbrev Hour : ℕ
    Hour = get_or b (at + 2) 0

    abbrev Minute : ℕ
    Minute = get_or b (at + 3) 0

    abbrev Second : ℕ
    Second = get_or b (at + 4) 0

    forty_bits : number (number_at 2 b at ∷ Hour ∷ Minute ∷ Second ∷ []) ≡ number_at 5 b at
    unfolding number_at
    forty_bits =
        let two : at + 2 ≡ at + 1 + 1 = omega arith in
        let three : at + 3 ≡ at + 1 + 1 + 1 = omega arith in
        let four : at + 4 ≡ at + 1 + 1 + 1 + 1 = omega arith in
        rw (two, three, four)

    abbrev Clock : List Checked
    Clock = clock (at + 2) 24 ∷ clock (at + 3) 60 ∷ clock (at + 4) 60 ∷ []

    abbrev FourFields : List Checked
    FourFields = mjd at ∷ Clock

    abbrev Fields : Answered Moment
    Fields = do
      d ← day at (number_at 2 b at)
      t ← hms (at + 2) 24 Hour Minute Second
      value (Some (record { mjd = d; clock = t }))

    clock_judged : Judged b Clock (hms (at + 2) 24 Hour Minute Second)
    clock_judged =
        let minute : at + 2 + 1 ≡ at + 3 = omega arith in
        let second : at + 2 + 2 ≡ at + 4 = omega arith in
        rw (minute, second) at (hms_judged (at + 2) 24)

    four_judged : Judged b FourFields Fields
    four_judged =
        judged_then b (mjd at ∷ []) Clock _ _ (day_judged at) (λ d.
        judged_then b Clock [] _ _ clock_judged (λ t. judged_value b [] _ tt))

    either_judged : (ones : Bool) → Judged b (if ones then [] else FourFields) (if ones then value None else Fields)
    either_judged true = judged_value b [] None tt
    either_judged false = four_judged

    -- "Forty ones mean "undefined", before any check; else MJD, hour, minute and second are four fields."
    pub time_judged : Judged b (time_fields b at) (time_at at (number_at 2 b at) Hour Minute Second)
    unfolding time_at
    time_judged =
        subst (λ n. Judged b (time_fields b at) (if eqb n 0xFF_FFFF_FFFF then value None else Fields)) (sym forty_bits)
        (either_judged (eqb (number_at 5 b at) 0xFF_FFFF_FFFF))

-- ---- by themselves: a place counts in their own bytes

pub byte_more : (x : ℕ) (l : List ℕ) → x < 256 → Bytes l → Bytes (x ∷ l)
byte_more x l h bytes zero = h
byte_more x l h bytes (suc i) = bytes i

pub no_bytes : Bytes []
no_bytes i = omega arith

module _ (h m : ℕ) (hb : h < 256) (mb : m < 256) where
  pub offset_alone : (behind : Bool) → Judged (h ∷ m ∷ []) (offset_fields 0) (offset_of behind h m)
  offset_alone behind = offset_judged (h ∷ m ∷ []) (byte_more h (m ∷ []) hb (byte_more m [] mb no_bytes)) 0 behind

  pub offset_tells : (behind : Bool) → RefusalTells (h ∷ m ∷ []) (offset_fields 0) (offset_of behind h m)
  offset_tells behind = judged_tells (h ∷ m ∷ []) (offset_fields 0) (offset_of behind h m) (offset_alone behind)

  module _ (s : ℕ) (sb : s < 256) where
    three : Bytes (h ∷ m ∷ s ∷ [])
    three = byte_more h (m ∷ s ∷ []) hb (byte_more m (s ∷ []) mb (byte_more s [] sb no_bytes))

    pub duration_alone : Judged (h ∷ m ∷ s ∷ []) (duration_fields 0) (duration_of h m s)
    unfolding duration_of
    duration_alone = hms_judged (h ∷ m ∷ s ∷ []) three 0 100

    pub duration_tells : RefusalTells (h ∷ m ∷ s ∷ []) (duration_fields 0) (duration_of h m s)
    duration_tells = judged_tells (h ∷ m ∷ s ∷ []) (duration_fields 0) (duration_of h m s) duration_alone

    module _ (day : ℕ) (days : day < 65536) where
      abbrev Own : List ℕ
      Own = day / 256 ∷ day % 256 ∷ h ∷ m ∷ s ∷ []

      pub time_alone : Judged Own (time_fields Own 0) (time_of day h m s)
      unfolding number_at
      time_alone =
          let e : day / 256 * 256 + day % 256 ≡ day = omega arith in
          let hms = h ∷ m ∷ s ∷ [] in
          let bytes = byte_more (day / 256) (day % 256 ∷ hms) (omega arith) (byte_more (day % 256) hms (omega arith) three) in
          subst (λ d. Judged Own (time_fields Own 0) (time_of d h m s)) e (time_judged Own bytes 0)

      pub time_tells : RefusalTells Own (time_fields Own 0) (time_of day h m s)
      time_tells = judged_tells Own (time_fields Own 0) (time_of day h m s) time_alone
