-- Times, durations and offsets are read exactly if their bytes are the digits of a value in range.
use Prim.{tt}
use mathlib.Core.Path.{◌≡◌, refl, sym, ap, ap₂, ◌∙◌, subst}
use mathlib.Core.Logic.{◌↔◌}
use mathlib.Core.Bool.{Bool, true, false}
use mathlib.Core.List.{[], ◌∷◌}
use Prim.Native.Nat.{ℕ, ◌+◌, ◌*◌, ◌/◌, ◌%◌, ◌<◌, ◌≤◌}
use native.Mathlib.Omega.{arith}
use borrow.Author.Tests.{eqb-true, eq-eqb, ne_eqb, ltb-false, lt-ltb, le-ltb}
use lib.Dec.{eqb, ltb}
use lib.IntN.{ℤ, pos, neg_ℤ, nat_abs}
use Rattle.std.specs.Prelude.{None, Some}
use Rattle.wire.specs.Reading.{Result, value, refused}
use Rattle.wire.specs.Number.{number}
use Rattle.wire.specs.Digits.{digit, bcd_after, bcd_of, bcd_show}
use Rattle.wire.proofs.ReadingLaws.{value_is, never, through}
use Rattle.wire.proofs.IfLaws.{if-case}
use Rattle.wire.proofs.Decimal.{bcd_bad}
use Rattle.wire.proofs.Shown.{bcd_shown, bcd_of_shown, show_below}
use Rattle.clock.specs.Fault.{RefusedAs, outOfRange, in_field}
use Rattle.clock.specs.Field.{field, hms, InRange, Written}
use Rattle.clock.specs.Time.{Moment, day, time_at, time_of, Defined, time_shown}
use Rattle.clock.specs.Duration.{duration_of}
use Rattle.clock.specs.Offset.{signed, offset_at, offset_of, offset_shown}
use Rattle.clock.specs.declared.Hms.{Hms}
use Rattle.clock.specs.declared.time.Time.{Time}
use Rattle.clock.proofs.Ranges.{field_below, size_of}

-- ---- one field

-- digits that are read at a place are those that are read
pub read_digits : (at x : ℕ) (r : Result ℕ ℕ) → in_field at r ≡ value x → r ≡ value x
read_digits at x (value y) e = ap value (value_is e)
read_digits at x (refused j) e = absurd (never (sym e))

module _ (at b limit n : ℕ) (byte : b < 256) (most : limit ≤ 100) where
  pub field_exactly : field at b limit ≡ value n ↔ (n < limit) × (bcd_show 2 n ≡ b)
  unfolding field
  field_exactly = (
    λ e.
        let t = through (in_field at (bcd_of b 2)) _ n e in
        let below : n < limit = field_below at b limit n e in
        let same : t.0 ≡ n =
        if-case (λ x. x ≡ value n → t.0 ≡ n) (ltb t.0 limit) (λ _ q. value_is q) (λ _ q. absurd (never (sym q)))
        t.2 in
        (below, ap (bcd_show 2) (sym same) ∙ bcd_shown 2 b t.0 byte (read_digits at t.0 (bcd_of b 2) t.1)),
    λ x. rw (ap (λ v. bcd_of v 2) (sym x.1) ∙ bcd_of_shown 2 n (omega (arith, x.0)), lt-ltb n limit x.0),
  )

-- "63 BCD digit above 9"
pub bad_digit_lem : (at b limit j : ℕ) → j < 2 → 9 < digit j b → RefusedAs 63 (field at b limit)
unfolding field
bad_digit_lem at b limit j h g = rw (bcd_bad 2 b j h g).1 refl

-- "64 hour above 23, minute or second above 59"
pub out_of_range : (at limit n : ℕ) → limit ≤ n → n < 100 → field at (bcd_show 2 n) limit ≡ refused (outOfRange at)
unfolding field
out_of_range at limit n h g = rw (bcd_of_shown 2 n g, le-ltb n limit h)

-- ---- a clock

module _ (at limit : ℕ) (most : limit ≤ 100) (h m s : ℕ) (hb : h < 256) (mb : m < 256) (sb : s < 256) (t : Hms) where
  pub hms_exactly : hms at limit h m s ≡ value t ↔ InRange limit t × Written t h m s
  unfolding hms
  hms_exactly = (
    λ e.
        let a = through (field at h limit) _ t e in
        let b = through (field (at + 1) m 60) _ t a.2 in
        let c = through (field (at + 2) s 60) _ t b.2 in
        let hour = (field_exactly at h limit a.0 hb most).0 a.1 in
        let minute = (field_exactly (at + 1) m 60 b.0 mb (omega arith)).0 b.1 in
        let second = (field_exactly (at + 2) s 60 c.0 sb (omega arith)).0 c.1 in
        subst (λ x. InRange limit x × Written x h m s) (value_is c.2) (
          record { hour = hour.0; minute = minute.0; second = second.0 },
          record { hour = hour.1; minute = minute.1; second = second.1 },
        ),
    λ x.
        rw (
          (field_exactly at h limit t.hour hb most).1 (x.0.hour, x.1.hour),
          (field_exactly (at + 1) m 60 t.minute mb (omega arith)).1 (x.0.minute, x.1.minute),
          (field_exactly (at + 2) s 60 t.second sb (omega arith)).1 (x.0.second, x.1.second),
        ),
  )

-- "A duration's hours go to 99"
pub duration_exactly : (h m s : ℕ) → h < 256 → m < 256 → s < 256 → (t : Hms)
    → duration_of h m s ≡ value t ↔ InRange 100 t × Written t h m s
unfolding duration_of
duration_exactly h m s hb mb sb t = hms_exactly 0 100 (omega arith) h m s hb mb sb t

-- ---- an offset

module _ (hour minute : ℕ) (hours : hour < 24) (minutes : minute < 60) where
  either : (at : ℕ) (behind : Bool)
      → offset_at at behind (bcd_show 2 hour) (bcd_show 2 minute) ≡ value (signed behind (hour * 60 + minute))
  unfolding offset_at
  either at behind =
      rw (
        (field_exactly at (bcd_show 2 hour) 24 hour (show_below 2 hour) (omega arith)).1 (hours, refl),
        (field_exactly (at + 1) (bcd_show 2 minute) 60 minute (show_below 2 minute) (omega arith)).1 (minutes, refl),
      )

  -- "An offset is signed minutes (polarity 1 is behind UTC)"
  pub offset_behind : offset_of true (bcd_show 2 hour) (bcd_show 2 minute) ≡ value (neg_ℤ (pos (hour * 60 + minute)))
  offset_behind = either 0 true

  pub offset_ahead : offset_of false (bcd_show 2 hour) (bcd_show 2 minute) ≡ value (pos (hour * 60 + minute))
  offset_ahead = either 0 false

-- "1 with 0000 is zero"
pub zero_offset : (behind : Bool) → offset_of behind 0x00 0x00 ≡ value (pos 0)
unfolding offset_at field bcd_of bcd_after
zero_offset true = refl
zero_offset false = refl

module _ (behind : Bool) (h m : ℕ) (hb : h < 256) (mb : m < 256) (z : ℤ) where
  pub offset_at_exactly : (at : ℕ) → offset_at at behind h m ≡ value z ↔ (z ≡ signed behind (nat_abs z)) × (nat_abs z < 1440)
      × (h * 256 + m ≡ offset_shown z)
  unfolding offset_at
  offset_at_exactly at = (
    λ e.
        let a = through (field at h 24) _ z e in
        let b = through (field (at + 1) m 60) _ z a.2 in
        let hour = (field_exactly at h 24 a.0 hb (omega arith)).0 a.1 in
        let minute = (field_exactly (at + 1) m 60 b.0 mb (omega arith)).0 b.1 in
        let n : ℕ = a.0 * 60 + b.0 in
        let size : nat_abs (signed behind n) ≡ n = size_of behind n in
        let quotient : nat_abs (signed behind n) / 60 ≡ a.0 = ap (λ j. j / 60) size ∙ omega (arith, minute.0) in
        let remainder : nat_abs (signed behind n) % 60 ≡ b.0 = ap (λ j. j % 60) size ∙ omega (arith, minute.0) in
        let high : h ≡ bcd_show 2 (nat_abs (signed behind n) / 60) = sym (ap (bcd_show 2) quotient ∙ hour.1) in
        let low : m ≡ bcd_show 2 (nat_abs (signed behind n) % 60) = sym (ap (bcd_show 2) remainder ∙ minute.1) in
        let below : n < 1440 = omega (arith, hour.0, minute.0) in
        subst (λ y. (y ≡ signed behind (nat_abs y)) × (nat_abs y < 1440) × (h * 256 + m ≡ offset_shown y))
        (value_is b.2)
        (ap (signed behind) (sym size), subst (λ j. j < 1440) (sym size) below, ap₂ (λ i j. i * 256 + j) high low),
    λ x.
        let n : ℕ = nat_abs z in
        let hs = show_below 2 (n / 60) in
        let ms = show_below 2 (n % 60) in
        let high : h ≡ bcd_show 2 (n / 60) = omega (arith, x.2) in
        let low : m ≡ bcd_show 2 (n % 60) = omega (arith, x.2) in
        let whole : n / 60 * 60 + n % 60 ≡ n = omega arith in
        ap₂ (offset_at at behind) high low
        ∙ either (n / 60) (n % 60) (omega (arith, x.1)) (omega arith) at behind
        ∙ ap value (ap (signed behind) whole ∙ sym x.0),
  )

  pub offset_exactly : offset_of behind h m ≡ value z ↔ (z ≡ signed behind (nat_abs z)) × (nat_abs z < 1440)
      × (h * 256 + m ≡ offset_shown z)
  offset_exactly = offset_at_exactly 0

-- ---- a time

day_is : (at mjd d : ℕ) → day at mjd ≡ value d → (15079 ≤ d) × (mjd ≡ d)
day_is at mjd d =
    if-case (λ x. x ≡ value d → (15079 ≤ d) × (mjd ≡ d)) (ltb mjd 15079) (λ _ e. absurd (never (sym e)))
    (λ h e. (subst (λ n. 15079 ≤ n) (value_is e) (ltb-false mjd 15079 h), value_is e))

not_at : {t : Time} → Some t ≡ None → ⊥
not_at e = let z : ◌≡◌ {A = ℕ} 0 1 = cc in omega arith

-- no two digits are eight ones
not_ones : (n : ℕ) → bcd_show 2 n ≡ 255 → ⊥
unfolding bcd_show
not_ones n e = omega arith

module _ (mjd h m s : ℕ) (days : mjd < 65536) (hb : h < 256) (mb : m < 256) (sb : s < 256) where
  abbrev Told : Moment → Type 0
  Told x = Defined x × (number (mjd ∷ h ∷ m ∷ s ∷ []) ≡ time_shown x)

  undefined_at : (at : ℕ)
      → time_at at mjd h m s ≡ value None ↔ (mjd ≡ 0xFFFF) × (h ≡ 0xFF) × (m ≡ 0xFF) × (s ≡ 0xFF)
  unfolding time_at
  undefined_at at = (
    if-case (λ x. x ≡ value None → (mjd ≡ 0xFFFF) × (h ≡ 0xFF) × (m ≡ 0xFF) × (s ≡ 0xFF))
        (eqb (number (mjd ∷ h ∷ m ∷ s ∷ [])) 0xFF_FFFF_FFFF)
        (λ g _. let e = eqb-true (number (mjd ∷ h ∷ m ∷ s ∷ [])) 0xFF_FFFF_FFFF g in
        (omega arith, omega arith, omega arith, omega arith))
        (λ _ e.
        let a = through (day at mjd) _ None e in
        let b = through (hms (at + 2) 24 h m s) _ None a.2 in
        absurd (not_at (value_is b.2))),
    λ x. rw (eq-eqb (number (mjd ∷ h ∷ m ∷ s ∷ [])) 0xFF_FFFF_FFFF (omega (arith, x.0, x.1, x.2, x.3))),
  )

  -- "Forty ones mean "undefined", before any check"
  pub undefined_exactly : time_of mjd h m s ≡ value None ↔ (mjd ≡ 0xFFFF) × (h ≡ 0xFF) × (m ≡ 0xFF) × (s ≡ 0xFF)
  undefined_exactly = undefined_at 0

  -- what is read is what its forty bits show, wherever it stands
  pub time_at_exactly : (at : ℕ) (x : Moment)
      → time_at at mjd h m s ≡ value x ↔ Defined x × (number (mjd ∷ h ∷ m ∷ s ∷ []) ≡ time_shown x)
  unfolding time_at
  time_at_exactly at None = (
    λ e. let u = (undefined_at at).0 e in (tt, omega (arith, u.0, u.1, u.2, u.3)),
    λ x. rw (eq-eqb (number (mjd ∷ h ∷ m ∷ s ∷ [])) 0xFF_FFFF_FFFF x.1),
  )
  time_at_exactly at (Some t) = (
    if-case (λ x. x ≡ value (Some t) → Told (Some t)) (eqb (number (mjd ∷ h ∷ m ∷ s ∷ [])) 0xFF_FFFF_FFFF)
        (λ _ e. absurd (not_at (sym (value_is e))))
        (λ _ e.
        let a = through (day at mjd) _ (Some t) e in
        let b = through (hms (at + 2) 24 h m s) _ (Some t) a.2 in
        let d = day_is at mjd a.0 a.1 in
        let c = (hms_exactly (at + 2) 24 (omega arith) h m s hb mb sb b.0).0 b.1 in
        subst Told (value_is b.2) ((d.0, c.0), omega (arith, d.1, c.1.hour, c.1.minute, c.1.second))),
    λ x.
        let hs = show_below 2 t.clock.hour in
        let ms = show_below 2 t.clock.minute in
        let ss = show_below 2 t.clock.second in
        let hour : bcd_show 2 t.clock.hour ≡ h = omega (arith, x.1) in
        let minute : bcd_show 2 t.clock.minute ≡ m = omega (arith, x.1) in
        let second : bcd_show 2 t.clock.second ≡ s = omega (arith, x.1) in
        let same : mjd ≡ t.mjd = omega (arith, x.1) in
        let no : number (mjd ∷ h ∷ m ∷ s ∷ []) ≡ 0xFF_FFFF_FFFF → ⊥ = λ o. let n : s ≡ 255 =
        omega arith in not_ones t.clock.second (second ∙ n) in
        rw (
          ne_eqb (number (mjd ∷ h ∷ m ∷ s ∷ [])) 0xFF_FFFF_FFFF no,
          le-ltb mjd 15079 (omega (arith, x.0.0)),
          (hms_exactly (at + 2) 24 (omega arith) h m s hb mb sb t.clock).1
              (x.0.1, record { hour = hour; minute = minute; second = second }),
          same,
        ),
  )

  pub time_exactly : (x : Moment)
      → time_of mjd h m s ≡ value x ↔ Defined x × (number (mjd ∷ h ∷ m ∷ s ∷ []) ≡ time_shown x)
  time_exactly = time_at_exactly 0
