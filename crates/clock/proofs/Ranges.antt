-- What is read lies in range: a clock's fields, the day, the minutes of an offset.
use mathlib.Core.Path.{◌≡◌, refl, sym, subst}
use mathlib.Core.Bool.{Bool, true, false}
use mathlib.Core.List.{[], ◌∷◌}
use Prim.Native.Nat.{ℕ, zero, suc, ◌+◌, ◌*◌, ◌<◌, ◌≤◌}
use native.Mathlib.Omega.{arith}
use borrow.Author.Tests.{ltb-true, ltb-false}
use lib.Dec.{eqb, ltb}
use lib.IntN.{ℤ, nat_abs}
use Rattle.std.specs.Prelude.{Some}
use Rattle.wire.specs.Reading.{value, ◌>>=◌}
use Rattle.wire.proofs.ReadingLaws.{value_is, never, through}
use Rattle.wire.specs.Number.{number}
use Rattle.wire.specs.Digits.{bcd_of}
use Rattle.wire.proofs.IfLaws.{if-case}
use Rattle.clock.specs.Fault.{in_field}
use Rattle.clock.specs.Field.{field, hms, InRange}
use Rattle.clock.specs.Time.{day, time_at, time_of, Defined}
use Rattle.clock.specs.Duration.{duration_of}
use Rattle.clock.specs.Offset.{signed, offset_at, offset_of}
use Rattle.clock.specs.declared.Hms.{Hms}
use Rattle.clock.specs.declared.time.Time.{Time}

pub field_below : (at b limit n : ℕ) → field at b limit ≡ value n → n < limit
unfolding field
field_below at b limit n e =
    let t = through (in_field at (bcd_of b 2)) _ n e in
    if-case (λ x. x ≡ value n → n < limit) (ltb t.0 limit)
    (λ h q. subst (λ m. m < limit) (value_is q) (ltb-true t.0 limit h)) (λ _ q. absurd (never (sym q))) t.2

hms_in_range : (at limit h m s : ℕ) (t : Hms) → hms at limit h m s ≡ value t → InRange limit t
unfolding hms
hms_in_range at limit h m s t e =
    let a = through (field at h limit) _ t e in
    let b = through (field (at + 1) m 60) _ t a.2 in
    let c = through (field (at + 2) s 60) _ t b.2 in
    subst (InRange limit) (value_is c.2)
    (record {
      hour = field_below at h limit a.0 a.1;
      minute = field_below (at + 1) m 60 b.0 b.1;
      second = field_below (at + 2) s 60 c.0 c.1;
    })

pub duration_in_range : (h m s : ℕ) (t : Hms) → duration_of h m s ≡ value t → InRange 100 t
unfolding duration_of
duration_in_range h m s t e = hms_in_range 0 100 h m s t e

day_from : (at mjd d : ℕ) → day at mjd ≡ value d → 15079 ≤ d
day_from at mjd d =
    if-case (λ x. x ≡ value d → 15079 ≤ d) (ltb mjd 15079)
    (λ _ e. absurd (never (sym e))) (λ h e. subst (λ n. 15079 ≤ n) (value_is e) (ltb-false mjd 15079 h))

defined : (mjd h m s : ℕ) (t : Time)
    → (day 0 mjd >>= λ d. hms 2 24 h m s >>= λ c. value (Some (record { mjd = d; clock = c }))) ≡ value (Some t)
    → Defined (Some t)
defined mjd h m s t e =
    let a = through (day 0 mjd) _ (Some t) e in
    let b = through (hms 2 24 h m s) _ (Some t) a.2 in
    subst Defined (value_is b.2) (day_from 0 mjd a.0 a.1, hms_in_range 2 24 h m s b.0 b.1)

pub time_in_range : (mjd h m s : ℕ) (t : Time) → time_of mjd h m s ≡ value (Some t) → Defined (Some t)
unfolding time_at
time_in_range mjd h m s t =
    if-case (λ x. x ≡ value (Some t) → Defined (Some t)) (eqb (number (mjd ∷ h ∷ m ∷ s ∷ [])) 0xFF_FFFF_FFFF)
    (λ _ e. let z : ◌≡◌ {A = ℕ} 0 1 = cc in absurd (omega arith))
    (λ _ e. defined mjd h m s t e)

pub size_of : (behind : Bool) (n : ℕ) → nat_abs (signed behind n) ≡ n
size_of true zero = refl
size_of true (suc n) = refl
size_of false n = refl

-- an offset is less than a day either way
pub offset_in_range : (behind : Bool) (h m : ℕ) (z : ℤ) → offset_of behind h m ≡ value z → nat_abs z < 1440
unfolding offset_at
offset_in_range behind h m z e =
    let a = through (field 0 h 24) _ z e in
    let b = through (field 1 m 60) _ z a.2 in
    let p = field_below 0 h 24 a.0 a.1 in
    let q = field_below 1 m 60 b.0 b.1 in
    subst (λ y. nat_abs y < 1440) (value_is b.2) (rw (size_of behind (a.0 * 60 + b.0)) (omega arith))
