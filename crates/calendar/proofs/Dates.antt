-- The date of an MJD and the MJD of a date undo each other: the calendar by counting years and months, and no other reckoning.
use mathlib.Core.Path.{◌≡◌, refl, sym, ap, ◌∙◌, subst}
use mathlib.Core.List.{List, [], ◌∷◌}
use Prim.Native.Nat.{ℕ, zero, suc, ◌+◌, ◌-◌, ◌<◌, ◌≤◌}
use native.Mathlib.Nat.{not-suc-le-zero, le_of_suc-le-suc}
use native.Mathlib.Omega.{arith}
use borrow.Author.Tests.{lt-ltb, le-ltb, ltb-true, ltb-false}
use lib.Dec.{ltb}
use lib.ListN.{get_or, length}
use Rattle.std.specs.Prelude.{if◌then◌else◌}
use Rattle.wire.proofs.IfLaws.{if-case}
use Rattle.calendar.specs.declared.Date.{Date}
use Rattle.calendar.specs.Calendar.{leap, dated, days_in, next, days_on, gregorian}
use Rattle.calendar.specs.Dates.{days_of_months, days_of_years, mjd_of, Valid}

-- the length of a month
pub record IsLength (n : ℕ) : Type 0 where
  pub some : 1 ≤ n
  pub few : n ≤ 31

data Lengths : List ℕ → Type 0 where
  none : Lengths []
  more : {n : ℕ} {l : List ℕ} → IsLength n → Lengths l → Lengths (n ∷ l)

length_at : (l : List ℕ) (i : ℕ) → Lengths l → i < length l → IsLength (get_or l i 0)
length_at [] i f h = absurd (not-suc-le-zero h)
length_at (n ∷ l) zero (more p f) h = p
length_at (n ∷ l) (suc i) (more p f) h = length_at l i f (le_of_suc-le-suc h)

abbrev pub lengths : ℕ → List ℕ
lengths y = 31 ∷ (if leap y then 29 else 28) ∷ 31 ∷ 30 ∷ 31 ∷ 30 ∷ 31 ∷ 31 ∷ 30 ∷ 31 ∷ 30 ∷ 31 ∷ []

are_lengths : (y : ℕ) → Lengths (lengths y)
are_lengths y =
    more long (more february (more long (more short (more long (more short
    (more long (more long (more short (more long (more short (more long none)))))))))))
  where
    long : IsLength 31
    long = record { some = omega arith; few = omega arith }

    short : IsLength 30
    short = record { some = omega arith; few = omega arith }

    february : IsLength (if leap y then 29 else 28)
    february =
        if-case IsLength (leap y) (λ e. record { some = omega arith; few = omega arith })
        (λ e. record { some = omega arith; few = omega arith })

pub is_length : (y m : ℕ) → 1 ≤ m → m ≤ 12 → IsLength (days_in y m)
is_length y m p h = length_at (lengths y) (m - 1) (are_lengths y) (omega arith)

some_days : (y m : ℕ) → m < 12 → 1 ≤ days_in y (suc m)
some_days y m h = (is_length y (suc m) (omega arith) h).some

-- the day n days after t
unfoldable pub after : ℕ → Date → Date
after zero t = t
after (suc n) t = after n (next t)

pub after_next : (n : ℕ) (t : Date) → after n (next t) ≡ next (after n t)
unfolding after
after_next zero t = refl
after_next (suc n) t = after_next n (next t)

pub after_sum : (n k : ℕ) (t : Date) → after (n + k) t ≡ after k (after n t)
unfolding after
after_sum zero k t = let e : 0 + k ≡ k = omega arith in ap (λ m. after m t) e
after_sum (suc n) k t = let e : suc n + k ≡ suc (n + k) = omega arith in ap (λ m. after m t) e ∙ after_sum n k (next t)

-- within a month
pub month_on : (y m d k : ℕ) → d + k ≤ days_in y m → after k (dated y m d) ≡ dated y m (d + k)
unfolding after
month_on y m d zero h = ap (dated y m) (omega arith)
month_on y m d (suc k) h =
    ap (after k) (rw (lt-ltb d (days_in y m) (omega arith)) refl)
    ∙ month_on y m (d + 1) k (omega arith)
    ∙ ap (dated y m) (omega arith)

-- a whole month, to the day after its last
month_after : (y m : ℕ) → m < 12
    → after (days_in y (suc m)) (dated y (suc m) 1) ≡ next (dated y (suc m) (days_in y (suc m)))
unfolding after
month_after y m h =
    let p : 1 ≤ days_in y (suc m) = some_days y m h in
    let e : 1 + (days_in y (suc m) - 1) ≡ days_in y (suc m) = omega arith in
    let some : days_in y (suc m) ≡ suc (days_in y (suc m) - 1) = omega arith in
    ap (λ n. after n (dated y (suc m) 1)) some
    ∙ after_next (days_in y (suc m) - 1) (dated y (suc m) 1)
    ∙ ap next (month_on y (suc m) 1 (days_in y (suc m) - 1) (omega arith) ∙ ap (dated y (suc m)) e)

pub next_month : (y m : ℕ) → suc m < 12 → after (days_in y (suc m)) (dated y (suc m) 1) ≡ dated y (suc (suc m)) 1
next_month y m h =
    let one : suc m + 1 ≡ suc (suc m) = omega arith in
    month_after y m (omega arith)
    ∙ rw (le-ltb (days_in y (suc m)) (days_in y (suc m)) (omega arith), lt-ltb (suc m) 12 h) (ap (λ k. dated y k 1) one)

pub months_on : (y m : ℕ) → m < 12 → after (days_of_months y m) (dated y 1 1) ≡ dated y (suc m) 1
unfolding after days_of_months
months_on y zero h = refl
months_on y (suc m) h =
    after_sum (days_of_months y m) (days_in y (suc m)) (dated y 1 1)
    ∙ ap (after (days_in y (suc m))) (months_on y m (omega arith))
    ∙ next_month y m h

pub next_year : (y : ℕ) → after (days_of_months y 12) (dated y 1 1) ≡ dated (y + 1) 1 1
unfolding days_of_months
next_year y =
    after_sum (days_of_months y 11) 31 (dated y 1 1)
    ∙ ap (after 31) (months_on y 11 (omega arith))
    ∙ month_after y 11 (omega arith)

pub years_on : (n : ℕ) → after (days_of_years n) (dated 1900 1 1) ≡ dated (1900 + n) 1 1
unfolding after days_of_years
years_on zero = refl
years_on (suc n) =
    let e : 1900 + n + 1 ≡ 1900 + suc n = omega arith in
    after_sum (days_of_years n) (days_of_months (1900 + n) 12) (dated 1900 1 1)
    ∙ ap (after (days_of_months (1900 + n) 12)) (years_on n)
    ∙ next_year (1900 + n)
    ∙ ap (λ y. dated y 1 1) e

-- the calendar begins on the sixtieth day of 1900
first : after 59 (dated 1900 1 1) ≡ dated 1900 3 1
unfolding after
first = refl

on_is_after : (n : ℕ) → days_on n ≡ after n (dated 1900 3 1)
unfolding days_on after
on_is_after zero = refl
on_is_after (suc n) = ap next (on_is_after n) ∙ sym (after_next n (dated 1900 3 1))

pub from_january : (mjd : ℕ) → 15079 ≤ mjd → gregorian mjd ≡ after (mjd - 15020) (dated 1900 1 1)
unfolding gregorian
from_january mjd h =
    let e : mjd - 15020 ≡ 59 + (mjd - 15079) = omega arith in
    on_is_after (mjd - 15079)
    ∙ sym
    (ap (λ n. after n (dated 1900 1 1)) e ∙ after_sum 59 (mjd - 15079) (dated 1900 1 1) ∙ ap (after (mjd - 15079)) first)

-- a date is as many days after the first of January 1900 as are counted
counted : (t : Date) → Valid t → after (mjd_of t - 15020) (dated 1900 1 1) ≡ t
unfolding mjd_of
counted t v =
    let years : ℕ = days_of_years (t.year - 1900) in
    let months : ℕ = days_of_months t.year (t.month - 1) in
    let start : 1900 + (t.year - 1900) ≡ t.year = omega (arith, v.year) in
    let month : suc (t.month - 1) ≡ t.month = omega (arith, v.month) in
    let less : t.month - 1 < 12 = omega (arith, v.month, v.twelve) in
    let day : 1 + (t.day - 1) ≡ t.day = omega (arith, v.day) in
    let off : mjd_of t - 15020 ≡ years + (months + (t.day - 1)) = omega arith in
    ap (λ n. after n (dated 1900 1 1)) off
    ∙ after_sum years (months + (t.day - 1)) (dated 1900 1 1)
    ∙ ap (after (months + (t.day - 1))) (years_on (t.year - 1900) ∙ ap (λ y. dated y 1 1) start)
    ∙ after_sum months (t.day - 1) (dated t.year 1 1)
    ∙ ap (after (t.day - 1)) (months_on t.year (t.month - 1) less ∙ ap (λ m. dated t.year m 1) month)
    ∙ month_on t.year t.month 1 (t.day - 1) (rw day v.inside)
    ∙ ap (dated t.year t.month) day

-- THE LAW: the date of the MJD of a date is that date
pub of_date : (t : Date) → Valid t → 15079 ≤ mjd_of t → gregorian (mjd_of t) ≡ t
of_date t v low = from_january (mjd_of t) low ∙ counted t v

pub month_adds : (y m : ℕ) → 1 ≤ m → days_of_months y m ≡ days_of_months y (m - 1) + days_in y m
unfolding days_of_months
month_adds y m h =
    let e : suc (m - 1) ≡ m = omega arith in
    subst (λ k. days_of_months y k ≡ days_of_months y (m - 1) + days_in y k) e refl

pub year_adds : (y : ℕ) → 1900 ≤ y → days_of_years (y + 1 - 1900) ≡ days_of_years (y - 1900) + days_of_months y 12
unfolding days_of_years
year_adds y h =
    let n : suc (y - 1900) ≡ y + 1 - 1900 = omega arith in
    let e : 1900 + (y - 1900) ≡ y = omega arith in
    sym (ap days_of_years n) ∙ ap (λ k. days_of_years (y - 1900) + days_of_months k 12) e

no_months : (y : ℕ) → days_of_months y 0 ≡ 0
unfolding days_of_months
no_months y = refl

-- t is a date of the calendar, and its MJD is n
record Counts (t : Date) (n : ℕ) : Type 0 where
  valid : Valid t
  mjd : mjd_of t ≡ n

next_counts : (t : Date) → Valid t → Counts (next t) (suc (mjd_of t))
unfolding mjd_of
next_counts t v =
    if-case (λ s. Counts s (suc (mjd_of t))) (ltb t.day (days_in y m))
    (λ e. in_month (ltb-true t.day (days_in y m) e))
    (λ e.
    let last : days_in y m ≤ t.day = ltb-false t.day (days_in y m) e in
    if-case (λ s. Counts s (suc (mjd_of t))) (ltb m 12)
    (λ f. in_year last (ltb-true m 12 f))
    (λ f. new_year last (ltb-false m 12 f)))
  where
    y : ℕ
    y = t.year

    m : ℕ
    m = t.month

    in_month : t.day < days_in y m → Counts (dated y m (t.day + 1)) (suc (mjd_of t))
    in_month l =
        record {
          valid =
              record { year = v.year; month = v.month; twelve = v.twelve; day = omega arith; inside = omega arith };
          mjd = omega (arith, v.day);
        }

    in_year : days_in y m ≤ t.day → m < 12 → Counts (dated y (m + 1) 1) (suc (mjd_of t))
    in_year last l =
        let on : m + 1 - 1 ≡ m = omega arith in
        let one : suc m ≡ m + 1 = omega arith in
        let months : days_of_months y (m + 1 - 1) ≡ days_of_months y (m - 1) + days_in y m =
        ap (days_of_months y) on ∙ month_adds y m v.month in
        record {
          valid =
              record {
                year = v.year;
                month = omega arith;
                twelve = omega arith;
                day = omega arith;
                inside = subst (λ k. 1 ≤ days_in y k) one (some_days y m l);
              };
          mjd = omega (arith, months, v.day, v.inside);
        }

    new_year : days_in y m ≤ t.day → 12 ≤ m → Counts (dated (y + 1) 1 1) (suc (mjd_of t))
    new_year last l =
        let twelve : m ≡ 12 = omega (arith, v.twelve) in
        let months : days_of_months y 12 ≡ days_of_months y (m - 1) + days_in y m =
        sym (ap (days_of_months y) twelve) ∙ month_adds y m v.month in
        let years : days_of_years (y + 1 - 1900) ≡ days_of_years (y - 1900) + days_of_months y 12 = year_adds y v.year in
        let none : days_of_months (y + 1) (1 - 1) ≡ 0 = no_months (y + 1) in
        record {
          valid =
              record {
                year = omega (arith, v.year);
                month = omega arith;
                twelve = omega arith;
                day = omega arith;
                inside = some_days (y + 1) 0 (omega arith);
              };
          mjd = omega (arith, months, years, none, v.day, v.inside);
        }

day_counts : (n : ℕ) → Counts (days_on n) (15079 + n)
unfolding days_on mjd_of days_of_years days_of_months
day_counts zero =
    record {
      valid =
          record { year = omega arith; month = omega arith; twelve = omega arith; day = omega arith; inside = omega arith };
      mjd = refl;
    }
day_counts (suc n) =
    let c : Counts (days_on n) (15079 + n) = day_counts n in
    let e : suc (15079 + n) ≡ 15079 + suc n = omega arith in
    let later : Counts (next (days_on n)) (suc (mjd_of (days_on n))) = next_counts (days_on n) c.valid in
    record { valid = later.valid; mjd = later.mjd ∙ ap suc c.mjd ∙ e }

module _ (mjd : ℕ) (low : 15079 ≤ mjd) where
  -- a date that is told is one that the calendar has
  pub valid_date : Valid (gregorian mjd)
  unfolding gregorian
  valid_date = (day_counts (mjd - 15079)).valid

  -- and it is the MJD's own
  pub mjd_of_date : mjd_of (gregorian mjd) ≡ mjd
  unfolding gregorian
  mjd_of_date = let e : 15079 + (mjd - 15079) ≡ mjd = omega arith in (day_counts (mjd - 15079)).mjd ∙ e
