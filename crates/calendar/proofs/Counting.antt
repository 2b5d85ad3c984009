-- What is counted off with pencil and paper: whole years, and whole months.
use mathlib.Core.Path.{◌≡◌, refl, sym, ap, ◌∙◌}
use mathlib.Core.Logic.{⊎_elim}
use mathlib.Core.Bool.{Bool, true, false}
use Prim.Native.Nat.{ℕ, zero, suc, ◌+◌, ◌-◌, ◌*◌, ◌<◌, ◌≤◌}
use native.Mathlib.Nat.{eq-or-lt_of_le}
use native.Mathlib.Omega.{arith}
use Rattle.calendar.specs.declared.Date.{Date}
use Rattle.calendar.specs.Calendar.{leap, days_in, dated, gregorian}
use Rattle.calendar.specs.Dates.{days_of_months, days_of_years, mjd_of, Valid}
use Rattle.calendar.proofs.Dates.{is_length, month_adds, year_adds, of_date}

pub leap_year : (y : ℕ) → leap y ≡ true → days_of_months y 12 ≡ 366
unfolding days_of_months
leap_year y e = rw e refl

pub common_year : (y : ℕ) → leap y ≡ false → days_of_months y 12 ≡ 365
unfolding days_of_months
common_year y e = rw e refl

-- no year is shorter than 365 days
pub year_long : (y : ℕ) → 365 ≤ days_of_months y 12
year_long y = by_rule (leap y) refl
  where
    by_rule : (b : Bool) → leap y ≡ b → 365 ≤ days_of_months y 12
    by_rule true e = omega (arith, leap_year y e)
    by_rule false e = omega (arith, common_year y e)

pub years_long : (n : ℕ) → 365 * n ≤ days_of_years n
unfolding days_of_years
years_long zero = omega arith
years_long (suc n) = let l : 365 * n ≤ days_of_years n = years_long n in omega (arith, year_long (1900 + n))

module _ (y m left : ℕ) (p : 1 ≤ m) where
  -- a month counted off
  pub month_off : days_in y m ≤ left → days_of_months y (m + 1 - 1) + (left - days_in y m) ≡ days_of_months y (m - 1) + left
  month_off h =
      let on : m + 1 - 1 ≡ m = omega arith in
      omega (arith, ap (days_of_months y) on, month_adds y m p)

  -- is not the last one, where less than a year is left
  pub not_december : m ≤ 12 → days_in y m ≤ left → days_of_months y (m - 1) + left < days_of_months y 12 → m + 1 ≤ 12
  not_december l h year =
      ⊎_elim (λ (e : m ≡ 12). let all : days_of_months y m ≡ days_of_months y 12 = ap (days_of_months y) e in
      absurd (omega (arith, month_adds y m p)))
      (λ (k : m < 12). omega arith) (eq-or-lt_of_le l)

  -- where no whole month is left, the date is found
  pub found : (mjd : ℕ) → 1900 ≤ y → m ≤ 12 → left < days_in y m → 15079 ≤ mjd
      → days_of_years (y - 1900) + (days_of_months y (m - 1) + left) ≡ mjd - 15020 → dated y m (left + 1) ≡ gregorian mjd
  unfolding mjd_of
  found mjd from l inside low all =
      let t : Date = dated y m (left + 1) in
      let mjd-of : mjd_of t ≡ mjd = omega arith in
      let valid : Valid t =
      record { year = from; month = p; twelve = l; day = omega arith; inside = omega arith } in
      sym (of_date t valid (omega arith)) ∙ ap gregorian mjd-of

-- what counting off rests on: of years, and of months
pub ruleset years = (year_adds, years_long, year_long)

pub ruleset months = (is_length, month_off, not_december)
