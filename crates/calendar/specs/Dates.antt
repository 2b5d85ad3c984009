-- The MJD of a date, counted with pencil and paper: whole years, whole months, and days.
use Rattle.std.specs.Prelude.{ℕ, zero, suc, ◌+◌, ◌-◌, ◌≤◌}
use Rattle.calendar.specs.Calendar.{days_in}
use Rattle.calendar.specs.declared.Date.{Date}

-- the days of the first m months of the year y
unfoldable pub days_of_months : ℕ → ℕ → ℕ
days_of_months y zero = 0
days_of_months y (suc m) = days_of_months y m + days_in y (suc m)

-- the days of the n years from 1900 on
unfoldable pub days_of_years : ℕ → ℕ
days_of_years zero = 0
days_of_years (suc n) = days_of_years n + days_of_months (1900 + n) 12

-- day 15,020 is the first of January 1900
unfoldable pub mjd_of : Date → ℕ
mjd_of t = 15020 + (days_of_years (t.year - 1900) + (days_of_months t.year (t.month - 1) + (t.day - 1)))

-- a date that the calendar has, from 1900 on
pub record Valid (t : Date) : Type 0 where
  pub year : 1900 ≤ t.year
  pub month : 1 ≤ t.month
  pub twelve : t.month ≤ 12
  pub day : 1 ≤ t.day
  pub inside : t.day ≤ days_in t.year t.month
