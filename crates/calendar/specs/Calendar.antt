-- The Gregorian calendar, a day at a time.
use Rattle.std.specs.Prelude.{Bool, [], ◌∷◌, ℕ, zero, suc, ◌+◌, ◌-◌, ◌%◌, eqb, ltb, get_or, if◌then◌else◌}
use Rattle.wire.specs.Reading.{value, ◌>>=◌}
use Rattle.clock.specs.Fault.{Answered}
use Rattle.clock.specs.Time.{day}
use Rattle.calendar.specs.declared.Date.{Date}

-- every fourth year is a leap year, but of the hundreds every fourth only
abbrev pub leap : ℕ → Bool
leap y = if eqb (y % 100) 0 then eqb (y % 400) 0 else eqb (y % 4) 0

-- the days of month m, from 1, of the year y
abbrev pub days_in : ℕ → ℕ → ℕ
days_in y m = get_or (31 ∷ (if leap y then 29 else 28) ∷ 31 ∷ 30 ∷ 31 ∷ 30 ∷ 31 ∷ 31 ∷ 30 ∷ 31 ∷ 30 ∷ 31 ∷ []) (m - 1) 0

-- the date of a year, a month and a day
abbrev pub dated : ℕ → ℕ → ℕ → Date
dated y m d = record { year = y; month = m; day = d }

-- the day after
abbrev pub next : Date → Date
next t =
    if ltb t.day (days_in t.year t.month) then dated t.year t.month (t.day + 1)
    else if ltb t.month 12 then dated t.year (t.month + 1) 1
    else dated (t.year + 1) 1 1

-- n days after the first of March 1900
unfoldable pub days_on : ℕ → Date
days_on zero = dated 1900 3 1
days_on (suc n) = next (days_on n)

-- day 15,079 is the first of March 1900
unfoldable pub gregorian : ℕ → Date
gregorian mjd = days_on (mjd - 15079)

-- "the date is the Gregorian one of the MJD"; "65 MJD below 15,079"
unfoldable pub date_of : ℕ → Answered Date
date_of mjd = day 0 mjd >>= λ d. value (gregorian d)
