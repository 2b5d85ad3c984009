-- A time.
use Prim.{Unit}
use Rattle.std.specs.Prelude.{[], ◌∷◌, ℕ, ◌+◌, ◌≤◌, ltb, eqb, if◌then◌else◌, Option, None, Some}
use Rattle.wire.specs.Reading.{value, refused, ◌>>=◌}
use Rattle.wire.specs.Number.{number}
use Rattle.wire.specs.Digits.{bcd_show}
use Rattle.clock.specs.Fault.{Answered, too_early}
use Rattle.clock.specs.Field.{hms, InRange}
use Rattle.clock.specs.declared.time.Time.{Time}

-- a time, or none where it is "undefined"
abbrev pub Moment : Type 0
Moment = Option Time

-- "65 MJD below 15,079": a day that stands at the place `at`
abbrev pub day : ℕ → ℕ → Answered ℕ
day at mjd = if ltb mjd 15079 then refused (too_early at) else value mjd

-- "Forty ones mean "undefined", before any check; else MJD, hour, minute and second are four fields."
-- The MJD stands at the place `at`, the hour two bytes behind it.
unfoldable pub time_at : ℕ → ℕ → ℕ → ℕ → ℕ → Answered Moment
time_at at mjd h m s = if eqb (number (mjd ∷ h ∷ m ∷ s ∷ [])) 0xFF_FFFF_FFFF then value None else do
  d ← day at mjd
  t ← hms (at + 2) 24 h m s
  value (Some (record { mjd = d; clock = t }))

-- a time by itself
abbrev pub time_of : ℕ → ℕ → ℕ → ℕ → Answered Moment
time_of mjd h m s = time_at 0 mjd h m s

-- a time that can be read: its day is not before 15,079, and its clock is in range
abbrev pub Defined : Moment → Type 0
Defined None = Unit {0}
Defined (Some t) = (15079 ≤ t.mjd) × InRange 24 t.clock

-- the number that its forty bits are: "MJD 16 bits, six BCD digits", "Forty ones mean "undefined""
abbrev pub time_shown : Moment → ℕ
time_shown None = 0xFF_FFFF_FFFF
time_shown (Some t) = number (t.mjd ∷ bcd_show 2 t.clock.hour ∷ bcd_show 2 t.clock.minute ∷ bcd_show 2 t.clock.second ∷ [])
