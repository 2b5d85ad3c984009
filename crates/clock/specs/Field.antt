-- The fields of a clock: two BCD digits in a byte, below a limit. The first argument is the place of the first byte.
use Rattle.std.specs.Prelude.{◌≡◌, ℕ, ◌+◌, ◌<◌, ltb, if◌then◌else◌}
use Rattle.wire.specs.Reading.{value, refused, ◌>>=◌}
use Rattle.wire.specs.Digits.{bcd_of, bcd_show}
use Rattle.clock.specs.Fault.{Answered, outOfRange, in_field}
use Rattle.clock.specs.declared.Hms.{Hms}

-- "64 hour above 23, minute or second above 59"
abbrev pub below : ℕ → ℕ → ℕ → Answered ℕ
below at limit n = if ltb n limit then value n else refused (outOfRange at)

-- two digits, and then the limit: "each 63, 64"
unfoldable pub field : ℕ → ℕ → ℕ → Answered ℕ
field at b limit = in_field at (bcd_of b 2) >>= below at limit

-- hour, minute and second, "fields left to right"; the hour is below the limit
unfoldable pub hms : ℕ → ℕ → ℕ → ℕ → ℕ → Answered Hms
hms at limit h m s = do
  hour ← field at h limit
  minute ← field (at + 1) m 60
  second ← field (at + 2) s 60
  value (record { hour = hour; minute = minute; second = second })

-- "64 hour above 23, minute or second above 59": a clock whose fields are below their limits
pub record InRange (limit : ℕ) (t : Hms) : Type 0 where
  pub hour : t.hour < limit
  pub minute : t.minute < 60
  pub second : t.second < 60

-- h, m and s are the clock's two digits each, in BCD
pub record Written (t : Hms) (h m s : ℕ) : Type 0 where
  pub hour : bcd_show 2 t.hour ≡ h
  pub minute : bcd_show 2 t.minute ≡ m
  pub second : bcd_show 2 t.second ≡ s
