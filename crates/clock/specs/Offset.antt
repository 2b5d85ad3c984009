-- An offset from UTC.
use Rattle.std.specs.Prelude.{Bool, true, false, ℕ, ◌+◌, ◌*◌, ◌/◌, ◌%◌, ℤ, pos, neg_ℤ, nat_abs}
use Rattle.wire.specs.Reading.{value, ◌>>=◌}
use Rattle.wire.specs.Digits.{bcd_show}
use Rattle.clock.specs.Fault.{Answered}
use Rattle.clock.specs.Field.{field}

-- "An offset is signed minutes (polarity 1 is behind UTC); 1 with 0000 is zero."
abbrev pub signed : Bool → ℕ → ℤ
signed true n = neg_ℤ (pos n)
signed false n = pos n

-- hour and minute, "fields of their own too", as signed minutes; the hour stands at the place `at`
unfoldable pub offset_at : ℕ → Bool → ℕ → ℕ → Answered ℤ
offset_at at behind h m = do
  hour ← field at h 24
  minute ← field (at + 1) m 60
  value (signed behind (hour * 60 + minute))

-- an offset by itself
abbrev pub offset_of : Bool → ℕ → ℕ → Answered ℤ
offset_of behind h m = offset_at 0 behind h m

-- the number that its sixteen bits are, two BCD digits of hours and two of minutes, whatever its sign
abbrev pub offset_shown : ℤ → ℕ
offset_shown z = bcd_show 2 (nat_abs z / 60) * 256 + bcd_show 2 (nat_abs z % 60)
