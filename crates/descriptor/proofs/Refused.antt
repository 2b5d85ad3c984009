-- What is told of wrong fields, in bytes: each kind of refusal that carries a place, computed by the checker, so that what is said of such
-- refusals is not said of nothing.
use Prim.Native.Nat.{ℕ, ◌+◌}
use mathlib.Core.Path.{◌≡◌, refl}
use mathlib.Core.Bool.{true}
use mathlib.Core.List.{List, [], ◌∷◌}
use Rattle.std.specs.Prelude.{None}
use Rattle.wire.specs.Reading.{value, refused}
use Rattle.wire.specs.Number.{number_at, bits_at}
use Rattle.wire.specs.Digits.{bcd_after, bcd_of}
use Rattle.clock.specs.Fault.{plain, bad_digit, outOfRange, too_early}
use Rattle.clock.specs.Field.{field, hms}
use Rattle.clock.specs.Time.{time_at, time_of}
use Rattle.clock.specs.Duration.{duration_of}
use Rattle.clock.specs.Offset.{offset_at, offset_of}
use Rattle.layout.specs.Body.{framed, fixed}
use Rattle.layout.specs.Field.{digits_at}
use Rattle.layout.specs.Items.{items, place, item}
use Rattle.lists.specs.LocalTimeOffset as offsets
use Rattle.delivery.specs.Satellite as satellite
use Rattle.delivery.specs.Cable as cable

-- ---- numbers in BCD

-- nine digits, and the last of them is A: the highest has the place 0
pub digit_of_nine : bcd_of 0xA 9 ≡ refused 8
unfolding bcd_of bcd_after
digit_of_nine = refl

-- 11.49875 GHz at 19.2 degrees east, 27.5 Msym/s, but for a digit in one number, or in several, of which the first is told
abbrev Sent : ℕ → ℕ → ℕ → List ℕ
Sent frequency position rate =
    0x43 ∷ 0x0B ∷ 0x01 ∷ frequency ∷ 0x98 ∷ 0x75 ∷ 0x01 ∷ position ∷ 0xA1 ∷ 0x02 ∷ 0x75 ∷ 0x00 ∷ rate ∷ []

-- the seventh digit of the rate is the high half of its fourth byte
pub satellite_told : (satellite.satellite (Sent 0xF4 0x9A 0xA3) ≡ refused (bad_digit 0 2))
    × (satellite.satellite (Sent 0x14 0x9A 0xA3) ≡ refused (bad_digit 4 3))
    × (satellite.satellite (Sent 0x14 0x92 0xA3) ≡ refused (bad_digit 7 6))
unfolding satellite.satellite satellite.fields fixed framed number_at bits_at digits_at bcd_of bcd_after
satellite_told = (refl, refl, refl)

abbrev Cabled : ℕ → List ℕ
Cabled low = 0x44 ∷ 0x0B ∷ 0x03 ∷ 0x12 ∷ 0x00 ∷ low ∷ 0xFF ∷ 0xF2 ∷ 0x03 ∷ 0x00 ∷ 0x6B ∷ 0x75 ∷ 0x02 ∷ []

-- the second is the example of docs/REFUSALS.md
pub cable_told : (cable.cable (Cabled 0x0C) ≡ refused (bad_digit 0 7)) × (cable.cable (Cabled 0x00) ≡ refused (bad_digit 7 3))
unfolding cable.cable cable.fields fixed framed number_at bits_at digits_at bcd_of bcd_after
cable_told = (refl, refl)

-- ---- times, durations and offsets, in their own bytes

pub time_told : (time_of 0x3AE6 0x2A 0x00 0x00 ≡ refused (too_early 0))
    × (time_of 0xC079 0x24 0x0A 0x00 ≡ refused (outOfRange 2))
    × (time_of 0xC079 0x12 0x4A 0x60 ≡ refused (bad_digit 3 1))
unfolding time_at hms field bcd_of bcd_after
time_told = (refl, refl, refl)

pub duration_told : (duration_of 0xA9 0x60 0x00 ≡ refused (bad_digit 0 0)) × (duration_of 0x99 0x59 0x60 ≡ refused (outOfRange 2))
unfolding duration_of hms field bcd_of bcd_after
duration_told = (refl, refl)

pub offset_told : (offset_of true 0x24 0x0F ≡ refused (outOfRange 0)) × (offset_of true 0x23 0x5F ≡ refused (bad_digit 1 1))
unfolding offset_at field bcd_of bcd_after
offset_told = (refl, refl)

-- ---- an item of a list, of two, each for GBR; the second is the wrong one

abbrev Listed : ℕ → ℕ → ℕ → ℕ → List ℕ
Listed local day hour next =
    0x58 ∷ 0x1A ∷ 0x47 ∷ 0x42 ∷ 0x52 ∷ 0x17 ∷ 0x03 ∷ 0x30 ∷ 0xC0 ∷ 0x79 ∷ 0x12 ∷ 0x45 ∷ 0x00 ∷ 0x02 ∷ 0x15
    ∷ 0x47 ∷ 0x42 ∷ 0x52 ∷ 0x17 ∷ local ∷ 0x30 ∷ day ∷ 0x79 ∷ hour ∷ 0x00 ∷ 0x00 ∷ 0x02 ∷ next ∷ []

-- past the end no place is told
pub item_told : (offsets.localTimeOffset (Listed 0x0F 0x00 0x24 0x60) 1 ≡ refused (bad_digit (13 + 4) 1))
    × (offsets.localTimeOffset (Listed 0x03 0x00 0x24 0x60) 1 ≡ refused (too_early (13 + 6)))
    × (offsets.localTimeOffset (Listed 0x03 0xC0 0x24 0x60) 1 ≡ refused (outOfRange (13 + 8)))
    × (offsets.localTimeOffset (Listed 0x03 0xC0 0x12 0x60) 1 ≡ refused (outOfRange (13 + 12)))
    × (offsets.localTimeOffset (Listed 0x03 0xC0 0x12 0x60) 2 ≡ refused (plain 66))
unfolding offsets.localTimeOffset offsets.fields offsets.offset_in offsets.time_in item place items framed number_at bits_at
    time_at offset_at hms field bcd_of bcd_after
item_told = (refl, refl, refl, refl, refl)

-- forty ones are no fault
pub ones_are_undefined : time_of 0xFFFF 0xFF 0xFF 0xFF ≡ value None
unfolding time_at
ones_are_undefined = refl
