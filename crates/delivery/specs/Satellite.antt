-- 0x43 satellite delivery system: EN 300 468, clause 6.2.13.2.
use Rattle.std.specs.Prelude.{List, [], ◌∷◌, ℕ, ◌*◌, ◌^◌, ◌<◌, eqb, if◌then◌else◌}
use Rattle.wire.specs.Reading.{value, ◌>>=◌}
use Rattle.wire.specs.Digits.{bcd_show}
use Rattle.forms.specs.Fields.{Field, kept, reserved}
use Rattle.clock.specs.Fault.{Answered}
use Rattle.clock.specs.Reported.{Checked, digits}
use Rattle.layout.specs.Body.{fixed}
use Rattle.layout.specs.Widths.{size, bits_of, digits_of, bit}
use Rattle.delivery.specs.declared.satellite.System.{System}
use Rattle.delivery.specs.declared.satellite.System.TheVariants.{S, S2}
use Rattle.delivery.specs.declared.satellite.SatelliteFrequency.{SatelliteFrequency}
use Rattle.delivery.specs.declared.satellite.Satellite.{Satellite}

-- "satellite .. frequencies count steps of .. 10 kHz"
abbrev pub hertz : SatelliteFrequency → ℕ
hertz f = 10000 * f.0

-- the body, in the order of the table; what its two bits in front of modulation_system are rests on that
abbrev pub layout_by : Field → List Field
layout_by two =
    kept 32  -- 0 frequency, 8 BCD digits
    ∷ kept 16  -- 1 orbital_position, 4 BCD digits
    ∷ kept 1  -- 2 west_east_flag
    ∷ kept 2  -- 3 polarization
    ∷ two  -- 4 roll_off under modulation_system 1, and reserved under 0
    ∷ kept 1  -- 5 modulation_system
    ∷ kept 2  -- 6 modulation_type
    ∷ kept 28  -- 7 symbol_rate, 7 BCD digits
    ∷ kept 4  -- 8 FEC_inner
    ∷ []

-- as it is read
abbrev pub layout : List Field
layout = layout_by (kept 2)

-- and as each system has it
abbrev pub layout_under : System → List Field
layout_under S = layout_by (reserved 2)
layout_under (S2 roll-off) = layout_by (kept 2)

-- modulation_system 0 is DVB-S, 1 is DVB-S2
unfoldable pub system : List ℕ → System
system b = if eqb (bits_of layout 5 b) 0 then S else S2 (bits_of layout 4 b)

-- each field by its index in the layout, around the three numbers in BCD
abbrev pub made : List ℕ → ℕ → ℕ → ℕ → Satellite
made b frequency position rate = record {
  frequency = record { 0 = frequency };
  orbital_position = position;
  west_east_flag = eqb (bits_of layout 2 b) 1;
  polarization = bits_of layout 3 b;
  modulation_system = system b;
  modulation_type = bits_of layout 6 b;
  symbol_rate = rate;
  fec_inner = bits_of layout 8 b;
}

-- those numbers, left to right
unfoldable pub fields : List ℕ → Answered Satellite
fields b = do
  frequency ← digits_of layout 0 b
  position ← digits_of layout 1 b
  rate ← digits_of layout 7 b
  value (made b frequency position rate)

-- the tag 0x43, and a body of the layout's 11 bytes
unfoldable pub satellite : List ℕ → Answered Satellite
satellite s = fixed s 0x43 (size layout) >>= fields

-- the fields that can be refused, by their places in the body: frequency, orbital_position, symbol_rate
abbrev pub checked : List Checked
checked = digits 0 8 ∷ digits 4 4 ∷ digits 7 7 ∷ []

-- the values that the bits of a modulation system have, in front of others
abbrev pub system_shown : System → List ℕ → List ℕ
system_shown S behind = 0 ∷ behind
system_shown (S2 roll-off) behind = roll-off ∷ 1 ∷ behind

-- the values that its kept fields have, in the layout's order
abbrev pub shown : Satellite → List ℕ
shown f =
    bcd_show 8 f.frequency.0
    ∷ bcd_show 4 f.orbital_position
    ∷ bit f.west_east_flag
    ∷ f.polarization
    ∷ system_shown f.modulation_system (f.modulation_type ∷ bcd_show 7 f.symbol_rate ∷ f.fec_inner ∷ [])

-- its numbers in BCD have no more digits than their fields
abbrev pub Digits : Satellite → Type 0
Digits f = (f.frequency.0 < 10 ^ 8) × (f.orbital_position < 10 ^ 4) × (f.symbol_rate < 10 ^ 7)
