-- 0x44 cable delivery system: EN 300 468, clause 6.2.13.1.
use Rattle.std.specs.Prelude.{List, [], ◌∷◌, ℕ, ◌*◌, ◌^◌, ◌<◌}
use Rattle.wire.specs.Reading.{value, ◌>>=◌}
use Rattle.wire.specs.Digits.{bcd_show}
use Rattle.forms.specs.Fields.{Field, kept, reserved}
use Rattle.clock.specs.Fault.{Answered}
use Rattle.clock.specs.Reported.{Checked, digits}
use Rattle.layout.specs.Body.{fixed}
use Rattle.layout.specs.Widths.{size, bits_of, byte_of, digits_of}
use Rattle.delivery.specs.declared.cable.CableFrequency.{CableFrequency}
use Rattle.delivery.specs.declared.cable.Cable.{Cable}

-- "Cable .. frequencies count steps of 100 Hz"
abbrev pub hertz : CableFrequency → ℕ
hertz f = 100 * f.0

-- the body, in the order of the table
abbrev pub layout : List Field
layout =
    kept 32  -- 0 frequency, 8 BCD digits
    ∷ reserved 12
    ∷ kept 4  -- 2 FEC_outer
    ∷ kept 8  -- 3 modulation
    ∷ kept 28  -- 4 symbol_rate, 7 BCD digits
    ∷ kept 4  -- 5 FEC_inner
    ∷ []

-- each field by its index in the layout
unfoldable pub fields : List ℕ → Answered Cable
fields b = do
  frequency ← digits_of layout 0 b
  rate ← digits_of layout 4 b
  value (record {
    frequency = record { 0 = frequency };
    fec_outer = bits_of layout 2 b;
    modulation = byte_of layout 3 b;
    symbol_rate = rate;
    fec_inner = bits_of layout 5 b;
  })

-- the tag 0x44, and a body of the layout's 11 bytes
unfoldable pub cable : List ℕ → Answered Cable
cable s = fixed s 0x44 (size layout) >>= fields

-- the fields that can be refused, by their places in the body: frequency, symbol_rate
abbrev pub checked : List Checked
checked = digits 0 8 ∷ digits 7 7 ∷ []

-- the values that its kept fields have, in the layout's order
abbrev pub shown : Cable → List ℕ
shown f =
    bcd_show 8 f.frequency.0
    ∷ f.fec_outer
    ∷ f.modulation
    ∷ bcd_show 7 f.symbol_rate
    ∷ f.fec_inner
    ∷ []

-- its numbers in BCD have no more digits than their fields
abbrev pub Digits : Cable → Type 0
Digits f = (f.frequency.0 < 10 ^ 8) × (f.symbol_rate < 10 ^ 7)
