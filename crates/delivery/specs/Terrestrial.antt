-- 0x5A terrestrial delivery system: EN 300 468, clause 6.2.13.4.
use Rattle.std.specs.Prelude.{List, [], ◌∷◌, ℕ, ◌*◌, eqb}
use Rattle.wire.specs.Reading.{value, ◌>>=◌}
use Rattle.forms.specs.Fields.{Field, kept, reserved}
use Rattle.clock.specs.Fault.{Answered}
use Rattle.layout.specs.Body.{fixed}
use Rattle.layout.specs.Widths.{size, bits_of, number_of, bit}
use Rattle.delivery.specs.declared.terrestrial.TerrestrialFrequency.{TerrestrialFrequency}
use Rattle.delivery.specs.declared.terrestrial.Terrestrial.{Terrestrial}

-- "terrestrial frequencies count steps of .. 10 Hz"
abbrev pub hertz : TerrestrialFrequency → ℕ
hertz f = 10 * f.0

-- the body, in the order of the table
abbrev pub layout : List Field
layout =
    kept 32  -- 0 centre_frequency, binary
    ∷ kept 3  -- 1 bandwidth
    ∷ kept 1  -- 2 priority
    ∷ kept 1  -- 3 Time_Slicing_indicator
    ∷ kept 1  -- 4 MPE-FEC_indicator
    ∷ reserved 2
    ∷ kept 2  -- 6 constellation
    ∷ kept 3  -- 7 hierarchy_information
    ∷ kept 3  -- 8 code_rate-HP_stream
    ∷ kept 3  -- 9 code_rate-LP_stream
    ∷ kept 2  -- 10 guard_interval
    ∷ kept 2  -- 11 transmission_mode
    ∷ kept 1  -- 12 other_frequency_flag
    ∷ reserved 32
    ∷ []

-- each field by its index in the layout
abbrev pub fields : List ℕ → Terrestrial
fields b = record {
  centre_frequency = record { 0 = number_of layout 0 b };
  bandwidth = bits_of layout 1 b;
  priority = eqb (bits_of layout 2 b) 1;
  time_slicing_indicator = eqb (bits_of layout 3 b) 1;
  mpe_fec_indicator = eqb (bits_of layout 4 b) 1;
  constellation = bits_of layout 6 b;
  hierarchy_information = bits_of layout 7 b;
  code_rate_hp_stream = bits_of layout 8 b;
  code_rate_lp_stream = bits_of layout 9 b;
  guard_interval = bits_of layout 10 b;
  transmission_mode = bits_of layout 11 b;
  other_frequency_flag = eqb (bits_of layout 12 b) 1;
}

-- the tag 0x5A, and a body of the layout's 11 bytes
unfoldable pub terrestrial : List ℕ → Answered Terrestrial
terrestrial s = fixed s 0x5A (size layout) >>= λ b. value (fields b)

-- the values that its kept fields have, in the layout's order
abbrev pub shown : Terrestrial → List ℕ
shown f =
    f.centre_frequency.0
    ∷ f.bandwidth
    ∷ bit f.priority
    ∷ bit f.time_slicing_indicator
    ∷ bit f.mpe_fec_indicator
    ∷ f.constellation
    ∷ f.hierarchy_information
    ∷ f.code_rate_hp_stream
    ∷ f.code_rate_lp_stream
    ∷ f.guard_interval
    ∷ f.transmission_mode
    ∷ bit f.other_frequency_flag
    ∷ []
