-- The fields of the delivery systems, as a reading gives them to C: flags are 0 or 1, and DVB-S has no roll_off. Any other number is 112.
use Rattle.std.specs.Prelude.{Bool, List, [], ◌∷◌, ℕ, eqb, ltb, if◌then◌else◌, Option, Some, None}
use Rattle.wire.specs.Reading.{Reading, value, refused, ◌>>=◌}
use Rattle.writing.specs.Fill.{below}
use Rattle.delivery.specs.declared.cable.Cable as cable
use Rattle.delivery.specs.declared.satellite.Satellite as satellite
use Rattle.delivery.specs.declared.satellite.System.{System}
use Rattle.delivery.specs.declared.satellite.System.TheVariants.{S, S2}
use Rattle.delivery.specs.declared.terrestrial.Terrestrial as terrestrial
use Rattle.write_delivery.specs.Cable.{cable_written}
use Rattle.write_delivery.specs.Satellite.{satellite_written}
use Rattle.write_delivery.specs.Terrestrial.{terrestrial_written}
use Rattle.cabinet.specs.declared.delivery_readings.Cable.{Cable}
use Rattle.cabinet.specs.declared.delivery_readings.Satellite.{Satellite}
use Rattle.cabinet.specs.declared.delivery_readings.Terrestrial.{Terrestrial}

-- ---- 0x44 cable

abbrev pub cable_fields : Cable → cable.Cable
cable_fields c = record {
  frequency = record { 0 = c.frequency.steps };
  fec_outer = c.fec_outer;
  modulation = c.modulation;
  symbol_rate = c.symbol_rate;
  fec_inner = c.fec_inner;
}

-- the descriptor of a struct
unfoldable pub cable_given : Cable → Reading (List ℕ)
cable_given c = cable_written (cable_fields c)

-- ---- 0x43 satellite

-- modulation_system 1 is DVB-S2; 0 is DVB-S, which has no roll_off
unfoldable pub system_of : ℕ → ℕ → Reading System
system_of m r = if eqb m 1 then value (S2 r) else if eqb m 0 then (if eqb r 0 then value S else refused 112) else refused 112

abbrev pub satellite_of : Satellite → System → satellite.Satellite
satellite_of c w = record {
  frequency = record { 0 = c.frequency.steps };
  orbital_position = c.orbital_position;
  west_east_flag = eqb c.west_east_flag 1;
  polarization = c.polarization;
  modulation_system = w;
  modulation_type = c.modulation_type;
  symbol_rate = c.symbol_rate;
  fec_inner = c.fec_inner;
}

unfoldable pub satellite_fields : Satellite → Reading satellite.Satellite
satellite_fields c =
    if ltb 1 c.west_east_flag then refused 112
    else (system_of c.modulation_system c.roll_off >>= λ w. value (satellite_of c w))

unfoldable pub satellite_given : Satellite → Reading (List ℕ)
satellite_given c = satellite_fields c >>= satellite_written

-- what an answer tells
abbrev pub told_system : Option System → Reading System
told_system (Some w) = value w
told_system None = refused 112

-- ---- 0x5A terrestrial

unfoldable pub are_flags : Terrestrial → Bool
are_flags c =
    below (c.priority ∷ c.time_slicing_indicator ∷ c.mpe_fec_indicator ∷ c.other_frequency_flag ∷ []) (2 ∷ 2 ∷ 2 ∷ 2 ∷ [])

abbrev pub terrestrial_of : Terrestrial → terrestrial.Terrestrial
terrestrial_of c = record {
  centre_frequency = record { 0 = c.centre_frequency.steps };
  bandwidth = c.bandwidth;
  priority = eqb c.priority 1;
  time_slicing_indicator = eqb c.time_slicing_indicator 1;
  mpe_fec_indicator = eqb c.mpe_fec_indicator 1;
  constellation = c.constellation;
  hierarchy_information = c.hierarchy_information;
  code_rate_hp_stream = c.code_rate_hp_stream;
  code_rate_lp_stream = c.code_rate_lp_stream;
  guard_interval = c.guard_interval;
  transmission_mode = c.transmission_mode;
  other_frequency_flag = eqb c.other_frequency_flag 1;
}

unfoldable pub terrestrial_fields : Terrestrial → Reading terrestrial.Terrestrial
terrestrial_fields c = if are_flags c then value (terrestrial_of c) else refused 112

unfoldable pub terrestrial_given : Terrestrial → Reading (List ℕ)
terrestrial_given c = terrestrial_fields c >>= terrestrial_written
