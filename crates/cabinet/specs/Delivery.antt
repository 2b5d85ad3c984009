-- What the readings of the delivery systems say in numbers: 0 and the fields, or the refusal's number and zeros.
use Rattle.std.specs.Prelude.{ℕ}
use Rattle.wire.specs.Reading.{value, refused}
use Rattle.clock.specs.Fault.{Answered, number_of}
use Rattle.delivery.specs.declared.satellite.System.{System}
use Rattle.delivery.specs.declared.satellite.System.TheVariants.{S, S2}
use Rattle.delivery.specs.declared.satellite.Satellite as satellite
use Rattle.delivery.specs.declared.cable.Cable as cable
use Rattle.delivery.specs.declared.terrestrial.Terrestrial as terrestrial
use Rattle.cabinet.specs.Numbers.{bit}
use Rattle.cabinet.specs.declared.delivery_readings.Satellite.{Satellite}
use Rattle.cabinet.specs.declared.delivery_readings.SatelliteAnswer.{SatelliteAnswer}
use Rattle.cabinet.specs.declared.delivery_readings.Cable.{Cable}
use Rattle.cabinet.specs.declared.delivery_readings.CableAnswer.{CableAnswer}
use Rattle.cabinet.specs.declared.delivery_readings.Terrestrial.{Terrestrial}
use Rattle.cabinet.specs.declared.delivery_readings.TerrestrialAnswer.{TerrestrialAnswer}

-- modulation_system as it is broadcast
abbrev pub system_bit : System → ℕ
system_bit S = 0
system_bit (S2 off) = 1

-- DVB-S has none
abbrev pub rollOff : System → ℕ
rollOff S = 0
rollOff (S2 off) = off

-- the fields of a satellite delivery system
abbrev pub satellite_says : satellite.Satellite → Satellite
satellite_says f = record {
  frequency = record { steps = f.frequency.0 };
  orbital_position = f.orbital_position;
  symbol_rate = f.symbol_rate;
  west_east_flag = bit f.west_east_flag;
  polarization = f.polarization;
  modulation_system = system_bit f.modulation_system;
  roll_off = rollOff f.modulation_system;
  modulation_type = f.modulation_type;
  fec_inner = f.fec_inner;
}

-- zeros, where there is none
abbrev pub no_satellite : Satellite
no_satellite = record {
  frequency = record { steps = 0 };
  orbital_position = 0;
  symbol_rate = 0;
  west_east_flag = 0;
  polarization = 0;
  modulation_system = 0;
  roll_off = 0;
  modulation_type = 0;
  fec_inner = 0;
}

-- the satellite delivery system, or the refusal
abbrev pub satellite_answer : Answered satellite.Satellite → SatelliteAnswer
satellite_answer (value f) = record { number = 0; place = 0; digit = 0; satellite = satellite_says f }
satellite_answer (refused w) = record { number = w.number; place = w.place; digit = w.digit; satellite = no_satellite }

-- the fields of a cable delivery system
abbrev pub cable_says : cable.Cable → Cable
cable_says f = record {
  frequency = record { steps = f.frequency.0 };
  symbol_rate = f.symbol_rate;
  fec_outer = f.fec_outer;
  modulation = f.modulation;
  fec_inner = f.fec_inner;
}

-- zeros, where there is none
abbrev pub no_cable : Cable
no_cable = record {
  frequency = record { steps = 0 };
  symbol_rate = 0;
  fec_outer = 0;
  modulation = 0;
  fec_inner = 0;
}

-- the cable delivery system, or the refusal
abbrev pub cable_answer : Answered cable.Cable → CableAnswer
cable_answer (value f) = record { number = 0; place = 0; digit = 0; cable = cable_says f }
cable_answer (refused w) = record { number = w.number; place = w.place; digit = w.digit; cable = no_cable }

-- the fields of a terrestrial delivery system
abbrev pub terrestrial_says : terrestrial.Terrestrial → Terrestrial
terrestrial_says f = record {
  centre_frequency = record { steps = f.centre_frequency.0 };
  bandwidth = f.bandwidth;
  priority = bit f.priority;
  time_slicing_indicator = bit f.time_slicing_indicator;
  mpe_fec_indicator = bit f.mpe_fec_indicator;
  constellation = f.constellation;
  hierarchy_information = f.hierarchy_information;
  code_rate_hp_stream = f.code_rate_hp_stream;
  code_rate_lp_stream = f.code_rate_lp_stream;
  guard_interval = f.guard_interval;
  transmission_mode = f.transmission_mode;
  other_frequency_flag = bit f.other_frequency_flag;
}

-- zeros, where there is none
abbrev pub no_terrestrial : Terrestrial
no_terrestrial = record {
  centre_frequency = record { steps = 0 };
  bandwidth = 0;
  priority = 0;
  time_slicing_indicator = 0;
  mpe_fec_indicator = 0;
  constellation = 0;
  hierarchy_information = 0;
  code_rate_hp_stream = 0;
  code_rate_lp_stream = 0;
  guard_interval = 0;
  transmission_mode = 0;
  other_frequency_flag = 0;
}

-- the terrestrial delivery system, or the refusal
abbrev pub terrestrial_answer : Answered terrestrial.Terrestrial → TerrestrialAnswer
terrestrial_answer (value f) = record { number = 0; terrestrial = terrestrial_says f }
terrestrial_answer (refused w) = record { number = number_of w; terrestrial = no_terrestrial }
