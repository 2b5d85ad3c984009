-- The three bytes behind the frequency, as one number.
use Rattle.std.specs.Prelude.{ℕ, ◌+◌, ◌*◌}
use Rattle.wire.specs.Digits.{bcd_show}
use Rattle.layout.specs.Widths.{bit}
use Rattle.delivery.specs.declared.cable.Cable.{Cable}
use Rattle.delivery.specs.declared.satellite.Satellite.{Satellite}
use Rattle.delivery.specs.declared.terrestrial.Terrestrial.{Terrestrial}
use Rattle.write_delivery.specs.Satellite.{rollOff, system_bit}

-- twelve reserved bits, FEC_outer, modulation
abbrev pub cable_middle : Cable → ℕ
cable_middle f = 0xFFF000 + f.fec_outer * 256 + f.modulation

-- west_east_flag, polarization, roll_off, modulation_system, modulation_type
abbrev pub system_bits : Satellite → ℕ
system_bits f =
    bit f.west_east_flag * 128 + f.polarization * 32 + rollOff f.modulation_system * 8
    + system_bit f.modulation_system * 4 + f.modulation_type

-- orbital_position, and that byte
abbrev pub satellite_middle : Satellite → ℕ
satellite_middle f = bcd_show 4 f.orbital_position * 256 + system_bits f

-- bandwidth, priority, Time_Slicing_indicator, MPE-FEC_indicator, two reserved bits
abbrev pub first_bits : Terrestrial → ℕ
first_bits f =
    f.bandwidth * 32 + bit f.priority * 16 + bit f.time_slicing_indicator * 8 + bit f.mpe_fec_indicator * 4 + 3

-- constellation, hierarchy_information, code_rate-HP_stream
abbrev pub second_bits : Terrestrial → ℕ
second_bits f = f.constellation * 64 + f.hierarchy_information * 8 + f.code_rate_hp_stream

-- code_rate-LP_stream, guard_interval, transmission_mode, other_frequency_flag
abbrev pub third_bits : Terrestrial → ℕ
third_bits f =
    f.code_rate_lp_stream * 32 + f.guard_interval * 8 + f.transmission_mode * 2 + bit f.other_frequency_flag

-- the three bytes
abbrev pub terrestrial_middle : Terrestrial → ℕ
terrestrial_middle f = first_bits f * 65536 + second_bits f * 256 + third_bits f
