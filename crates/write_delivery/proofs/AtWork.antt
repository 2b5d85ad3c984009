-- The writers at work: the values that EN 300 468 prints in clause 6.2.13, and a terrestrial delivery system put together
-- by hand, whose fields are each told from their neighbours. `delivery/Printed` and `descriptor/Examples` read the same.
use Prim.{tt}
use mathlib.Core.Path.{◌≡◌, refl}
use mathlib.Core.Bool.{true, false}
use mathlib.Core.List.{List, [], ◌∷◌}
use Prim.Native.Nat.{ℕ}
use native.Mathlib.Omega.{arith}
use Rattle.wire.specs.Reading.{value, refused}
use Rattle.wire.specs.Number.{number_at, bits_at}
use Rattle.wire.specs.Digits.{bcd_show, bcd_of, bcd_after}
use Rattle.forms.specs.Fields.{room, pack, unpack}
use Rattle.layout.specs.Body.{framed, fixed}
use Rattle.layout.specs.Field.{digits_at}
use Rattle.delivery.specs.Cable as cable
use Rattle.delivery.specs.Satellite as satellite
use Rattle.delivery.specs.declared.cable.Cable.{Cable}
use Rattle.delivery.specs.declared.satellite.Satellite.{Satellite}
use Rattle.delivery.specs.declared.satellite.System.{System}
use Rattle.delivery.specs.declared.satellite.System.TheVariants.{S, S2}
use Rattle.writing.specs.Number.{ofNumber}
use Rattle.writing.specs.Fill.{filled, made, below}
use Rattle.write_delivery.specs.Cable as cable-written
use Rattle.write_delivery.specs.Satellite as satellite-written
use Rattle.write_delivery.specs.Terrestrial.{terrestrial_written}

-- ---- cable: 312 MHz and 27,45 Msymbol/s; FEC_outer 2, modulation 3, FEC_inner 15

abbrev printed : ℕ → Cable
printed frequency = record {
  frequency = record { 0 = frequency };
  fec_outer = 2;
  modulation = 3;
  symbol_rate = 274500;
  fec_inner = 15;
}

abbrev cable_bytes : ℕ → ℕ → List ℕ
cable_bytes r f = 0x44 ∷ 0x0B ∷ 0x03 ∷ 0x12 ∷ 0x00 ∷ 0x00 ∷ r ∷ f ∷ 0x03 ∷ 0x02 ∷ 0x74 ∷ 0x50 ∷ 0x0F ∷ []

pub cable_at_work : cable-written.cable_written (printed 3120000) ≡ value (cable_bytes 0xFF 0xF2)
unfolding cable-written.cable_written below made filled pack room ofNumber bcd_show
cable_at_work = refl

-- "reserved bits were ones", and where they are zeros the same is read
pub cable_usual : cable-written.Usual (cable_bytes 0xFF 0xF2)
unfolding unpack room
cable_usual = (refl, tt)

pub cable_unusual : (cable.cable (cable_bytes 0x00 0x02) ≡ value (printed 3120000))
    × (cable-written.Usual (cable_bytes 0x00 0x02) → ⊥)
unfolding cable.cable cable.fields fixed framed digits_at number_at bits_at bcd_of bcd_after unpack room
cable_unusual = (refl, λ u. let e : ◌≡◌ {A = ℕ} 0 0xFFF = u.0 in omega arith)

-- "112 a field outside its layout": nine digits
pub cable_outside : cable-written.cable_written (printed 100_000_000) ≡ refused 112
unfolding cable-written.cable_written below
cable_outside = refl

-- ---- satellite: 11,75725 GHz, 19,2 degrees east, 27,45 Msymbol/s; polarization 0, modulation_type 1, FEC_inner 3

abbrev under : System → Satellite
under w = record {
  frequency = record { 0 = 1175725 };
  orbital_position = 192;
  west_east_flag = true;
  polarization = 0;
  modulation_system = w;
  modulation_type = 1;
  symbol_rate = 274500;
  fec_inner = 3;
}

abbrev satellite_bytes : ℕ → List ℕ
satellite_bytes b = 0x43 ∷ 0x0B ∷ 0x01 ∷ 0x17 ∷ 0x57 ∷ 0x25 ∷ 0x01 ∷ 0x92 ∷ b ∷ 0x02 ∷ 0x74 ∷ 0x50 ∷ 0x03 ∷ []

pub satellite_at_work : satellite-written.satellite_written (under S) ≡ value (satellite_bytes 0x81)
unfolding satellite-written.satellite_written below made filled pack room ofNumber bcd_show
satellite_at_work = refl

-- a roll-off factor is kept under DVB-S2, and reserved under DVB-S: there ones are read too, and written as zeros
pub satellite_2_at_work : satellite-written.satellite_written (under (S2 2)) ≡ value (satellite_bytes 0x95)
unfolding satellite-written.satellite_written below made filled pack room ofNumber bcd_show
satellite_2_at_work = refl

pub satellite_unusual : (satellite.satellite (satellite_bytes 0x99) ≡ value (under S))
    × (satellite-written.Usual (satellite_bytes 0x99) → ⊥)
unfolding satellite.satellite satellite.fields satellite.system fixed framed digits_at number_at bits_at bcd_of bcd_after
    unpack room
satellite_unusual = (refl, λ u. let e : ◌≡◌ {A = ℕ} 3 0 = (u refl).0 in omega arith)

-- ---- terrestrial: 498 MHz; 010 1 0 1 11, 10 001 011, 100 01 10 1

pub terrestrial_at_work : terrestrial_written (record {
  centre_frequency = record { 0 = 49_800_000 };
  bandwidth = 2;
  priority = true;
  time_slicing_indicator = false;
  mpe_fec_indicator = true;
  constellation = 2;
  hierarchy_information = 1;
  code_rate_hp_stream = 3;
  code_rate_lp_stream = 4;
  guard_interval = 1;
  transmission_mode = 2;
  other_frequency_flag = true;
})
    ≡ value (0x5A ∷ 0x0B ∷ 0x02 ∷ 0xF7 ∷ 0xE3 ∷ 0x40 ∷ 0x57 ∷ 0x8B ∷ 0x8D ∷ 0xFF ∷ 0xFF ∷ 0xFF ∷ 0xFF ∷ [])
unfolding terrestrial_written below made filled pack room ofNumber
terrestrial_at_work = refl
