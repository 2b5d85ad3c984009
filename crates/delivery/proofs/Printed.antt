-- The values that EN 300 468 prints in clause 6.2.13, each in a descriptor of its own: the checker reads it.
use mathlib.Core.Path.{◌≡◌, refl}
use mathlib.Core.Bool.{true}
use mathlib.Core.List.{[], ◌∷◌}
use Rattle.wire.specs.Reading.{value}
use Rattle.wire.specs.Number.{number_at, bits_at}
use Rattle.wire.specs.Digits.{bcd_after, bcd_of}
use Rattle.layout.specs.Body.{framed, fixed}
use Rattle.layout.specs.Field.{digits_at}
use Rattle.delivery.specs.Terrestrial as terrestrial
use Rattle.delivery.specs.Cable as cable
use Rattle.delivery.specs.Satellite as satellite
use Rattle.delivery.specs.declared.satellite.System.TheVariants.{S}

-- 0312,0000 MHz and 027,4500 Msymbol/s; FEC_outer 2, modulation 3, FEC_inner 15
pub cable_printed : cable.cable (0x44 ∷ 0x0B ∷ 0x03 ∷ 0x12 ∷ 0x00 ∷ 0x00 ∷ 0xFF ∷ 0xF2 ∷ 0x03 ∷ 0x02 ∷ 0x74 ∷ 0x50
    ∷ 0x0F ∷ [])
    ≡ value (record {
      frequency = record { 0 = 3120000 };
      fec_outer = 2;
      modulation = 3;
      symbol_rate = 274500;
      fec_inner = 15;
    })
unfolding cable.cable cable.fields fixed framed digits_at number_at bits_at bcd_of bcd_after
cable_printed = refl

pub cable_hertz : cable.hertz (record { 0 = 3120000 }) ≡ 312_000_000
cable_hertz = refl

-- 011,75725 GHz, 019,2 degrees east, 027,4500 Msymbol/s; polarization 0, modulation_type 1 and FEC_inner 3, under DVB-S
pub satellite_printed : satellite.satellite (0x43 ∷ 0x0B ∷ 0x01 ∷ 0x17 ∷ 0x57 ∷ 0x25 ∷ 0x01 ∷ 0x92 ∷ 0x81 ∷ 0x02 ∷ 0x74
    ∷ 0x50 ∷ 0x03 ∷ [])
    ≡ value (record {
      frequency = record { 0 = 1175725 };
      orbital_position = 192;
      west_east_flag = true;
      polarization = 0;
      modulation_system = S;
      modulation_type = 1;
      symbol_rate = 274500;
      fec_inner = 3;
    })
unfolding satellite.satellite satellite.fields satellite.system fixed framed digits_at number_at bits_at bcd_of bcd_after
satellite_printed = refl

pub satellite_hertz : satellite.hertz (record { 0 = 1175725 }) ≡ 11_757_250_000
satellite_hertz = refl

-- "from minimum 10 Hz (0x00000001) up to a maximum of 42 949 672 950 Hz (0xFFFFFFFF)"
pub terrestrial_least : terrestrial.hertz (record { 0 = 0x0000_0001 }) ≡ 10
terrestrial_least = refl

pub terrestrial_most : terrestrial.hertz (record { 0 = 0xFFFF_FFFF }) ≡ 42_949_672_950
terrestrial_most = refl
