-- A struct of C stands for the fields that a reading gives, and for no others.
use mathlib.Core.Path.{◌≡◌, refl, sym, ap, ◌∙◌}
use mathlib.Core.Bool.{Bool, true, false}
use mathlib.Core.List.{[], ◌∷◌}
use Prim.{tt}
use Prim.Native.Nat.{ℕ, zero, suc, ◌<◌}
use native.Mathlib.Omega.{arith}
use borrow.Author.Tests.{ltb-false, le-ltb, eqb-true}
use lib.Dec.{eqb, ltb}
use Rattle.wire.specs.Reading.{value}
use Rattle.wire.proofs.IfLaws.{if-case}
use Rattle.wire.proofs.ReadingLaws.{value_is, never, through}
use Rattle.delivery.specs.declared.satellite.System.{System}
use Rattle.delivery.specs.declared.satellite.System.TheVariants.{S, S2}
use Rattle.delivery.specs.declared.cable.Cable as cable
use Rattle.delivery.specs.declared.satellite.Satellite as satellite
use Rattle.delivery.specs.declared.terrestrial.Terrestrial as terrestrial
use Rattle.cabinet.specs.Numbers.{bit}
use Rattle.cabinet.specs.Delivery.{cable_says, satellite_says, terrestrial_says, system_bit, rollOff}
use Rattle.cabinet.specs.declared.delivery_readings.Cable.{Cable}
use Rattle.cabinet.specs.declared.delivery_readings.Satellite.{Satellite}
use Rattle.cabinet.specs.declared.delivery_readings.Terrestrial.{Terrestrial}
use Rattle.writing.proofs.Below.{below_is, is_below}
use Rattle.desk.specs.Delivery.{cable_fields, system_of, satellite_fields, are_flags, terrestrial_fields}

-- ---- cable

pub cable_fields_lem : (f : cable.Cable) → cable_fields (cable_says f) ≡ f
cable_fields_lem f = refl

pub cable_says_lem : (c : Cable) → cable_says (cable_fields c) ≡ c
cable_says_lem c = refl

-- ---- flags and the modulation system

flag_fields : (b : Bool) → eqb (bit b) 1 ≡ b
flag_fields true = refl
flag_fields false = refl

flag_small : (b : Bool) → bit b < 2
flag_small true = omega arith
flag_small false = omega arith

-- a flag that is 0 or 1 is that of its bit
flag_says : (n : ℕ) → n < 2 → bit (eqb n 1) ≡ n
flag_says zero h = refl
flag_says (suc zero) h = refl
flag_says (suc (suc n)) h = absurd (omega arith)

system_fields : (w : System) → system_of (system_bit w) (rollOff w) ≡ value w
unfolding system_of
system_fields S = refl
system_fields (S2 r) = refl

system_says : (m r : ℕ) (w : System) → system_of m r ≡ value w → (system_bit w ≡ m) × (rollOff w ≡ r)
unfolding system_of
system_says m r w =
    if-case (λ x. x ≡ value w → Same) (eqb m 1)
    (λ h e. let q : S2 r ≡ w = value_is e in
    (ap system_bit (sym q) ∙ sym (eqb-true m 1 h), ap rollOff (sym q)))
    (λ _. if-case (λ x. x ≡ value w → Same) (eqb m 0)
    (λ h. if-case (λ x. x ≡ value w → Same) (eqb r 0)
    (λ g e. let q : S ≡ w = value_is e in
    (ap system_bit (sym q) ∙ sym (eqb-true m 0 h), ap rollOff (sym q) ∙ sym (eqb-true r 0 g)))
    (λ _ e. absurd (never (sym e))))
    (λ _ e. absurd (never (sym e))))
  where
    Same : Type 0
    Same = (system_bit w ≡ m) × (rollOff w ≡ r)

-- ---- satellite

pub satellite_fields_lem : (f : satellite.Satellite) → satellite_fields (satellite_says f) ≡ value f
unfolding satellite_fields
satellite_fields_lem f =
    rw (
      le-ltb 1 (bit f.west_east_flag) (let h = flag_small f.west_east_flag in omega arith),
      system_fields f.modulation_system,
      flag_fields f.west_east_flag,
    )

pub satellite_says_lem : (c : Satellite) (f : satellite.Satellite) → satellite_fields c ≡ value f → satellite_says f ≡ c
unfolding satellite_fields
satellite_says_lem c f =
    if-case (λ x. x ≡ value f → satellite_says f ≡ c) (ltb 1 c.west_east_flag) (λ _ e. absurd (never (sym e)))
    (λ h e.
    let t = through (system_of c.modulation_system c.roll_off) _ f e in
    let w = system_says c.modulation_system c.roll_off t.0 t.1 in
    let l = ltb-false 1 c.west_east_flag h in
    let east = flag_says c.west_east_flag (omega arith) in
    ap satellite_says (sym (value_is t.2))
    ∙ (λ i. record {
      frequency = c.frequency;
      orbital_position = c.orbital_position;
      symbol_rate = c.symbol_rate;
      west_east_flag = east i;
      polarization = c.polarization;
      modulation_system = w.0 i;
      roll_off = w.1 i;
      modulation_type = c.modulation_type;
      fec_inner = c.fec_inner;
    }))

-- ---- terrestrial

pub terrestrial_fields_lem : (f : terrestrial.Terrestrial) → terrestrial_fields (terrestrial_says f) ≡ value f
unfolding terrestrial_fields are_flags
terrestrial_fields_lem f =
    rw (
      is_below
          (bit f.priority ∷ bit f.time_slicing_indicator ∷ bit f.mpe_fec_indicator
          ∷ bit f.other_frequency_flag ∷ []) (2 ∷ 2 ∷ 2 ∷ 2 ∷ []) (
            flag_small f.priority,
            (
              flag_small f.time_slicing_indicator,
              (
                flag_small f.mpe_fec_indicator,
                (flag_small f.other_frequency_flag, tt),
              ),
            ),
          ),
      flag_fields f.priority,
      flag_fields f.time_slicing_indicator,
      flag_fields f.mpe_fec_indicator,
      flag_fields f.other_frequency_flag,
    )

pub terrestrial_says_lem : (c : Terrestrial) (f : terrestrial.Terrestrial) → terrestrial_fields c ≡ value f
    → terrestrial_says f ≡ c
unfolding terrestrial_fields are_flags
terrestrial_says_lem c f =
    if-case (λ x. x ≡ value f → terrestrial_says f ≡ c) (are_flags c)
    (λ h e.
    let (p, (t, (m, (o, _)))) = below_is
    (c.priority ∷ c.time_slicing_indicator ∷ c.mpe_fec_indicator ∷ c.other_frequency_flag ∷ [])
    (2 ∷ 2 ∷ 2 ∷ 2 ∷ []) h in
    ap terrestrial_says (sym (value_is e))
    ∙ (λ i. record {
      centre_frequency = c.centre_frequency;
      bandwidth = c.bandwidth;
      priority = flag_says c.priority p i;
      time_slicing_indicator = flag_says c.time_slicing_indicator t i;
      mpe_fec_indicator = flag_says c.mpe_fec_indicator m i;
      constellation = c.constellation;
      hierarchy_information = c.hierarchy_information;
      code_rate_hp_stream = c.code_rate_hp_stream;
      code_rate_lp_stream = c.code_rate_lp_stream;
      guard_interval = c.guard_interval;
      transmission_mode = c.transmission_mode;
      other_frequency_flag = flag_says c.other_frequency_flag o i;
    }))
    (λ _ e. absurd (never (sym e)))
