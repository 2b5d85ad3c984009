-- A delivery system is read exactly if the bytes are its tag, its length and a body whose fields, in the order of the
-- table, have its values.
use Prim.Native.Nat.{ℕ, ◌*◌}
use mathlib.Core.Path.{◌≡◌, refl, sym, ap, ◌∙◌, subst}
use mathlib.Core.Logic.{◌↔◌}
use mathlib.Core.List.{List, [], ◌∷◌}
use native.Mathlib.Omega.{arith}
use borrow.Author.Tests.{eqb-true, eqb-false}
use lib.Dec.{eqb}
use lib.ListN.{length, get_or}
use Rattle.wire.specs.Bytes.{Bytes}
use Rattle.wire.specs.Reading.{value, ◌>>=◌}
use Rattle.wire.specs.Number.{number_at, bits_at}
use Rattle.wire.specs.Digits.{bcd_show}
use Rattle.wire.proofs.IfLaws.{if-case}
use Rattle.wire.proofs.ReadingLaws.{value_is, through}
use Rattle.forms.specs.Fields.{Field}
use Rattle.layout.specs.Body.{fixed}
use Rattle.layout.specs.Field.{digits_at}
use Rattle.layout.specs.Widths.{bits, kept_of, bit, Holds}
use Rattle.layout.proofs.Accepts.{fixed_exactly}
use Rattle.layout.proofs.WidthLaws.{span, spans, whole_span, digits_shown, digits_read, flag, bit_once, bit_read, body_bytes, holds, held, ◌also◌}
use Rattle.delivery.specs.Terrestrial as terrestrial
use Rattle.delivery.specs.Cable as cable
use Rattle.delivery.specs.Satellite as satellite
use Rattle.delivery.specs.declared.terrestrial.Terrestrial.{Terrestrial}
use Rattle.delivery.specs.declared.cable.Cable.{Cable}
use Rattle.delivery.specs.declared.satellite.Satellite.{Satellite}
use Rattle.delivery.specs.declared.satellite.System.{System}
use Rattle.delivery.specs.declared.satellite.System.TheVariants.{S, S2}

-- the layouts fill eleven bytes
pub terrestrial_fills : bits terrestrial.layout ≡ 8 * 11
terrestrial_fills = refl

pub cable_fills : bits cable.layout ≡ 8 * 11
cable_fills = refl

pub satellite_fills : (x : System) → bits (satellite.layout_under x) ≡ 8 * 11
satellite_fills S = refl
satellite_fills (S2 r) = refl

-- ---- terrestrial

-- each field of the body by its place
terrestrial_places : (b : List ℕ) → Bytes b
    → kept_of terrestrial.layout (spans 0 terrestrial.layout b) ≡ terrestrial.shown (terrestrial.fields b)
unfolding number_at bits_at
terrestrial_places b bytes =
    whole_span b bytes 4 0
    also refl
    also flag _
    also flag _
    also flag _
    also refl
    also refl
    also refl
    also refl
    also refl
    also refl
    also flag _
    also refl

terrestrial_once : (f g : Terrestrial) → terrestrial.shown f ≡ terrestrial.shown g → f ≡ g
terrestrial_once f g e =
    let cf : f.centre_frequency.0 ≡ g.centre_frequency.0 = cc in
    let bw : f.bandwidth ≡ g.bandwidth = cc in
    let pr : f.priority ≡ g.priority = bit_once _ _ cc in
    let ts : f.time_slicing_indicator ≡ g.time_slicing_indicator = bit_once _ _ cc in
    let mf : f.mpe_fec_indicator ≡ g.mpe_fec_indicator = bit_once _ _ cc in
    let co : f.constellation ≡ g.constellation = cc in
    let hi : f.hierarchy_information ≡ g.hierarchy_information = cc in
    let hp : f.code_rate_hp_stream ≡ g.code_rate_hp_stream = cc in
    let lp : f.code_rate_lp_stream ≡ g.code_rate_lp_stream = cc in
    let gi : f.guard_interval ≡ g.guard_interval = cc in
    let tm : f.transmission_mode ≡ g.transmission_mode = cc in
    let of : f.other_frequency_flag ≡ g.other_frequency_flag = bit_once _ _ cc in
    λ i. record {
      centre_frequency = record { 0 = cf i };
      bandwidth = bw i;
      priority = pr i;
      time_slicing_indicator = ts i;
      mpe_fec_indicator = mf i;
      constellation = co i;
      hierarchy_information = hi i;
      code_rate_hp_stream = hp i;
      code_rate_lp_stream = lp i;
      guard_interval = gi i;
      transmission_mode = tm i;
      other_frequency_flag = of i;
    }

pub terrestrial_exactly : (s : List ℕ) → Bytes s → (f : Terrestrial)
    → terrestrial.terrestrial s ≡ value f ↔ Holds 0x5A terrestrial.layout s (terrestrial.shown f)
unfolding terrestrial.terrestrial
terrestrial_exactly s bytes f = (
  λ e.
      let t = through (fixed s 0x5A 11) (λ b. value (terrestrial.fields b)) f e in
      let x = (fixed_exactly 11 0x5A s t.0).0 t.1 in
      holds 0x5A 11 s bytes terrestrial.layout refl t.0 (terrestrial.shown f) t.1
      (terrestrial_places t.0 (body_bytes t.0 x.0 bytes) ∙ ap terrestrial.shown (value_is t.2)),
  λ h.
      let b : List ℕ = h.body in
      let x = held 0x5A 11 s bytes terrestrial.layout refl (terrestrial.shown f) h in
      let p = terrestrial_places b (body_bytes b h.framed bytes) in
      ap (λ r. r >>= λ c. value (terrestrial.fields c)) x.0
      ∙ ap value (terrestrial_once (terrestrial.fields b) f (sym p ∙ x.1)),
)

-- ---- cable

module _ (b : List ℕ) (bytes : Bytes b) (l : length b ≡ 11) (f : Cable) where
  cable_places : cable.fields b ≡ value f
      → cable.Digits f × (kept_of cable.layout (spans 0 cable.layout b) ≡ cable.shown f)
  unfolding cable.fields number_at bits_at
  cable_places e =
      let t = through (digits_at b 0 8) _ f e in
      let u = through (digits_at b 7 7) _ f t.2 in
      let frequency = digits_shown b bytes 8 0 t.0 (omega arith) (omega arith) t.1 in
      let rate = digits_shown b bytes 7 7 u.0 (omega arith) (omega arith) u.1 in
      subst (λ g. cable.Digits g × (kept_of cable.layout (spans 0 cable.layout b) ≡ cable.shown g)) (value_is u.2)
      ((frequency.1, rate.1), frequency.0 also refl also whole_span b bytes 1 6 also rate.0 also refl also refl)

  cable_read : cable.Digits f → kept_of cable.layout (spans 0 cable.layout b) ≡ cable.shown f → cable.fields b ≡ value f
  unfolding cable.fields number_at bits_at
  cable_read d e =
      let of : ℕ → List ℕ → ℕ = λ i vs. get_or vs i 0 in
      let outer : bits_at b 5 3 0 ≡ f.fec_outer = ap (of 1) e in
      let modulation : get_or b 6 0 ≡ f.modulation = sym (whole_span b bytes 1 6) ∙ ap (of 2) e in
      let inner : bits_at b 10 3 0 ≡ f.fec_inner = ap (of 4) e in
      rw (
        digits_read b bytes 8 0 f.frequency.0 (omega arith) (omega arith) (ap (of 0) e) d.0,
        digits_read b bytes 7 7 f.symbol_rate (omega arith) (omega arith) (ap (of 3) e) d.1,
        outer,
        modulation,
        inner,
      )

pub cable_exactly : (s : List ℕ) → Bytes s → (f : Cable)
    → cable.cable s ≡ value f ↔ cable.Digits f × Holds 0x44 cable.layout s (cable.shown f)
unfolding cable.cable
cable_exactly s bytes f = (
  λ e.
      let t = through (fixed s 0x44 11) cable.fields f e in
      let x = (fixed_exactly 11 0x44 s t.0).0 t.1 in
      let p = cable_places t.0 (body_bytes t.0 x.0 bytes) x.1 f t.2 in
      (p.0, holds 0x44 11 s bytes cable.layout refl t.0 (cable.shown f) t.1 p.1),
  λ h.
      let x = held 0x44 11 s bytes cable.layout refl (cable.shown f) h.1 in
      let l = ((fixed_exactly 11 0x44 s h.1.body).0 x.0).1 in
      ap (λ r. r >>= cable.fields) x.0
      ∙ cable_read h.1.body (body_bytes h.1.body h.1.framed bytes) l f h.0 x.1,
)

-- ---- satellite

module _ (b : List ℕ) (bytes : Bytes b) (l : length b ≡ 11) (f : Satellite) where
  abbrev Placed : Satellite → Type 0
  Placed g =
      kept_of (satellite.layout_under g.modulation_system)
      (spans 0 (satellite.layout_under g.modulation_system) b)
      ≡ satellite.shown g

  satellite_places : satellite.fields b ≡ value f → satellite.Digits f × Placed f
  unfolding satellite.fields satellite.system number_at bits_at
  satellite_places e =
      let t = through (digits_at b 0 8) _ f e in
      let u = through (digits_at b 4 4) _ f t.2 in
      let v = through (digits_at b 7 7) _ f u.2 in
      let frequency = digits_shown b bytes 8 0 t.0 (omega arith) (omega arith) t.1 in
      let position = digits_shown b bytes 4 4 u.0 (omega arith) (omega arith) u.1 in
      let rate = digits_shown b bytes 7 7 v.0 (omega arith) (omega arith) v.1 in
      let placed : Placed (satellite.made b t.0 u.0 v.0) =
      if-case (By t.0 u.0 v.0) (eqb (bits_at b 6 2 2) 0)
      (λ h. frequency.0 also position.0 also flag _ also refl also eqb-true _ _ h also refl also rate.0 also refl
      also refl)
      (λ h.
      let n = eqb-false (bits_at b 6 2 2) 0 h in
      let one : bits_at b 6 2 2 ≡ 1 = omega (arith, n) in
      frequency.0 also position.0 also flag _ also refl also refl also one also refl also rate.0 also refl also
      refl) in
      subst (λ g. satellite.Digits g × Placed g) (value_is v.2) ((frequency.1, position.1, rate.1), placed)
    where
      By : ℕ → ℕ → ℕ → System → Type 0
      By x y z w =
          kept_of (satellite.layout_under w) (spans 0 (satellite.layout_under w) b)
          ≡ bcd_show 8 x ∷ bcd_show 4 y ∷ bit (eqb (bits_at b 6 7 7) 1) ∷ bits_at b 6 6 5
          ∷ satellite.system_shown w (bits_at b 6 1 0 ∷ bcd_show 7 z ∷ bits_at b 10 3 0 ∷ [])

  -- the fields that have those values
  Fielded : System → ℕ → ℕ → ℕ → ℕ → ℕ → ℕ → ℕ → Type 0
  Fielded w frequency position east polarization type rate inner =
      (span 0 32 b ≡ frequency) × (span 32 16 b ≡ position) × (bits_at b 6 7 7 ≡ east) × (bits_at b 6 6 5 ≡ polarization)
      × (satellite.system b ≡ w) × (bits_at b 6 1 0 ≡ type) × (span 56 28 b ≡ rate) × (bits_at b 10 3 0 ≡ inner)

  fielded : (w : System) (x y p q m z c : ℕ)
      → kept_of (satellite.layout_under w) (spans 0 (satellite.layout_under w) b)
      ≡ x ∷ y ∷ p ∷ q ∷ satellite.system_shown w (m ∷ z ∷ c ∷ [])
      → Fielded w x y p q m z c
  unfolding Fielded satellite.system number_at bits_at
  fielded S x y p q m z c e =
      let of : ℕ → List ℕ → ℕ = λ i vs. get_or vs i 0 in
      let system : bits_at b 6 2 2 ≡ 0 = ap (of 4) e in
      (ap (of 0) e, ap (of 1) e, ap (of 2) e, ap (of 3) e, rw system, ap (of 5) e, ap (of 6) e, ap (of 7) e)
  fielded (S2 r) x y p q m z c e =
      let of : ℕ → List ℕ → ℕ = λ i vs. get_or vs i 0 in
      let system : bits_at b 6 2 2 ≡ 1 = ap (of 5) e in (
        ap (of 0) e,
        ap (of 1) e,
        ap (of 2) e,
        ap (of 3) e,
        rw system (ap S2 (ap (of 4) e)),
        ap (of 6) e,
        ap (of 7) e,
        ap (of 8) e,
      )

  satellite_read : satellite.Digits f → Placed f → satellite.fields b ≡ value f
  unfolding satellite.fields Fielded
  satellite_read d e =
      let (frequency, position, east, polarization, system, type, rate, inner) = fielded f.modulation_system _ _ _
      _ _ _ _ e in
      rw (
        digits_read b bytes 8 0 f.frequency.0 (omega arith) (omega arith) frequency d.0,
        digits_read b bytes 4 4 f.orbital_position (omega arith) (omega arith) position d.1,
        digits_read b bytes 7 7 f.symbol_rate (omega arith) (omega arith) rate d.2,
        east,
        bit_read,
        polarization,
        system,
        type,
        inner,
      )

pub satellite_exactly : (s : List ℕ) → Bytes s → (f : Satellite)
    → satellite.satellite s ≡ value f ↔ satellite.Digits f
    × Holds 0x43 (satellite.layout_under f.modulation_system) s (satellite.shown f)
unfolding satellite.satellite
satellite_exactly s bytes f = (
  λ e.
      let t = through (fixed s 0x43 11) satellite.fields f e in
      let x = (fixed_exactly 11 0x43 s t.0).0 t.1 in
      let p = satellite_places t.0 (body_bytes t.0 x.0 bytes) x.1 f t.2 in
      (p.0, holds 0x43 11 s bytes layout (satellite_fills system) t.0 (satellite.shown f) t.1 p.1),
  λ h.
      let b : List ℕ = h.1.body in
      let x = held 0x43 11 s bytes layout (satellite_fills system) (satellite.shown f) h.1 in
      let l = ((fixed_exactly 11 0x43 s b).0 x.0).1 in
      ap (λ r. r >>= satellite.fields) x.0 ∙ satellite_read b (body_bytes b h.1.framed bytes) l f h.0 x.1,
)
  where
    system : System
    system = f.modulation_system

    layout : List Field
    layout = satellite.layout_under system
