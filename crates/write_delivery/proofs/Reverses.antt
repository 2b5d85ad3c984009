-- Each writer of a delivery system is the reverse of its reading, and refuses exactly what no descriptor is read as.
use Prim.{Unit, tt}
use mathlib.Core.Path.{◌≡◌, refl, ap, ◌∙◌}
use mathlib.Core.Logic.{◌↔◌}
use mathlib.Core.Bool.{true}
use mathlib.Core.List.{List, [], ◌∷◌}
use Prim.Native.Nat.{ℕ, ◌^◌, ◌<◌}
use native.Mathlib.Omega.{arith}
use borrow.Author.Tests.{eqb-true, eqb-false}
use lib.Dec.{eqb}
use lib.ListN.{drop}
use Rattle.wire.specs.Bytes.{Bytes}
use Rattle.wire.specs.Reading.{value, refused}
use Rattle.wire.specs.Digits.{bcd_show}
use Rattle.wire.proofs.IfLaws.{if-case}
use Rattle.wire.proofs.ReadingLaws.{value_is, through}
use Rattle.wire.proofs.Shown.{show_below}
use Rattle.forms.specs.Fields.{unpack}
use Rattle.layout.specs.Body.{fixed}
use Rattle.layout.specs.Field.{digits_at}
use Rattle.layout.specs.Widths.{bits_of, Holds}
use Rattle.layout.proofs.Accepts.{fixed_exactly}
use Rattle.delivery.specs.Cable as cable
use Rattle.delivery.specs.Satellite as satellite
use Rattle.delivery.specs.Terrestrial as terrestrial
use Rattle.delivery.specs.declared.cable.Cable.{Cable}
use Rattle.delivery.specs.declared.satellite.Satellite.{Satellite}
use Rattle.delivery.specs.declared.satellite.System.{System}
use Rattle.delivery.specs.declared.satellite.System.TheVariants.{S, S2}
use Rattle.delivery.specs.declared.terrestrial.Terrestrial.{Terrestrial}
use Rattle.delivery.proofs.Layouts.{cable_exactly, satellite_exactly, terrestrial_exactly, satellite_fills}
use Rattle.writing.specs.Fill.{ones, zeros, ReservedIn, below, capacities}
use Rattle.writing.specs.Reverse.{Reverse, FieldExactly}
use Rattle.writing.proofs.Made.{ones_laid, zeros_laid}
use Rattle.writing.proofs.Below.{below_is, is_below}
use Rattle.writing.proofs.Bodies as bodies
use Rattle.write_delivery.specs.Cable as cable-written
use Rattle.write_delivery.specs.Satellite as satellite-written
use Rattle.write_delivery.specs.Terrestrial as terrestrial-written

-- ---- cable

cable_right : (f : Cable) → below (cable-written.numbers f) cable-written.limits ≡ true
    ↔ cable.Digits f × (below (cable.shown f) (capacities cable.layout) ≡ true)
cable_right f = (
  λ h.
      let (frequency, (outer, (modulation, (rate, (inner, _))))) = below_is (cable-written.numbers f) cable-written.limits h in (
        (frequency, rate),
        is_below (cable.shown f) (capacities cable.layout)
            (show_below 8 f.frequency.0, (outer, (modulation, (show_below 7 f.symbol_rate, (inner, tt))))),
      ),
  λ x.
      let (_, (outer, (modulation, (_, (inner, _))))) = below_is (cable.shown f) (capacities cable.layout) x.1 in
      is_below (cable-written.numbers f) cable-written.limits (x.0.0, (outer, (modulation, (x.0.1, (inner, tt))))),
)

pub cable_reverse : Reverse (λ (f : Cable). Unit {0}) cable.cable cable-written.cable_written cable-written.Usual
unfolding cable-written.cable_written
cable_reverse =
    bodies.reverse 0x44 11 (omega arith) (omega arith) ones ones_laid (λ f. cable.layout) (λ f. refl) cable.shown
    (λ f. below (cable-written.numbers f) cable-written.limits) cable.Digits cable_right cable.cable cable_exactly
    cable-written.Usual (λ s f bytes e. (λ u. u, λ u. u))

pub cable-field-exactly
    : FieldExactly (λ (f : Cable). Unit {0}) cable.cable cable-written.cable_written cable-written.numbers
unfolding cable-written.cable_written
cable-field-exactly =
    bodies.field_exactly 0x44 11 (omega arith) (omega arith) ones ones_laid (λ f. cable.layout) (λ f. refl) cable.shown
    (λ f. below (cable-written.numbers f) cable-written.limits) cable.Digits cable_right cable.cable cable_exactly
    cable-written.numbers cable-written.limits (λ f. refl) (λ f. refl)

pub cable_never_long : (f : Cable) → cable-written.cable_written f ≡ refused 113 → ⊥
unfolding cable-written.cable_written
cable_never_long =
    bodies.never_long 0x44 11 (omega arith) (omega arith) ones ones_laid (λ f. cable.layout) (λ f. refl) cable.shown
    (λ f. below (cable-written.numbers f) cable-written.limits) cable.Digits cable_right cable.cable cable_exactly

-- ---- terrestrial

terrestrial_right : (f : Terrestrial) → below (terrestrial.shown f) (capacities terrestrial.layout) ≡ true
    ↔ Unit {0} × (below (terrestrial.shown f) (capacities terrestrial.layout) ≡ true)
terrestrial_right f = (λ h. (tt, h), λ x. x.1)

terrestrial_read : (s : List ℕ) → Bytes s → (f : Terrestrial)
    → terrestrial.terrestrial s ≡ value f ↔ Unit {0} × Holds 0x5A terrestrial.layout s (terrestrial.shown f)
terrestrial_read s bytes f =
    (λ e. (tt, (terrestrial_exactly s bytes f).0 e), λ x. (terrestrial_exactly s bytes f).1 x.1)

pub terrestrial-reverse
    : Reverse (λ (f : Terrestrial). Unit {0}) terrestrial.terrestrial terrestrial-written.terrestrial_written
    terrestrial-written.Usual
unfolding terrestrial-written.terrestrial_written
terrestrial-reverse =
    bodies.reverse 0x5A 11 (omega arith) (omega arith) ones ones_laid (λ f. terrestrial.layout) (λ f. refl)
    terrestrial.shown (λ f. below (terrestrial.shown f) (capacities terrestrial.layout)) (λ f. Unit {0})
    terrestrial_right terrestrial.terrestrial terrestrial_read terrestrial-written.Usual
    (λ s f bytes e. (λ u. u, λ u. u))

pub terrestrial-field-exactly
    : FieldExactly (λ (f : Terrestrial). Unit {0}) terrestrial.terrestrial terrestrial-written.terrestrial_written
    terrestrial.shown
unfolding terrestrial-written.terrestrial_written
terrestrial-field-exactly =
    bodies.field_exactly 0x5A 11 (omega arith) (omega arith) ones ones_laid (λ f. terrestrial.layout) (λ f. refl)
    terrestrial.shown (λ f. below (terrestrial.shown f) (capacities terrestrial.layout)) (λ f. Unit {0})
    terrestrial_right terrestrial.terrestrial terrestrial_read terrestrial.shown (capacities terrestrial.layout)
    (λ f. refl) (λ f. refl)

pub terrestrial_never_long : (f : Terrestrial) → terrestrial-written.terrestrial_written f ≡ refused 113 → ⊥
unfolding terrestrial-written.terrestrial_written
terrestrial_never_long =
    bodies.never_long 0x5A 11 (omega arith) (omega arith) ones ones_laid (λ f. terrestrial.layout) (λ f. refl)
    terrestrial.shown (λ f. below (terrestrial.shown f) (capacities terrestrial.layout)) (λ f. Unit {0})
    terrestrial_right terrestrial.terrestrial terrestrial_read

-- ---- satellite

module _ (x y p q m z c : ℕ) where
  abbrev Numbers : System → List ℕ
  Numbers w = x ∷ y ∷ p ∷ q ∷ satellite-written.rollOff w ∷ satellite-written.system_bit w ∷ m ∷ z ∷ c ∷ []

  abbrev Shown : System → List ℕ
  Shown w = bcd_show 8 x ∷ bcd_show 4 y ∷ p ∷ q ∷ satellite.system_shown w (m ∷ bcd_show 7 z ∷ c ∷ [])

  abbrev Digits : Type 0
  Digits = (x < 10 ^ 8) × (y < 10 ^ 4) × (z < 10 ^ 7)

  right_under : (w : System) → below (Numbers w) satellite-written.limits ≡ true
      → Digits × (below (Shown w) (capacities (satellite.layout_under w)) ≡ true)
  right_under S h =
      let (f, (o, (e, (l, (_, (b, (t, (r, (i, _))))))))) = below_is (Numbers S) satellite-written.limits h in (
        (f, o, r),
        is_below (Shown S) (capacities (satellite.layout_under S))
            (show_below 8 x, (show_below 4 y, (e, (l, (b, (t, (show_below 7 z, (i, tt)))))))),
      )
  right_under (S2 k) h =
      let (f, (o, (e, (l, (a, (b, (t, (r, (i, _))))))))) = below_is (Numbers (S2 k)) satellite-written.limits h in (
        (f, o, r),
        is_below (Shown (S2 k)) (capacities (satellite.layout_under (S2 k)))
            (show_below 8 x, (show_below 4 y, (e, (l, (a, (b, (t, (show_below 7 z, (i, tt))))))))),
      )

  under_right : (w : System) → Digits → below (Shown w) (capacities (satellite.layout_under w)) ≡ true
      → below (Numbers w) satellite-written.limits ≡ true
  under_right S (f, o, r) h =
      let (_, (_, (e, (l, (b, (t, (_, (i, _)))))))) = below_is (Shown S) (capacities (satellite.layout_under S)) h in
      is_below (Numbers S) satellite-written.limits (f, (o, (e, (l, (omega arith, (b, (t, (r, (i, tt)))))))))
  under_right (S2 k) (f, o, r) h =
      let (_, (_, (e, (l, (a, (b, (t, (_, (i, _))))))))) = below_is (Shown (S2 k))
      (capacities (satellite.layout_under (S2 k))) h in
      is_below (Numbers (S2 k)) satellite-written.limits (f, (o, (e, (l, (a, (b, (t, (r, (i, tt)))))))))

satellite_right : (f : Satellite) → below (satellite-written.numbers f) satellite-written.limits ≡ true
    ↔ satellite.Digits f
    × (below (satellite.shown f) (capacities (satellite.layout_under f.modulation_system)) ≡ true)
satellite_right f = (
  right_under _ _ _ _ _ _ _ f.modulation_system,
  λ x. under_right _ _ _ _ _ _ _ f.modulation_system x.0 x.1,
)

-- modulation_system as it was read
satellite_system : (s : List ℕ) (f : Satellite) → satellite.satellite s ≡ value f
    → satellite.system (drop 2 s) ≡ f.modulation_system
unfolding satellite.satellite satellite.fields
satellite_system s f e =
    let t = through (fixed s 0x43 11) satellite.fields f e in
    let u = through (digits_at t.0 0 8) _ f t.2 in
    let v = through (digits_at t.0 4 4) _ f u.2 in
    let w = through (digits_at t.0 7 7) _ f v.2 in
    let same : drop 2 s ≡ t.0 = ap (drop 2) ((fixed_exactly 11 0x43 s t.0).0 t.1).0 in
    ap satellite.system same ∙ ap (λ g. g.modulation_system) (value_is w.2)

-- "satellite's two under modulation_system 0: zeros": under 1 they are kept, and no bit is reserved
two_bits : (b : List ℕ) (w : System) → satellite.system b ≡ w
    → (bits_of satellite.layout 5 b ≡ 0 → ReservedIn zeros (satellite.layout_under S) b)
    ↔ ReservedIn zeros (satellite.layout_under w) b
unfolding satellite.system unpack
two_bits b S e = (
  λ u. u (if-case (λ v. v ≡ S → bits_of satellite.layout 5 b ≡ 0) (eqb (bits_of satellite.layout 5 b) 0)
      (λ h _. eqb-true _ _ h) (λ _ d. absurd (s2_not_s d)) e),
  λ r _. r,
)
  where
    s2_not_s : {k : ℕ} → S2 k ≡ S → ⊥
    s2_not_s d = let o : ◌≡◌ {A = ℕ} 0 1 = cc in omega arith
two_bits b (S2 k) e = (
  λ _. tt,
  λ _ z. absurd (if-case (λ v. v ≡ S2 k → ⊥) (eqb (bits_of satellite.layout 5 b) 0) (λ _ d. s_not_s2 d)
      (λ h _. eqb-false _ _ h z) e),
)
  where
    s_not_s2 : S ≡ S2 k → ⊥
    s_not_s2 d = let o : ◌≡◌ {A = ℕ} 0 1 = cc in omega arith

pub satellite-reverse
    : Reverse (λ (f : Satellite). Unit {0}) satellite.satellite satellite-written.satellite_written
    satellite-written.Usual
unfolding satellite-written.satellite_written
satellite-reverse =
    bodies.reverse 0x43 11 (omega arith) (omega arith) zeros zeros_laid
    (λ f. satellite.layout_under f.modulation_system) (λ f. satellite_fills f.modulation_system)
    satellite.shown (λ f. below (satellite-written.numbers f) satellite-written.limits) satellite.Digits
    satellite_right satellite.satellite satellite_exactly satellite-written.Usual
    (λ s f bytes e. two_bits (drop 2 s) f.modulation_system (satellite_system s f e))

pub satellite-field-exactly
    : FieldExactly (λ (f : Satellite). Unit {0}) satellite.satellite satellite-written.satellite_written
    satellite-written.numbers
unfolding satellite-written.satellite_written
satellite-field-exactly =
    bodies.field_exactly 0x43 11 (omega arith) (omega arith) zeros zeros_laid
    (λ f. satellite.layout_under f.modulation_system) (λ f. satellite_fills f.modulation_system)
    satellite.shown (λ f. below (satellite-written.numbers f) satellite-written.limits) satellite.Digits
    satellite_right satellite.satellite satellite_exactly satellite-written.numbers satellite-written.limits
    (λ f. refl) (λ f. refl)

pub satellite_never_long : (f : Satellite) → satellite-written.satellite_written f ≡ refused 113 → ⊥
unfolding satellite-written.satellite_written
satellite_never_long =
    bodies.never_long 0x43 11 (omega arith) (omega arith) zeros zeros_laid
    (λ f. satellite.layout_under f.modulation_system) (λ f. satellite_fills f.modulation_system)
    satellite.shown (λ f. below (satellite-written.numbers f) satellite-written.limits) satellite.Digits
    satellite_right satellite.satellite satellite_exactly
