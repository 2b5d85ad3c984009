-- What a delivery system's refusal tells of its numbers in BCD: which one, its place in the body, and the digit.
use Prim.{tt}
use mathlib.Core.Path.{◌≡◌}
use mathlib.Core.List.{List, [], ◌∷◌}
use Prim.Native.Nat.{ℕ}
use native.Mathlib.Omega.{arith}
use lib.ListN.{length, drop}
use Rattle.wire.specs.Bytes.{Bytes}
use Rattle.clock.specs.Reported.{digits, Judged, RefusalTells}
use Rattle.clock.proofs.FirstWrong.{judged_value, judged_then}
use Rattle.layout.specs.Shapes.{Framed}
use Rattle.layout.proofs.WidthLaws.{body_bytes}
use Rattle.layout.proofs.Reported.{digits_at_judged, fixed_judged, fixed_tells}
use Rattle.delivery.specs.Satellite as satellite
use Rattle.delivery.specs.Cable as cable

module _ (b : List ℕ) (bytes : Bytes b) where
  satellite_fields_lem : Judged b satellite.checked (satellite.fields b)
  unfolding satellite.fields
  satellite_fields_lem =
      judged_then b (digits 0 8 ∷ []) (digits 4 4 ∷ digits 7 7 ∷ []) _ _ (digits_at_judged b bytes 0 8 (omega arith))
      (λ frequency. judged_then b (digits 4 4 ∷ []) (digits 7 7 ∷ []) _ _ (digits_at_judged b bytes 4 4 (omega arith))
      (λ position. judged_then b (digits 7 7 ∷ []) [] _ _ (digits_at_judged b bytes 7 7 (omega arith))
      (λ rate. judged_value b [] _ tt)))

  cable_fields_lem : Judged b cable.checked (cable.fields b)
  unfolding cable.fields
  cable_fields_lem =
      judged_then b (digits 0 8 ∷ []) (digits 7 7 ∷ []) _ _ (digits_at_judged b bytes 0 8 (omega arith))
      (λ frequency. judged_then b (digits 7 7 ∷ []) [] _ _ (digits_at_judged b bytes 7 7 (omega arith))
      (λ rate. judged_value b [] _ tt))

module _ (s : List ℕ) (bytes : Bytes s) where
  -- a body that fits is read exactly if its fields are right, and else the first wrong one is told
  pub satellite_judged : (b : List ℕ) → Framed 0x43 s b → length b ≡ 11 → Judged b satellite.checked (satellite.satellite s)
  unfolding satellite.satellite
  satellite_judged b framed eleven =
      fixed_judged satellite.fields 11 0x43 s b satellite.checked framed eleven
      (satellite_fields_lem b (body_bytes b framed bytes))

  pub cable_judged : (b : List ℕ) → Framed 0x44 s b → length b ≡ 11 → Judged b cable.checked (cable.cable s)
  unfolding cable.cable
  cable_judged b framed eleven =
      fixed_judged cable.fields 11 0x44 s b cable.checked framed eleven (cable_fields_lem b (body_bytes b framed bytes))

  -- whatever the bytes are
  pub satellite_tells : RefusalTells (drop 2 s) satellite.checked (satellite.satellite s)
  unfolding satellite.satellite
  satellite_tells =
      fixed_tells satellite.fields 11 0x43 s satellite.checked
      (λ b framed eleven. satellite_fields_lem b (body_bytes b framed bytes))

  pub cable_tells : RefusalTells (drop 2 s) cable.checked (cable.cable s)
  unfolding cable.cable
  cable_tells =
      fixed_tells cable.fields 11 0x44 s cable.checked (λ b framed eleven. cable_fields_lem b (body_bytes b framed bytes))
