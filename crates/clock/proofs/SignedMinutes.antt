-- Minutes of either sign stand in an i16.
use mathlib.Core.Path.{◌≡◌, ap, ◌∙◌}
use mathlib.Core.Bool.{Bool, true, false}
use Prim.Native.Nat.{ℕ, zero, suc, ◌^◌, ◌<◌}
use native.Mathlib.Omega.{arith}
use lib.IntN.{pos, neg_ℤ, ◌-ℤ◌, +ℤ_idl}
use mir.Syntax.{w16}
use mir.Val.{SFits, to_z, of_z}
use mir.Facts.{to_z_pos, to_z-of_z}
use Rattle.clock.specs.Offset.{signed}

-- what the machine takes from 0
pub negated : (n : ℕ) → n < 2 ^ 15 → pos 0 -ℤ to_z w16 n ≡ neg_ℤ (pos n)
negated n h = ap (λ z. pos 0 -ℤ z) (to_z_pos w16 h) ∙ +ℤ_idl (neg_ℤ (pos n))

pub signed_fits : (behind : Bool) (n : ℕ) → n < 2 ^ 15 → SFits w16 (signed behind n)
signed_fits true zero h = record { sfits = h }
signed_fits true (suc n) h = record { sfits = omega arith }
signed_fits false n h = record { sfits = h }

-- what is stored is read back
pub signed_kept : (behind : Bool) (n : ℕ) → n < 2 ^ 15 → to_z w16 (of_z w16 (signed behind n)) ≡ signed behind n
signed_kept behind n h = to_z-of_z (signed_fits behind n h)
