-- Flags as remainders by 2, which omega takes to be below 2.
use mathlib.Core.Path.{◌≡◌, refl}
use mathlib.Core.Bool.{Bool, true, false}
use Prim.Native.Nat.{ℕ, ◌%◌}
use Rattle.layout.specs.Widths.{bit}
use Rattle.delivery.specs.declared.satellite.System.{System}
use Rattle.delivery.specs.declared.satellite.System.TheVariants.{S, S2}
use Rattle.write_delivery.specs.Satellite.{system_bit}

unfoldable pub flag : Bool → ℕ
flag b = bit b

pub bit_is : (b : Bool) → bit b ≡ flag b % 2
unfolding flag
bit_is true = refl
bit_is false = refl

unfoldable pub system_flag : System → ℕ
system_flag s = system_bit s

pub system_is : (s : System) → system_bit s ≡ system_flag s % 2
unfolding system_flag
system_is S = refl
system_is (S2 roll-off) = refl
