-- Some bits of a byte, for any width.
use mathlib.Core.Path.{◌≡◌, ap, ◌∙◌}
use Prim.Native.Nat.{ℕ, ◌+◌, ◌-◌, ◌*◌, ◌/◌, ◌%◌, ◌^◌, ◌<◌, ◌≤◌}
use native.Mathlib.Nat.{one-mul, mod-le, mod-one, zero-mod, le_trans, lt_of_lt_of_le, div-eq_of_lt}
use native.Mathlib.Omega.{arith}
use lib.Pow.{shl_exact, shr_le, shr_mod, pow_mono}

-- 1 moved up by at most 8 is that power of 2
pub power : (w : ℕ) → w ≤ 8 → 1 * 2 ^ w % 2 ^ 32 ≡ 2 ^ w
power w h = shl_exact {a = 1} 1 w 32 (omega arith) (omega arith) ∙ one-mul (2 ^ w)

-- no bits of a number make more than it
pub bits_le : (x l m : ℕ) → x / 2 ^ l % m ≤ x
bits_le x l m = le_trans (mod-le (x / 2 ^ l) m) (shr_le x l)

module _ (x : ℕ) (byte : x < 2 ^ 8) (h l : ℕ) where
  -- a byte has no bit above b7
  pub none_above : 7 < l → x / 2 ^ l % 2 ^ (h + 1 - l) ≡ 0
  none_above g = ap (λ (q : ℕ). q % 2 ^ (h + 1 - l)) (div-eq_of_lt (lt_of_lt_of_le byte (pow_mono g))) ∙ zero-mod (2 ^ (h + 1 - l))

  pub up_to_the_top : l ≤ 7 → 7 < h → x / 2 ^ l % 2 ^ (h + 1 - l) ≡ x / 2 ^ l
  up_to_the_top g k =
      let a : 8 ≤ h + 1 - l + l = omega arith in
      shr_mod (h + 1 - l) l (lt_of_lt_of_le byte (pow_mono a))

  pub none_between : h < l → x / 2 ^ l % 2 ^ (h + 1 - l) ≡ 0
  none_between g =
      let e : h + 1 - l ≡ 0 = omega arith in
      ap (λ (w : ℕ). x / 2 ^ l % 2 ^ w) e ∙ mod-one (x / 2 ^ l)

pub ruleset some_bits = (power, bits_le, none_above, up_to_the_top, none_between)
