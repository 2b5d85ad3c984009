-- A number in BCD a digit at a time, for any number of digits.
use mathlib.Core.Path.{◌≡◌, sym, ap, ap₂, ◌∙◌}
use mathlib.Core.Logic.{⊎_elim}
use Prim.Native.Nat.{ℕ, zero, suc, ◌+◌, ◌-◌, ◌*◌, ◌/◌, ◌%◌, ◌^◌, ◌<◌, ◌≤◌, min}
use native.Mathlib.Nat.{eq-or-lt_of_le, lt_of_lt_of_le, div-eq_of_lt}
use native.Mathlib.Omega.{arith}
use borrow.Author.Tests.{lt-ltb, le-ltb}
use lib.Pow.{split, shr-shr, shr_le, pow_mono}
use Rattle.wire.specs.Reading.{refused}
use Rattle.wire.specs.Digits.{digit, bcd_after, bcd_of}

module _ (k v : ℕ) (some : 0 < k) where
  again : k ≡ suc (k - 1)
  again = omega arith

  pub digit_next : (i a : ℕ) → digit (k - 1) v ≤ 9
      → bcd_after i a k v ≡ bcd_after (i + 1) (a * 10 + digit (k - 1) v) (k - 1) v
  unfolding bcd_after
  digit_next i a h = ap (λ (m : ℕ). bcd_after i a m v) again ∙ rw (le-ltb 9 (digit (k - 1) v) h)

  pub digit_bad : (i a : ℕ) → 9 < digit (k - 1) v → bcd_after i a k v ≡ refused i
  unfolding bcd_after
  digit_bad i a h = ap (λ (m : ℕ). bcd_after i a m v) again ∙ rw (lt-ltb 9 (digit (k - 1) v) h)

  up : 4 * (k - 1) + 4 ≡ 4 * k
  up = omega arith

  -- one more digit is four more bits, so that the number is never above v
  fours : v / 2 ^ (4 * k) * 16 + digit (k - 1) v ≡ v / 2 ^ (4 * (k - 1))
  fours =
      let w : ℕ = v / 2 ^ (4 * (k - 1)) in
      ap (λ (u : ℕ). u * 16 + w % 16) (ap (λ (m : ℕ). v / 2 ^ m) (sym up) ∙ sym (shr-shr v (4 * (k - 1)) 4)) ∙ split w 4

  pub small : (a : ℕ) → a ≤ v / 2 ^ (4 * k) → a * 10 + digit (k - 1) v ≤ v / 2 ^ (4 * (k - 1))
  small a h = omega (arith, fours)

  pub fits : (a : ℕ) → a ≤ v / 2 ^ (4 * k) → a * 10 + digit (k - 1) v ≤ v
  fits a h = omega (arith, small a h, shr_le v (4 * (k - 1)))

-- a digit above the highest of v is 0
above : (v m : ℕ) → v < 2 ^ 32 → 8 ≤ m → digit m v ≡ 0
above v m h g = let l : 32 ≤ 4 * m = omega arith in ap (λ (q : ℕ). q % 16) (div-eq_of_lt (lt_of_lt_of_le h (pow_mono l)))

-- digits above the eighth of a number of 32 bits are read as 0
above_eight : (n i v : ℕ) → v < 2 ^ 32 → 8 ≤ n → bcd_after i 0 n v ≡ bcd_after (i + (n - 8)) 0 8 v
unfolding bcd_after
above_eight zero i v h g = absurd (omega arith)
above_eight (suc m) i v h g =
    ⊎_elim (λ (e : 8 ≡ suc m). let q : i ≡ i + (suc m - 8) = omega arith in ap₂ (λ (j n : ℕ). bcd_after j 0 n v) q (sym e))
    (λ (l : 8 < suc m).
    let b : 8 ≤ m = omega arith in
    let q : i + 1 + (m - 8) ≡ i + (suc m - 8) = omega arith in
    rw (above v m h b) (above_eight m (i + 1) v h b ∙ ap (λ (j : ℕ). bcd_after j 0 8 v) q))
    (eq-or-lt_of_le g)

-- so that the first of the eight is at place n - 8
pub eight : (n v : ℕ) → v < 2 ^ 32 → 8 ≤ n → bcd_of v n ≡ bcd_after (n - 8) 0 8 v
unfolding bcd_of
eight n v h g = let q : 0 + (n - 8) ≡ n - 8 = omega arith in above_eight n 0 v h g ∙ ap (λ (j : ℕ). bcd_after j 0 8 v) q

-- so that n or eight digits are left to be read, the first of them at its place among the n
pub first_left : (n m v : ℕ) → v < 2 ^ 32 → m ≡ min n 8 → bcd_after (n - m) 0 m v ≡ bcd_of v n
unfolding bcd_of
first_left n m v h e =
    ⊎_elim (λ (all : m ≡ n). ap₂ (λ (i k : ℕ). bcd_after i 0 k v) (omega arith) all)
    (λ (some : m < n). let q : m ≡ 8 = omega arith in
    ap (λ (k : ℕ). bcd_after (n - k) 0 k v) q ∙ sym (eight n v h (omega arith))) (eq-or-lt_of_le (omega arith))
