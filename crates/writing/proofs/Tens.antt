-- Numbers in BCD made of tens, for any number of digits.
use mathlib.Core.Path.{◌≡◌, refl, sym, ap, ap₂, ◌∙◌}
use Prim.Native.Nat.{ℕ, zero, suc, ◌+◌, ◌*◌, ◌/◌, ◌%◌, ◌^◌, ◌<◌, ◌≤◌}
use native.Mathlib.Nat.{pow-succ', div-div-eq-div-mul, mul_assoc}
use native.Mathlib.Omega.{arith}
use Rattle.wire.specs.Digits.{bcd_show}

-- the tens of a, and of its tens, n times over, each at the place of its digit in BCD
abbrev pub tens : ℕ → ℕ → ℕ
tens zero a = 0
tens (suc n) a = a / 10 + 16 * tens n (a / 10)

sixteenfold : (x y : ℕ) → 10 * (16 * x) * y ≡ 16 * (10 * x * y)
sixteenfold x y = rw (← mul_assoc 10 16, ← mul_assoc 16 (10 * x), ← mul_assoc 16 10)

-- A ten is worth sixteen in BCD, six more. What stands above the highest digit is not shown.
pub show_tens : (n a : ℕ) → a + 6 * tens n a ≡ bcd_show (suc n) a + 10 * 16 ^ n * (a / 10 ^ suc n)
unfolding bcd_show
show_tens zero a = omega arith
show_tens (suc n) a =
    let q : ℕ = a / 10 in
    let p : ℕ = 10 * 16 ^ n * (q / 10 ^ suc n) in
    let up : 10 * 16 ^ suc n * (a / 10 ^ suc (suc n)) ≡ 16 * p =
    ap₂ (λ x y. 10 * x * (a / y)) (pow-succ' 16 n) (pow-succ' 10 (suc n))
    ∙ ap (λ y. 10 * (16 * 16 ^ n) * y) (sym (div-div-eq-div-mul a 10 (10 ^ suc n)))
    ∙ sixteenfold (16 ^ n) (q / 10 ^ suc n) in
    let i = show_tens n q in
    omega arith

-- ---- fewer digits

show_zero : (n : ℕ) → bcd_show n 0 ≡ 0
unfolding bcd_show
show_zero zero = refl
show_zero (suc n) = ap (λ y. y * 16 + 0) (show_zero n)

-- a number of n digits has zeros above them
pub show_short : (m n a : ℕ) → n ≤ m → a < 10 ^ n → bcd_show m a ≡ bcd_show n a
unfolding bcd_show
show_short m zero a l h = let z : a ≡ 0 = omega arith in ap (bcd_show m) z ∙ show_zero m
show_short zero (suc n) a l h = absurd (omega arith)
show_short (suc m) (suc n) a l h =
    let t : 10 ^ suc n ≡ 10 * 10 ^ n = pow-succ' 10 n in
    ap (λ y. y * 16 + a % 10) (show_short m n (a / 10) (omega arith) (omega arith))
