-- Laws of xor that `lib.Bits` lacks.
use mathlib.Core.Path.{◌≡◌, refl, sym, ap, ap₂, ◌∙◌}
use Prim.Native.Nat.{ℕ, zero, suc, ◌+◌, ◌*◌, ◌/◌, ◌%◌, ◌^◌, ◌<◌}
use native.Mathlib.Nat.{add-zero, mod-lt}
use native.Mathlib.Omega.{arith}
use lib.Arith.{bin_ind}
use lib.Dec.{lit<}
use lib.Pow.{pow_pos}
use lib.Bits.{bit_xor, differ, xor_step, xor_shr, xor_mod, xor_block, xor_comm, xor_self, xor_zero_l, xor_zero_r}

infixl 65 ◌⊕◌
abbrev pub ◌⊕◌ : ℕ → ℕ → ℕ
◌⊕◌ = bit_xor

-- a law of three digits, by its cases
differ3 : (x y z : ℕ) → x < 2 → y < 2 → z < 2 → differ (x ⊕ y) z ≡ differ x (y ⊕ z)
differ3 zero zero z hx hy hz = refl
differ3 zero (suc zero) zero hx hy hz = refl
differ3 zero (suc zero) (suc zero) hx hy hz = refl
differ3 zero (suc zero) (suc (suc z)) hx hy hz = omega arith
differ3 zero (suc (suc y)) z hx hy hz = omega arith
differ3 (suc zero) zero z hx hy hz = refl
differ3 (suc zero) (suc zero) zero hx hy hz = refl
differ3 (suc zero) (suc zero) (suc zero) hx hy hz = refl
differ3 (suc zero) (suc zero) (suc (suc z)) hx hy hz = omega arith
differ3 (suc zero) (suc (suc y)) z hx hy hz = omega arith
differ3 (suc (suc x)) y z hx hy hz = omega arith

pub xor_assoc : (a b c : ℕ) → a ⊕ b ⊕ c ≡ a ⊕ (b ⊕ c)
xor_assoc =
    bin_ind (λ (a : ℕ). (b c : ℕ) → a ⊕ b ⊕ c ≡ a ⊕ (b ⊕ c)) (λ b c. refl)
    (λ a ih b c.
    xor_step (a ⊕ b) c
    ∙ ap₂ (λ (x y : ℕ). (x ⊕ (c / 2)) * 2 + differ y (c % 2)) (xor_shr a b 1) (xor_mod a b 1)
    ∙ ap₂ (λ (x y : ℕ). x * 2 + y) (ih (b / 2) (c / 2))
    (differ3 (a % 2) (b % 2) (c % 2) (mod-lt a (lit< tt)) (mod-lt b (lit< tt)) (mod-lt c (lit< tt)))
    ∙ sym (ap₂ (λ (x y : ℕ). ((a / 2) ⊕ x) * 2 + differ (a % 2) y) (xor_shr b c 1) (xor_mod b c 1))
    ∙ sym (xor_step a (b ⊕ c)))

-- two sums, their middle parts exchanged
pub xor4 : (a b c d : ℕ) → (a ⊕ b) ⊕ (c ⊕ d) ≡ (a ⊕ c) ⊕ (b ⊕ d)
xor4 a b c d =
    xor_assoc a b (c ⊕ d)
    ∙ ap (λ (x : ℕ). a ⊕ x) (sym (xor_assoc b c d) ∙ ap (λ (x : ℕ). x ⊕ d) (xor_comm b c) ∙ xor_assoc c b d)
    ∙ sym (xor_assoc a c (b ⊕ d))

pub xor_left_comm : (a b c : ℕ) → a ⊕ (b ⊕ c) ≡ b ⊕ (a ⊕ c)
xor_left_comm a b c = sym (xor_assoc a b c) ∙ ap (λ (x : ℕ). x ⊕ c) (xor_comm a b) ∙ xor_assoc b a c

-- what is added twice is gone
pub xor_twice : (a b : ℕ) → a ⊕ b ⊕ b ≡ a
xor_twice a b = xor_assoc a b b ∙ ap (λ (x : ℕ). a ⊕ x) (xor_self b) ∙ xor_zero_r a

-- numbers whose sum is zero are equal
pub xor_zero_eq : (a b : ℕ) → a ⊕ b ≡ 0 → a ≡ b
xor_zero_eq a b e = sym (xor_twice a b) ∙ ap (λ (x : ℕ). x ⊕ b) e ∙ xor_zero_l b

pub xor_shl : (a b k : ℕ) → (a ⊕ b) * 2 ^ k ≡ (a * 2 ^ k) ⊕ (b * 2 ^ k)
xor_shl a b k =
    sym (add-zero ((a ⊕ b) * 2 ^ k))
    ∙ sym (xor_block k a b 0 0 (pow_pos k) (pow_pos k))
    ∙ ap₂ bit_xor (add-zero (a * 2 ^ k)) (add-zero (b * 2 ^ k))
