-- Numbers as bytes: a number is what its bytes make, and bytes are those of the number that they make.
use mathlib.Core.Path.{◌≡◌, refl, sym, ap, ap₂, ◌∙◌}
use mathlib.Core.List.{List, [], ◌∷◌, ◌++◌}
use Prim.Native.Nat.{ℕ, zero, suc, ◌+◌, ◌*◌, ◌/◌, ◌%◌, ◌^◌, ◌<◌}
use native.Mathlib.Nat.{mod-eq_of_lt, mod-one, mul-add-div_right, mul_assoc}
use native.Mathlib.Omega.{arith}
use lib.ListN.{length}
use lib.Pow.{pow-add, pow_pos, mod-pow-add, high, shr-shr}
use Rattle.wire.specs.Bytes.{Bytes}
use Rattle.wire.specs.Number.{number}
use Rattle.wire.proofs.NumberBits.{number_join, number_below}
use Rattle.writing.specs.Number.{ofNumber}

-- one byte more is eight bits more
more : (n : ℕ) → 8 * suc n ≡ 8 + 8 * n
more n = omega arith

-- ---- the bytes of a number

pub length_of : (n x : ℕ) → length (ofNumber n x) ≡ n
unfolding ofNumber
length_of zero x = refl
length_of (suc n) x = ap suc (length_of n x)

pub of-bytes : (n x : ℕ) → Bytes (ofNumber n x)
unfolding ofNumber
of-bytes zero x i = omega arith
of-bytes (suc n) x zero = omega arith
of-bytes (suc n) x (suc i) = of-bytes n x i

-- the n low bytes of any number
number_low : (n x : ℕ) → number (ofNumber n x) ≡ x % 2 ^ (8 * n)
unfolding ofNumber
number_low zero x = sym (mod-one x)
number_low (suc n) x =
    number_join ((x / 2 ^ (8 * n) % 256) ∷ []) (ofNumber n x)
    ∙ ap₂ (λ k r. x / 2 ^ (8 * n) % 256 * 2 ^ (8 * k) + r) (length_of n x) (number_low n x)
    ∙ sym (ap (λ k. x % 2 ^ k) (more n) ∙ mod-pow-add x 8 (8 * n))

pub number-of : (n x : ℕ) → x < 2 ^ (8 * n) → number (ofNumber n x) ≡ x
number-of n x h = number_low n x ∙ mod-eq_of_lt h

-- ---- the bytes of a number that has others above it

-- what stands above n bytes is none of them
low_of : (n a b : ℕ) → ofNumber n (a * 2 ^ (8 * n) + b) ≡ ofNumber n b
unfolding ofNumber
low_of zero a b = refl
low_of (suc n) a b =
    let p : ℕ = 2 ^ (8 * n) in
    let e : a * 2 ^ (8 * suc n) ≡ a * 256 * p =
    ap (λ k. a * 2 ^ k) (more n) ∙ ap (λ q. a * q) (pow-add 2 8 (8 * n)) ∙ sym (mul_assoc a 256 p) in
    let q : (a * 256 + b / p) % 256 ≡ b / p % 256 = omega arith in
    ap (λ y. ofNumber (suc n) (y + b)) e
    ∙ ap₂ ◌∷◌ (ap (λ y. y % 256) (mul-add-div_right (pow_pos (8 * n)) (a * 256) b) ∙ q) (low_of n (a * 256) b)

pub of_join : (m n a b : ℕ) → b < 2 ^ (8 * n) → ofNumber (m + n) (a * 2 ^ (8 * n) + b) ≡ ofNumber m a ++ ofNumber n b
unfolding ofNumber
of_join zero n a b h =
    let y : ℕ = a * 2 ^ (8 * n) + b in
    let z : 0 + n ≡ n = omega arith in ap (λ k. ofNumber k y) z ∙ low_of n a b
of_join (suc m) n a b h =
    let y : ℕ = a * 2 ^ (8 * n) + b in
    let s : suc m + n ≡ suc (m + n) = omega arith in
    let k : 8 * (m + n) ≡ 8 * n + 8 * m = omega arith in
    let e : y / 2 ^ (8 * (m + n)) ≡ a / 2 ^ (8 * m) =
    ap (λ j. y / 2 ^ j) k ∙ sym (shr-shr y (8 * n) (8 * m)) ∙ ap (λ q. q / 2 ^ (8 * m)) (high a (8 * n) h) in
    ap (λ j. ofNumber j y) s ∙ ap₂ (λ q l. (q % 256) ∷ l) e (of_join m n a b h)

pub of_number : (b : List ℕ) → Bytes b → ofNumber (length b) (number b) ≡ b
unfolding ofNumber
of_number [] h = refl
of_number (b ∷ l) h =
    let k : ℕ = length l in
    let rest : Bytes l = λ i. h (suc i) in
    ap (ofNumber (suc k)) (number_join (b ∷ []) l)
    ∙ ap₂ ◌∷◌ (ap (λ q. q % 256) (high b (8 * k) (number_below l rest)) ∙ mod-eq_of_lt (h 0))
    (low_of k b (number l) ∙ of_number l rest)

-- a tag and a length as one number
pub head_bytes : (tag n : ℕ) → tag < 256 → n < 256 → ofNumber 2 (tag * 256 + n) ≡ tag ∷ n ∷ []
unfolding ofNumber
head_bytes tag n t l =
    let high : (tag * 256 + n) / 2 ^ 8 % 256 ≡ tag = omega arith in
    let low : (tag * 256 + n) / 2 ^ 0 % 256 ≡ n = omega arith in
    ap₂ (λ x y. x ∷ y ∷ []) high low

-- ---- bytes one behind the other

pub bytes_join : (a b : List ℕ) → Bytes a → Bytes b → Bytes (a ++ b)
bytes_join [] b h g i = g i
bytes_join (x ∷ a) b h g zero = h 0
bytes_join (x ∷ a) b h g (suc i) = bytes_join a b (λ j. h (suc j)) g i
