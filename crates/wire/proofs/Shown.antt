-- A number in BCD is read exactly if it is what its value shows, for any number of digits.
use mathlib.Core.Path.{◌≡◌, sym, ap, ap₂, ◌∙◌, subst}
use Prim.Native.Nat.{ℕ, zero, suc, ◌+◌, ◌*◌, ◌/◌, ◌%◌, ◌^◌, ◌<◌, ◌≤◌}
use native.Mathlib.Nat.{zero-mul, zero-add, one-le-pow, mul_assoc, add-mul, add_assoc, pow-succ', div-lt_iff_lt-mul, mod-lt, div-add-mod', mod-eq_of_lt, mod-one, mul_comm}
use native.Mathlib.Omega.{arith}
use borrow.Author.Tests.{ltb-false, le-ltb}
use lib.Dec.{ltb}
use lib.Pow.{pow-add, mod-pow-add, high}
use Rattle.wire.specs.Reading.{value}
use Rattle.wire.specs.Digits.{digit, bcd_after, bcd_of, bcd_show}
use Rattle.wire.proofs.IfLaws.{if-case}
use Rattle.wire.proofs.ReadingLaws.{value_is, never}

-- one digit more is four bits more
digit_more : (k : ℕ) → 2 ^ (4 * suc k) ≡ 16 * 2 ^ (4 * k)
digit_more k = let e : 4 * suc k ≡ 4 + 4 * k = omega arith in ap (λ n. 2 ^ n) e ∙ pow-add 2 4 (4 * k)

digit_up : (a d p r : ℕ) → (a * 16 + d) * p + r ≡ a * (16 * p) + (d * p + r)
digit_up a d p r = rw (add-mul, mul_assoc, add_assoc)

-- the k low digits and the one above them
digits_split : (k v : ℕ) → v % 2 ^ (4 * suc k) ≡ digit k v * 2 ^ (4 * k) + v % 2 ^ (4 * k)
digits_split k v = let e : 4 * suc k ≡ 4 + 4 * k = omega arith in ap (λ n. v % 2 ^ n) e ∙ mod-pow-add v 4 (4 * k)

-- ---- what is read is shown

show_next : (j a d : ℕ) → d ≤ 9 → bcd_show (suc j) (a * 10 + d) ≡ bcd_show j a * 16 + d
unfolding bcd_show
show_next j a d h =
    let q : (a * 10 + d) / 10 ≡ a = omega arith in
    let r : (a * 10 + d) % 10 ≡ d = omega arith in
    ap₂ (λ x y. bcd_show j x * 16 + y) q r

after_shown : (k i j a v x : ℕ) → bcd_after i a k v ≡ value x
    → bcd_show (j + k) x ≡ bcd_show j a * 2 ^ (4 * k) + v % 2 ^ (4 * k)
unfolding bcd_after
after_shown zero i j a v x = λ e.
    let n : j + 0 ≡ j = omega arith in
    let z : v % 1 ≡ 0 = mod-one v in
    ap₂ bcd_show n (sym (value_is e)) ∙ omega arith
after_shown (suc k) i j a v x =
    if-case (λ r. r ≡ value x → bcd_show (j + suc k) x ≡ bcd_show j a * 2 ^ (4 * suc k) + v % 2 ^ (4 * suc k))
    (ltb 9 (digit k v))
    (λ _ e. absurd (never (sym e)))
    (λ h e.
    let d : ℕ = digit k v in
    let p : ℕ = 2 ^ (4 * k) in
    let n : j + suc k ≡ suc j + k = omega arith in
    ap (λ i. bcd_show i x) n
    ∙ after_shown k (i + 1) (suc j) (a * 10 + d) v x e
    ∙ ap (λ y. y * p + v % p) (show_next j a d (ltb-false 9 d h))
    ∙ digit_up (bcd_show j a) d p (v % p)
    ∙ ap₂ (λ y z. bcd_show j a * y + z) (sym (digit_more k)) (sym (digits_split k v)))

-- a number that is read is what its value shows
pub bcd_shown : (n v x : ℕ) → v < 2 ^ (4 * n) → bcd_of v n ≡ value x → bcd_show n x ≡ v
unfolding bcd_of bcd_show
bcd_shown n v x h e =
    ap (λ i. bcd_show i x) (sym (zero-add n)) ∙ after_shown n 0 0 0 v x e ∙ rw (zero-mul, zero-add) (mod-eq_of_lt h)

-- ---- what is shown is read

pub show_below : (n a : ℕ) → bcd_show n a < 2 ^ (4 * n)
unfolding bcd_show
show_below zero a = omega arith
show_below (suc k) a =
    let h = show_below k (a / 10) in
    subst (λ y. bcd_show k (a / 10) * 16 + a % 10 < y) (sym (digit_more k)) (omega arith)

ten_pos : (k : ℕ) → 0 < 10 ^ k
ten_pos k = one-le-pow k 10 (omega arith)

-- the highest of k + 1 digits, in front of the rest
show_high : (k d r : ℕ) → r < 10 ^ k → d ≤ 9 → bcd_show (suc k) (d * 10 ^ k + r) ≡ d * 2 ^ (4 * k) + bcd_show k r
unfolding bcd_show
show_high zero d r l h = omega arith
show_high (suc k) d r l h =
    let t : 10 ^ suc k ≡ 10 * 10 ^ k = pow-succ' 10 k in
    let s : d * 10 ^ suc k ≡ d * 10 ^ k * 10 =
    ap (λ y. d * y) (t ∙ mul_comm 10 (10 ^ k)) ∙ sym (mul_assoc d (10 ^ k) 10) in
    let q : (d * 10 ^ suc k + r) / 10 ≡ d * 10 ^ k + r / 10 = omega arith in
    let m : (d * 10 ^ suc k + r) % 10 ≡ r % 10 = omega arith in
    let i = show_high k d (r / 10) (omega arith) h in
    ap₂ (λ y z. bcd_show (suc k) y * 16 + z) q m
    ∙ ap (λ y. y * 16 + r % 10) i
    ∙ (let e : d * 2 ^ (4 * suc k) ≡ d * 2 ^ (4 * k) * 16 = ap (λ y. d * y) (digit_more k ∙ mul_comm 16 (2 ^ (4 * k)))
    ∙ sym (mul_assoc d (2 ^ (4 * k)) 16) in omega arith)

after_of_shown : (k i c u a : ℕ) → a < 10 ^ k → bcd_after i c k (u * 2 ^ (4 * k) + bcd_show k a) ≡ value (c * 10 ^ k + a)
unfolding bcd_after
after_of_shown zero i c u a h = ap value (omega arith)
after_of_shown (suc k) i c u a h =
    let t : 10 ^ suc k ≡ 10 * 10 ^ k = pow-succ' 10 k in
    let p : ℕ = 2 ^ (4 * k) in
    let d : ℕ = a / 10 ^ k in
    let r : ℕ = a % 10 ^ k in
    let low-r : r < 10 ^ k = mod-lt a (ten_pos k) in
    let d9 : d < 10 = (div-lt_iff_lt-mul (ten_pos k)).1 (subst (λ y. a < y) t h) in
    let cut : d * 10 ^ k + r ≡ a = div-add-mod' a (10 ^ k) in
    let v : u * 2 ^ (4 * suc k) + bcd_show (suc k) a ≡ (u * 16 + d) * p + bcd_show k r =
    ap₂ (λ y z. u * y + z) (digit_more k) (ap (bcd_show (suc k)) (sym cut) ∙ show_high k d r low-r (omega arith))
    ∙ sym (digit_up u d p (bcd_show k r)) in
    let g : digit k ((u * 16 + d) * p + bcd_show k r) ≡ d =
    ap (λ y. y % 16) (high (u * 16 + d) (4 * k) (show_below k r)) ∙ omega arith in
    ap (bcd_after i c (suc k)) v
    ∙ rw (g, le-ltb 9 d (omega arith))
    (after_of_shown k (i + 1) (c * 10 + d) (u * 16 + d) r low-r
    ∙ ap value (rw (add-mul, mul_assoc, add_assoc) (ap₂ (λ y z. c * y + z) (sym t) cut)))

-- a number of n digits is read from what it shows
pub bcd_of_shown : (n a : ℕ) → a < 10 ^ n → bcd_of (bcd_show n a) n ≡ value a
unfolding bcd_of
bcd_of_shown n a h = ap (bcd_after 0 0 n) (omega arith) ∙ after_of_shown n 0 0 0 a h ∙ ap value (omega arith)
