-- The register is linear: what goes in may be split by xor, bits and register alike. All that the code and the theorems rest on.
use mathlib.Core.Path.{◌≡◌, refl, sym, ap, ap₂, ◌∙◌}
use Prim.Native.Nat.{ℕ, zero, suc, ◌+◌, ◌*◌, ◌/◌, ◌%◌, ◌^◌, ◌<◌}
use native.Mathlib.Nat.{zero-add, add-zero, add-suc, suc-add, add_comm, mod-lt, zero-div, div-eq_of_lt, mod-eq_of_lt}
use native.Mathlib.Numerals.{add-one}
use native.Mathlib.Omega.{arith}
use lib.Dec.{eqb, lit<}
use lib.Pow.{pow_pos, high, low, shl_lt, shr-shr, field, mod-mod-pow}
use lib.Bits.{bit_xor, xor_shr, xor_mod, xor_lt, xor_comm, xor_self, xor_zero_r}
use Rattle.std.specs.Prelude.{if◌then◌else◌}
use Rattle.crc.specs.Crc.{poly, feed, feed_bits}
use Rattle.moves.proofs.Xor.{◌⊕◌, xor4, xor_shl, xor_zero_eq}

no_digit : (x : ℕ) → suc (suc x) < 2 → ⊥
no_digit x h = omega arith

-- adding the polynomial where two digits differ is adding their sum times it
where_differ : (t x v : ℕ) → t < 2 → x < 2 → (if eqb t x then v else v ⊕ poly) ≡ (t ⊕ x) * poly ⊕ v
where_differ zero zero v ht hx = refl
where_differ zero (suc zero) v ht hx = xor_comm v poly
where_differ zero (suc (suc x)) v ht hx = absurd (no_digit x hx)
where_differ (suc zero) zero v ht hx = xor_comm v poly
where_differ (suc zero) (suc zero) v ht hx = refl
where_differ (suc zero) (suc (suc x)) v ht hx = absurd (no_digit x hx)
where_differ (suc (suc t)) x v ht hx = absurd (no_digit t ht)

top : {r : ℕ} → r < 2 ^ 32 → r / 2 ^ 31 < 2
top h = omega arith

pub feed_sum : (r x : ℕ) → r < 2 ^ 32 → x < 2 → feed r x ≡ (r / 2 ^ 31 ⊕ x) * poly ⊕ (r * 2 % 2 ^ 32)
unfolding feed
feed_sum r x hr hx = where_differ (r / 2 ^ 31) x (r * 2 % 2 ^ 32) (top hr) hx

sum_lt : (t x v : ℕ) → t < 2 → x < 2 → v < 2 ^ 32 → (t ⊕ x) * poly ⊕ v < 2 ^ 32
sum_lt t x v ht hx hv =
    let d : t ⊕ x < 2 = xor_lt 1 t x ht hx in
    xor_lt 32 ((t ⊕ x) * poly) v (omega arith) hv

pub feed_lt : (r x : ℕ) → r < 2 ^ 32 → x < 2 → feed r x < 2 ^ 32
feed_lt r x hr hx = rw (feed_sum r x hr hx) (sum_lt (r / 2 ^ 31) x (r * 2 % 2 ^ 32) (top hr) hx (mod-lt (r * 2) (lit< tt)))

-- a digit times the polynomial
times : (c d : ℕ) → c < 2 → d < 2 → (c ⊕ d) * poly ≡ (c * poly) ⊕ (d * poly)
times zero d hc hd = refl
times (suc zero) zero hc hd = refl
times (suc zero) (suc zero) hc hd = refl
times (suc zero) (suc (suc d)) hc hd = absurd (no_digit d hd)
times (suc (suc c)) d hc hd = absurd (no_digit c hc)

pub feed_linear : (r s x y : ℕ) → r < 2 ^ 32 → s < 2 ^ 32 → x < 2 → y < 2 → feed (r ⊕ s) (x ⊕ y) ≡ feed r x ⊕ feed s y
feed_linear r s x y hr hs hx hy =
    let t = r / 2 ^ 31 in
    let u = s / 2 ^ 31 in
    let v = r * 2 % 2 ^ 32 in
    let w = s * 2 % 2 ^ 32 in
    feed_sum (r ⊕ s) (x ⊕ y) (xor_lt 32 r s hr hs) (xor_lt 1 x y hx hy)
    ∙ ap₂ (λ (c m : ℕ). (c ⊕ (x ⊕ y)) * poly ⊕ m) (xor_shr r s 31)
    (ap (λ (m : ℕ). m % 2 ^ 32) (xor_shl r s 1) ∙ xor_mod (r * 2) (s * 2) 32)
    ∙ ap (λ (c : ℕ). c * poly ⊕ (v ⊕ w)) (xor4 t u x y)
    ∙ ap (λ (c : ℕ). c ⊕ (v ⊕ w)) (times (t ⊕ x) (u ⊕ y) (xor_lt 1 t x (top hr) hx) (xor_lt 1 u y (top hs) hy))
    ∙ xor4 ((t ⊕ x) * poly) ((u ⊕ y) * poly) v w
    ∙ sym (ap₂ bit_xor (feed_sum r x hr hx) (feed_sum s y hs hy))

bit_lt : (b n : ℕ) → b / 2 ^ n % 2 < 2
bit_lt b n = mod-lt (b / 2 ^ n) (lit< tt)

pub bits_lt : (n b r : ℕ) → r < 2 ^ 32 → feed_bits n b r < 2 ^ 32
unfolding feed_bits
bits_lt zero b r h = h
bits_lt (suc n) b r h = bits_lt n b (feed r (b / 2 ^ n % 2)) (feed_lt r (b / 2 ^ n % 2) h (bit_lt b n))

-- THE LAW
pub linear : (n b c r s : ℕ) → r < 2 ^ 32 → s < 2 ^ 32 → feed_bits n (b ⊕ c) (r ⊕ s) ≡ feed_bits n b r ⊕ feed_bits n c s
unfolding feed_bits
linear zero b c r s hr hs = refl
linear (suc n) b c r s hr hs =
    ap (feed_bits n (b ⊕ c))
    (ap (feed (r ⊕ s)) (ap (λ (v : ℕ). v % 2) (xor_shr b c n) ∙ xor_mod (b / 2 ^ n) (c / 2 ^ n) 1)
    ∙ feed_linear r s (b / 2 ^ n % 2) (c / 2 ^ n % 2) hr hs (bit_lt b n) (bit_lt c n))
    ∙ linear n b c (feed r (b / 2 ^ n % 2)) (feed s (c / 2 ^ n % 2)) (feed_lt r (b / 2 ^ n % 2) hr (bit_lt b n))
    (feed_lt s (c / 2 ^ n % 2) hs (bit_lt c n))

-- the high bits of y go in before its n low ones
pub cat : (m n y r : ℕ) → feed_bits (m + n) y r ≡ feed_bits n y (feed_bits m (y / 2 ^ n) r)
unfolding feed_bits
cat zero n y r = ap (λ (k : ℕ). feed_bits k y r) (zero-add n)
cat (suc m) n y r =
    ap (λ (k : ℕ). feed_bits k y r) (suc-add m n)
    ∙ cat m n y (feed r (y / 2 ^ (m + n) % 2))
    ∙ ap (λ (v : ℕ). feed_bits n y (feed_bits m (y / 2 ^ n) (feed r (v % 2))))
    (ap (λ (k : ℕ). y / 2 ^ k) (add_comm m n) ∙ sym (shr-shr y n m))

-- only the low bits of the number go in
lows : (n j y r : ℕ) → feed_bits n (y % 2 ^ (j + n)) r ≡ feed_bits n y r
unfolding feed_bits
lows zero j y r = refl
lows (suc n) j y r =
    ap (λ (k : ℕ). feed_bits n (y % 2 ^ k) (feed r (y % 2 ^ k / 2 ^ n % 2))) (add-suc j n ∙ sym (suc-add j n))
    ∙ ap (λ (v : ℕ). feed_bits n (y % 2 ^ (suc j + n)) (feed r (v % 2))) (field y (suc j) n)
    ∙ ap (λ (v : ℕ). feed_bits n (y % 2 ^ (suc j + n)) (feed r v))
    (ap (λ (k : ℕ). y / 2 ^ n % 2 ^ k % 2) (sym (add-one j)) ∙ mod-mod-pow (y / 2 ^ n) j 1)
    ∙ lows n (suc j) y (feed r (y / 2 ^ n % 2))

pub join : (m n a b r : ℕ) → b < 2 ^ n → feed_bits n b (feed_bits m a r) ≡ feed_bits (m + n) (a * 2 ^ n + b) r
join m n a b r h =
    let y : ℕ = a * 2 ^ n + b in
    sym
    (cat m n y r ∙ ap (λ (v : ℕ). feed_bits n y (feed_bits m v r)) (high a n h) ∙ sym (lows n 0 y (feed_bits m a r))
    ∙ ap (λ (v : ℕ). feed_bits n v (feed_bits m a r)) (ap (λ (k : ℕ). y % 2 ^ k) (zero-add n) ∙ low a n h))

-- a number of 64 bits goes in as its two halves
pub halves : (a r : ℕ) → feed_bits 32 (a % 2 ^ 32) (feed_bits 32 (a / 2 ^ 32) r) ≡ feed_bits 64 a r
halves a r = lows 32 0 a (feed_bits 32 (a / 2 ^ 32) r) ∙ sym (cat 32 32 a r)

pub none : (n : ℕ) → feed_bits n 0 0 ≡ 0
unfolding feed_bits feed
none zero = refl
none (suc n) = ap (λ (x : ℕ). feed_bits n 0 (feed 0 (x % 2))) (zero-div (2 ^ n)) ∙ none n

-- zeros in a row
pub zeros_add : (m n r : ℕ) → feed_bits n 0 (feed_bits m 0 r) ≡ feed_bits (m + n) 0 r
zeros_add m n r = sym (cat m n 0 r ∙ ap (λ (v : ℕ). feed_bits n 0 (feed_bits m v r)) (zero-div (2 ^ n)))

pub zeros_swap : (m n r : ℕ) → feed_bits n 0 (feed_bits m 0 r) ≡ feed_bits m 0 (feed_bits n 0 r)
zeros_swap m n r = zeros_add m n r ∙ ap (λ (k : ℕ). feed_bits k 0 r) (add_comm m n) ∙ sym (zeros_add n m r)

pub zeros_sum : (n a b : ℕ) → a < 2 ^ 32 → b < 2 ^ 32 → feed_bits n 0 (a ⊕ b) ≡ feed_bits n 0 a ⊕ feed_bits n 0 b
zeros_sum n a b ha hb = linear n 0 0 a b ha hb

-- zeros in front of a number change nothing
pub zeros_first : (j k y : ℕ) → y < 2 ^ k → feed_bits (j + k) y 0 ≡ feed_bits k y 0
zeros_first j k y h = cat j k y 0 ∙ ap (feed_bits k y) (ap (λ (v : ℕ). feed_bits j v 0) (div-eq_of_lt h) ∙ none j)

-- a number moved up by i places, in room enough, is the number and then i zeros
pub moved_up : (j n i b : ℕ) → b < 2 ^ n → feed_bits (j + (n + i)) (b * 2 ^ i) 0 ≡ feed_bits i 0 (feed_bits n b 0)
moved_up j n i b h =
    zeros_first j (n + i) (b * 2 ^ i) (shl_lt n i h)
    ∙ ap (λ (v : ℕ). feed_bits (n + i) v 0) (sym (add-zero (b * 2 ^ i)))
    ∙ sym (join n i b 0 0 (pow_pos i))

odd : (t r : ℕ) → r < 2 ^ 32 → t ≡ r / 2 ^ 31 → t * poly ≡ r * 2 % 2 ^ 32 → r ≡ 0
odd zero r h top e =
    let half : r * 2 < 2 ^ 32 = omega arith in
    omega (arith, mod-eq_of_lt half)
odd (suc zero) r h top e = omega arith
odd (suc (suc t)) r h top e = omega (arith, h)

-- no register but zero becomes zero by a zero bit, since the polynomial is odd
feed_zero : (r : ℕ) → r < 2 ^ 32 → feed r 0 ≡ 0 → r ≡ 0
feed_zero r h e =
    odd (r / 2 ^ 31) r h refl
    (ap (λ (t : ℕ). t * poly) (sym (xor_zero_r (r / 2 ^ 31)))
    ∙ xor_zero_eq ((r / 2 ^ 31 ⊕ 0) * poly) (r * 2 % 2 ^ 32) (sym (feed_sum r 0 h (lit< tt)) ∙ e))

pub bits_zero : (n r : ℕ) → r < 2 ^ 32 → feed_bits n 0 r ≡ 0 → r ≡ 0
unfolding feed_bits
bits_zero zero r h e = e
bits_zero (suc n) r h e =
    let none : 0 / 2 ^ n % 2 ≡ 0 = ap (λ (v : ℕ). v % 2) (zero-div (2 ^ n)) in
    feed_zero r h (bits_zero n (feed r 0) (feed_lt r 0 h (lit< tt)) (ap (λ (x : ℕ). feed_bits n 0 (feed r x)) (sym none) ∙ e))

-- nor do two registers become one by zeros
pub zeros_same : (n a b : ℕ) → a < 2 ^ 32 → b < 2 ^ 32 → feed_bits n 0 a ≡ feed_bits n 0 b → a ≡ b
zeros_same n a b ha hb e =
    xor_zero_eq a b
    (bits_zero n (a ⊕ b) (xor_lt 32 a b ha hb)
    (zeros_sum n a b ha hb ∙ ap (λ (v : ℕ). v ⊕ feed_bits n 0 b) e ∙ xor_self (feed_bits n 0 b)))
