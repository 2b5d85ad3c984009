-- The last two words: each half word but the last is multiplied by what its place leaves over P, and the sum of 64 bits is divided.
use mathlib.Core.Path.{◌≡◌, refl, sym, ap, ap₂, ◌∙◌}
use mathlib.Core.List.{[], ◌∷◌}
use Prim.Native.Nat.{ℕ, ◌+◌, ◌*◌, ◌/◌, ◌%◌, ◌^◌, ◌<◌}
use native.Mathlib.Nat.{mod-lt, lt_of_le_of_lt}
use native.Mathlib.Omega.{arith}
use lib.Dec.{lit<}
use lib.Pow.{pow_pos, shr_le, shr_lt}
use lib.Bits.{bit_xor, xor_comm, xor_lt, xor_zero_l}
use Rattle.crc.specs.Crc.{feed, feed_bits}
use Rattle.crc.specs.Inner.Windows.{feed_words}
use Rattle.moves.specs.Inner.Moves.{times_poly, quotient_of, times64, times96, times128}
use Rattle.moves.proofs.Xor.{◌⊕◌, xor_assoc}
use Rattle.moves.proofs.Shifts.{itself, lefts_lt, times64_of, times96_of, times128_of}
use Rattle.moves.proofs.Products.{times64_at, times96_at, times128_at}
use Rattle.crc.proofs.Linear.{linear, bits_lt, halves, zeros_add, zeros_sum, zeros_same, moved_up}
use Rattle.crc.proofs.Steps.{absorb, divided}
use Rattle.crc.proofs.Feeding.{before_bits}
use Rattle.crc.proofs.Leaving.{stands}

-- 64 bits over P
abbrev pub remainder : ℕ → ℕ
remainder l = times_poly (quotient_of (l / 2 ^ 32)) ⊕ (l % 2 ^ 32)

low_lt : (a : ℕ) → a % 2 ^ 32 < 2 ^ 32
low_lt a = mod-lt a (pow_pos 32)

-- what is left over goes on as the 64 bits would
remainder_same : (l : ℕ) → l < 2 ^ 64 → remainder l ≡ feed_bits 32 (l / 2 ^ 32) 0 ⊕ (l % 2 ^ 32)
remainder_same l h = ap (λ (v : ℕ). v ⊕ (l % 2 ^ 32)) (divided (l / 2 ^ 32) (shr_lt 32 32 h))

remainder_lt : (l : ℕ) → l < 2 ^ 64 → remainder l < 2 ^ 32
remainder_lt l h =
    rw (remainder_same l h)
    (xor_lt 32 (feed_bits 32 (l / 2 ^ 32) 0) (l % 2 ^ 32) (bits_lt 32 (l / 2 ^ 32) 0 (lit< tt)) (low_lt l))

goes_on : (l : ℕ) → l < 2 ^ 64 → feed_bits 32 0 (remainder l) ≡ feed_bits 64 l 0
goes_on l h =
    let high : ℕ = feed_bits 32 (l / 2 ^ 32) 0 in
    let low : ℕ = l % 2 ^ 32 in
    absorb 0 (remainder l) (remainder_lt l h)
    ∙ ap (λ (v : ℕ). feed_bits 32 v 0) (xor_zero_l (remainder l) ∙ remainder_same l h ∙ xor_comm high low)
    ∙ sym (absorb low high (bits_lt 32 (l / 2 ^ 32) 0 (lit< tt)))
    ∙ halves l 0

-- a word and n zeros, by its halves
by_halves : (n a : ℕ)
    → feed_bits n 0 (feed_bits 64 a 0)
    ≡ feed_bits (32 + n) 0 (feed_bits 32 (a / 2 ^ 32) 0) ⊕ feed_bits n 0 (feed_bits 32 (a % 2 ^ 32) 0)
by_halves n a =
    let high : ℕ = feed_bits 32 (a / 2 ^ 32) 0 in
    let low : ℕ = feed_bits 32 (a % 2 ^ 32) 0 in
    let high_lt : high < 2 ^ 32 = bits_lt 32 (a / 2 ^ 32) 0 (lit< tt) in
    ap (feed_bits n 0) (sym (halves a 0) ∙ before_bits 32 (a % 2 ^ 32) high high_lt ∙ xor_comm low (feed_bits 32 0 high))
    ∙ zeros_sum n (feed_bits 32 0 high) low (bits_lt 32 0 high high_lt) (bits_lt 32 (a % 2 ^ 32) 0 (lit< tt))
    ∙ ap (λ (v : ℕ). v ⊕ feed_bits n 0 low) (zeros_add 32 n high)

-- Each product stands for the zeros behind its half word: at 1 it does, and it moves up with its argument.

power-128 : feed_bits 32 0xE8A45605 0 ≡ feed_bits 128 0 (feed_bits 1 1 0)
unfolding feed_bits feed
power-128 = refl

power-96 : feed_bits 32 0xF200AA66 0 ≡ feed_bits 96 0 (feed_bits 1 1 0)
unfolding feed_bits feed
power-96 = refl

power-64 : feed_bits 32 0x490D678D 0 ≡ feed_bits 64 0 (feed_bits 1 1 0)
unfolding feed_bits feed
power-64 = refl

module _ (z : ℕ) (h : z < 2 ^ 32) where
  at-128 : feed_bits 64 (times128 z) 0 ≡ feed_bits 128 0 (feed_bits 32 z 0)
  at-128 = stands 32 0xE8A45605 32 64 128 (times128_of itself) times128_at (lit< tt) (omega arith) power-128 z h

  at-96 : feed_bits 64 (times96 z) 0 ≡ feed_bits 96 0 (feed_bits 32 z 0)
  at-96 = stands 32 0xF200AA66 32 64 96 (times96_of itself) times96_at (lit< tt) (omega arith) power-96 z h

  at-64 : feed_bits 64 (times64 z) 0 ≡ feed_bits 64 0 (feed_bits 32 z 0)
  at-64 = stands 32 0x490D678D 32 64 64 (times64_of itself) times64_at (lit< tt) (omega arith) power-64 z h

-- The sum of all four half words at their places.

abbrev upper : ℕ → ℕ
upper d = times128 (d / 2 ^ 32) ⊕ times96 (d % 2 ^ 32)

abbrev lower : ℕ → ℕ
lower e = times64 (e / 2 ^ 32) ⊕ (e * 2 ^ 32 % 2 ^ 64)

upper_same : (d : ℕ) → d < 2 ^ 64 → feed_bits 64 (upper d) 0 ≡ feed_bits 96 0 (feed_bits 64 d 0)
upper_same d h =
    linear 64 (times128 (d / 2 ^ 32)) (times96 (d % 2 ^ 32)) 0 0 (lit< tt) (lit< tt)
    ∙ ap₂ bit_xor (at-128 (d / 2 ^ 32) (shr_lt 32 32 h)) (at-96 (d % 2 ^ 32) (low_lt d))
    ∙ sym (by_halves 96 d)

lower_same : (e : ℕ) → e < 2 ^ 64 → feed_bits 64 (lower e) 0 ≡ feed_bits 32 0 (feed_bits 64 e 0)
lower_same e h =
    let moved : e * 2 ^ 32 % 2 ^ 64 ≡ e % 2 ^ 32 * 2 ^ 32 = omega arith in
    linear 64 (times64 (e / 2 ^ 32)) (e * 2 ^ 32 % 2 ^ 64) 0 0 (lit< tt) (lit< tt)
    ∙ ap₂ bit_xor (at-64 (e / 2 ^ 32) (shr_lt 32 32 h))
    (ap (λ (v : ℕ). feed_bits 64 v 0) moved ∙ moved_up 0 32 32 (e % 2 ^ 32) (low_lt e))
    ∙ sym (by_halves 32 e)

upper_lt : (d : ℕ) → d < 2 ^ 64 → upper d < 2 ^ 64
unfolding times128 times96
upper_lt d h =
    xor_lt 64 (times128 (d / 2 ^ 32)) (times96 (d % 2 ^ 32)) (lefts_lt 64 _ (d / 2 ^ 32) (d / 2 ^ 32) (lt_of_le_of_lt (shr_le d 32) h))
    (lefts_lt 64 _ (d % 2 ^ 32 * 2 ^ 1 % 2 ^ 64) (d % 2 ^ 32) (mod-lt (d % 2 ^ 32 * 2 ^ 1) (pow_pos 64)))

lower_lt : (e : ℕ) → e < 2 ^ 64 → lower e < 2 ^ 64
unfolding times64
lower_lt e h =
    xor_lt 64 (times64 (e / 2 ^ 32)) (e * 2 ^ 32 % 2 ^ 64) (lefts_lt 64 _ (e / 2 ^ 32) (e / 2 ^ 32) (lt_of_le_of_lt (shr_le e 32) h))
    (mod-lt (e * 2 ^ 32) (pow_pos 64))

-- The register after both words is what the sum leaves over, since 32 zeros more lead to the same.
pub last_two : (d e : ℕ) → d < 2 ^ 64 → e < 2 ^ 64
    → remainder (times128 (d / 2 ^ 32) ⊕ times96 (d % 2 ^ 32) ⊕ times64 (e / 2 ^ 32) ⊕ (e * 2 ^ 32 % 2 ^ 64)) ≡ feed_words (d ∷ e ∷ []) 0
unfolding feed_words
last_two d e hd he =
    let first : ℕ = feed_bits 64 d 0 in
    let second : ℕ = feed_bits 64 e 0 in
    let first-lt : first < 2 ^ 32 = bits_lt 64 d 0 (lit< tt) in
    let sum_lt : upper d ⊕ lower e < 2 ^ 64 = xor_lt 64 (upper d) (lower e) (upper_lt d hd) (lower_lt e he) in
    ap remainder (xor_assoc (upper d) (times64 (e / 2 ^ 32)) (e * 2 ^ 32 % 2 ^ 64))
    ∙ zeros_same 32 (remainder (upper d ⊕ lower e)) (feed_bits 64 e first) (remainder_lt (upper d ⊕ lower e) sum_lt)
    (bits_lt 64 e first first-lt)
    (goes_on (upper d ⊕ lower e) sum_lt
    ∙ linear 64 (upper d) (lower e) 0 0 (lit< tt) (lit< tt)
    ∙ ap₂ bit_xor (upper_same d hd ∙ sym (zeros_add 64 32 first)) (lower_same e he)
    ∙ xor_comm (feed_bits 32 0 (feed_bits 64 0 first)) (feed_bits 32 0 second)
    ∙ sym (zeros_sum 32 second (feed_bits 64 0 first) (bits_lt 64 e 0 (lit< tt)) (bits_lt 64 0 first first-lt))
    ∙ ap (feed_bits 32 0) (sym (before_bits 64 e first first-lt)))
