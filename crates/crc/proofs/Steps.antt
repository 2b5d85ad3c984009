-- A word and a byte go in by moves and sums alone: each claim is one of functions that take sums to sums, so that a
-- test at the powers of two proves it.
use mathlib.Core.Path.{◌≡◌, refl, sym, ap, ap₂, ◌∙◌}
use Prim.Native.Nat.{ℕ, ◌*◌, ◌/◌, ◌%◌, ◌^◌, ◌<◌}
use native.Mathlib.Omega.{arith}
use lib.Dec.{lit<}
use lib.Bits.{bit_xor, xor_zero_l, xor_zero_r}
use Rattle.crc.specs.Crc.{feed, feed_bits}
use Rattle.moves.specs.Inner.Moves.{rights, lefts, times_poly, quotient_of}
use Rattle.moves.proofs.Xor.{◌⊕◌, xor_assoc, xor_twice}
use Rattle.crc.proofs.Linear.{linear}
use Rattle.moves.proofs.Basis.{Additive, agree}
use Rattle.moves.proofs.Shifts.{itself, down_of, up_of, sum_of, times_of, quotient-of}
use Rattle.crc.proofs.Fed.{fed_of}

-- a register fed with its own bits is zero
pub own : (v : ℕ) → v < 2 ^ 32 → feed_bits 32 v v ≡ 0
unfolding feed_bits feed
own =
    agree 32 {f = λ v. feed_bits 32 v v} {g = λ v. 0} (record { sums = λ a b ha hb. linear 32 a b a b ha hb })
    (record { sums = λ a b ha hb. refl }) tt

-- a word goes into a register as their sum goes into zero
pub absorb : (w r : ℕ) → r < 2 ^ 32 → feed_bits 32 w r ≡ feed_bits 32 (w ⊕ r) 0
absorb w r h =
    ap₂ (feed_bits 32) (sym (xor_twice w r)) (sym (xor_zero_l r))
    ∙ linear 32 (w ⊕ r) r 0 r (lit< tt) h
    ∙ ap (λ (v : ℕ). feed_bits 32 (w ⊕ r) 0 ⊕ v) (own r h)
    ∙ xor_zero_r (feed_bits 32 (w ⊕ r) 0)

pub divided : (z : ℕ) → z < 2 ^ 32 → times_poly (quotient_of z) ≡ feed_bits 32 z 0
unfolding times_poly lefts quotient_of rights feed_bits feed
divided = agree 32 (times_of (quotient-of itself)) (fed_of itself 32) tt

-- what eight bits at the register's top leave over
over_byte : ℕ → ℕ
over_byte c = times_poly (c ⊕ (c / 2 ^ 6))

over_of : {m : ℕ} {f : ℕ → ℕ} → Additive m f → Additive m (λ v. over_byte (f v))
unfolding over_byte
over_of hf = times_of (sum_of hf (down_of hf 6))

into_zero : (b : ℕ) → b < 2 ^ 8 → over_byte b ≡ feed_bits 8 b 0
unfolding over_byte times_poly lefts feed_bits feed
into_zero = agree 8 (over_of itself) (fed_of itself 8) tt

-- eight zeros go into r
zeros_in : (r : ℕ) → r < 2 ^ 32 → over_byte (r / 2 ^ 24) ⊕ (r * 2 ^ 8 % 2 ^ 32) ≡ feed_bits 8 0 r
unfolding over_byte times_poly lefts feed_bits feed
zeros_in = agree 32 (sum_of (over_of (down_of itself 24)) (up_of itself 32 8)) (record { sums = λ a b ha hb. linear 8 0 0 a b ha hb }) tt

pub byte_step : (r b : ℕ) → r < 2 ^ 32 → b < 2 ^ 8
    → times_poly (b ⊕ (r / 2 ^ 24) ⊕ ((b ⊕ (r / 2 ^ 24)) / 2 ^ 6)) ⊕ (r * 2 ^ 8 % 2 ^ 32) ≡ feed_bits 8 b r
unfolding over_byte
byte_step r b hr hb =
    let sums = (over_of {m = 8} itself).sums in
    ap (λ (v : ℕ). v ⊕ (r * 2 ^ 8 % 2 ^ 32)) (sums b (r / 2 ^ 24) hb (omega arith))
    ∙ xor_assoc (over_byte b) (over_byte (r / 2 ^ 24)) (r * 2 ^ 8 % 2 ^ 32)
    ∙ ap₂ bit_xor (into_zero b hb) (zeros_in r hr)
    ∙ sym (linear 8 b 0 0 r (lit< tt) hr)
    ∙ ap₂ (feed_bits 8) (xor_zero_r b) (xor_zero_l r)
