-- A word leaves the window at its front: what it adds to the words behind stands for it, since modulo P
-- x ^ 128 is x ^ 64 + x ^ 48 + x ^ 41 + x ^ 23 + x ^ 17 + x ^ 16 + x ^ 9 + x ^ 8, and x ^ 320 is x ^ 175 + x ^ 137 + x ^ 109 + x ^ 20.
use mathlib.Core.Path.{◌≡◌, refl, sym, ap, ap₂, ◌∙◌}
use mathlib.Core.List.{[], ◌∷◌}
use Prim.Native.Nat.{ℕ, ◌+◌, ◌-◌, ◌*◌, ◌/◌, ◌%◌, ◌^◌, ◌<◌, ◌≤◌}
use native.Mathlib.Nat.{mod-lt, one-mul, lt_of_le_of_lt}
use native.Mathlib.Omega.{arith}
use lib.Dec.{lit<}
use lib.Pow.{pow_pos, shr_le}
use lib.Bits.{xor_block, xor_lt, xor_zero_r}
use Rattle.moves.proofs.Shared.{over_shared, under_shared}
use Rattle.crc.specs.Crc.{feed, feed_bits}
use Rattle.moves.specs.Inner.Moves.{over, under, second, third, fourth, fifth}
use Rattle.crc.specs.Inner.Windows.{feed_words}
use Rattle.moves.proofs.Xor.{◌⊕◌}
use Rattle.crc.proofs.Linear.{join, none, zeros_swap, moved_up}
use Rattle.moves.proofs.Basis.{Additive, agree_at}
use Rattle.moves.proofs.Products.{far_two, both_at, far_five, four, four_at}
use Rattle.moves.proofs.Shifts.{itself, lefts_lt, over_of, under_of, second_of, third_of, fourth_of, fifth_of}
use Rattle.crc.proofs.Fed.{fed_of, zeros_of}
use Rattle.crc.proofs.Feeding.{leaves}

-- the word 2 ^ i of b bits
one_bit : (b i : ℕ) → i < b → feed_bits b (2 ^ i) 0 ≡ feed_bits i 0 (feed_bits 1 1 0)
one_bit b i h =
    let whole : b ≡ b - 1 - i + (1 + i) = omega arith in
    ap₂ (λ (n y : ℕ). feed_bits n y 0) whole (sym (one-mul (2 ^ i))) ∙ moved_up (b - 1 - i) 1 i 1 (lit< tt)

-- A sum that is the number `far` at 1, and moves up with its argument of b bits, stands for n zeros behind it if it does so at 1.
pub stands : {S : ℕ → ℕ} (b far w m n : ℕ) → Additive b S → ((i : ℕ) → i < b → S (2 ^ i) ≡ far * 2 ^ i) → far < 2 ^ w → w + b ≤ m + 1
    → feed_bits w far 0 ≡ feed_bits n 0 (feed_bits 1 1 0) → (a : ℕ) → a < 2 ^ b → feed_bits m (S a) 0 ≡ feed_bits n 0 (feed_bits b a 0)
stands b far w m n sums at lt room e =
    agree_at b (fed_of sums m) (zeros_of itself b n)
    (λ i h.
    let whole : m ≡ m - w - i + (w + i) = omega arith in
    ap₂ (λ (k y : ℕ). feed_bits k y 0) whole (at i h)
    ∙ moved_up (m - w - i) w i far lt
    ∙ ap (feed_bits i 0) e
    ∙ zeros_swap n i (feed_bits 1 1 0)
    ∙ ap (feed_bits n 0) (sym (one_bit b i h)))

-- two functions as the halves of one
block_of : {f g : ℕ → ℕ} → Additive 64 f → Additive 64 g → ((a : ℕ) → a < 2 ^ 64 → g a < 2 ^ 64) → Additive 64 (λ a. f a * 2 ^ 64 + g a)
block_of {f} {g} hf hg lt =
    record {
      sums = λ a b ha hb.
          ap₂ (λ (u v : ℕ). u * 2 ^ 64 + v) (hf.sums a b ha hb) (hg.sums a b ha hb)
          ∙ sym (xor_block 64 (f a) (f b) (g a) (g b) (lt a ha) (lt b hb));
    }

-- The window of two

under_lt : (a : ℕ) → a < 2 ^ 64 → under a < 2 ^ 64
unfolding under
under_lt a h = lefts_lt 64 _ (a * 2 ^ 8 % 2 ^ 64) a (mod-lt (a * 2 ^ 8) (pow_pos 64))

relation_two : feed_bits 65 far_two 0 ≡ feed_bits 128 0 (feed_bits 1 1 0)
unfolding far_two feed_bits feed
relation_two = refl

far_two_lt : far_two < 2 ^ 65
unfolding far_two
far_two_lt = lit< tt

stands_two : (a : ℕ) → a < 2 ^ 64 → feed_words (over a ∷ under a ∷ []) 0 ≡ feed_bits 128 0 (feed_bits 64 a 0)
unfolding feed_words
stands_two a h =
    join 64 64 (over a) (under a) 0 (under_lt a h)
    ∙ stands 64 far_two 65 128 128 (block_of (over_of itself) (under_of itself) under_lt) both_at far_two_lt
    (omega arith) relation_two a h

pub leaves_two : (a b c : ℕ) → a < 2 ^ 64 → feed_words ((b ⊕ over a) ∷ (c ⊕ under a) ∷ []) 0 ≡ feed_words (a ∷ b ∷ c ∷ []) 0
leaves_two a b c h = leaves (b ∷ c ∷ []) (over a ∷ under a ∷ []) a refl (stands_two a h)

-- The window of five

down_lt : (k a : ℕ) → a < 2 ^ 64 → a / 2 ^ k < 2 ^ 64
down_lt k a h = lt_of_le_of_lt (shr_le a k) h

up_lt : (k a : ℕ) → a * 2 ^ k % 2 ^ 64 < 2 ^ 64
up_lt k a = mod-lt (a * 2 ^ k) (pow_pos 64)

pub second_lt : (a : ℕ) → a < 2 ^ 64 → second a < 2 ^ 64
unfolding second
second_lt a h = xor_lt 64 (a / 2 ^ 17) (a / 2 ^ 55) (down_lt 17 a h) (down_lt 55 a h)

pub third_lt : (a : ℕ) → a < 2 ^ 64 → third a < 2 ^ 64
unfolding third
third_lt a h =
    xor_lt 64 ((a * 2 ^ 47 % 2 ^ 64) ⊕ (a * 2 ^ 9 % 2 ^ 64)) (a / 2 ^ 19)
    (xor_lt 64 (a * 2 ^ 47 % 2 ^ 64) (a * 2 ^ 9 % 2 ^ 64) (up_lt 47 a) (up_lt 9 a))
    (down_lt 19 a h)

pub fourth_lt : (a : ℕ) → a < 2 ^ 64 → fourth a < 2 ^ 64
unfolding fourth
fourth_lt a h = xor_lt 64 (a * 2 ^ 45 % 2 ^ 64) (a / 2 ^ 44) (up_lt 45 a) (down_lt 44 a h)

fifth_lt : (a : ℕ) → a < 2 ^ 64 → fifth a < 2 ^ 64
unfolding fifth
fifth_lt a h = up_lt 20 a

relation_five : feed_bits 176 far_five 0 ≡ feed_bits 320 0 (feed_bits 1 1 0)
unfolding far_five feed_bits feed
relation_five = refl

far_five_lt : far_five < 2 ^ 176
unfolding far_five
far_five_lt = lit< tt

four_of : Additive 64 four
four_of =
    block_of (block_of (block_of (second_of itself) (third_of itself) third_lt) (fourth_of itself) fourth_lt) (fifth_of itself) fifth_lt

stands_five : (a : ℕ) → a < 2 ^ 64 → feed_words (0 ∷ second a ∷ third a ∷ fourth a ∷ fifth a ∷ []) 0 ≡ feed_bits 320 0 (feed_bits 64 a 0)
unfolding feed_words
stands_five a h =
    ap (λ (r : ℕ). feed_bits 64 (fifth a) (feed_bits 64 (fourth a) (feed_bits 64 (third a) (feed_bits 64 (second a) r)))) (none 64)
    ∙ ap (λ (r : ℕ). feed_bits 64 (fifth a) (feed_bits 64 (fourth a) r)) (join 64 64 (second a) (third a) 0 (third_lt a h))
    ∙ ap (feed_bits 64 (fifth a)) (join 128 64 (second a * 2 ^ 64 + third a) (fourth a) 0 (fourth_lt a h))
    ∙ join 192 64 ((second a * 2 ^ 64 + third a) * 2 ^ 64 + fourth a) (fifth a) 0 (fifth_lt a h)
    ∙ stands 64 far_five 176 256 320 four_of four_at far_five_lt (omega arith) relation_five a h

pub leaves_five : (a b c d e m : ℕ) → a < 2 ^ 64
    → feed_words (b ∷ (c ⊕ second a) ∷ (d ⊕ third a) ∷ (e ⊕ fourth a) ∷ (m ⊕ fifth a) ∷ []) 0 ≡ feed_words (a ∷ b ∷ c ∷ d ∷ e ∷ m ∷ []) 0
leaves_five a b c d e m h =
    ap (λ (x : ℕ). feed_words (x ∷ (c ⊕ second a) ∷ (d ⊕ third a) ∷ (e ⊕ fourth a) ∷ (m ⊕ fifth a) ∷ []) 0) (sym (xor_zero_r b))
    ∙ leaves (b ∷ c ∷ d ∷ e ∷ m ∷ []) (0 ∷ second a ∷ third a ∷ fourth a ∷ fifth a ∷ []) a refl (stands_five a h)

-- those of the window of two, and how the code shares moves
pub ruleset leaving = (leaves_two, over_shared, under_shared)
