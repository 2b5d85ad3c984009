-- Words go into the register: they may be split by xor, and a word at the front may leave them where others take up what it adds.
use mathlib.Core.Path.{◌≡◌, refl, sym, ap, ap₂, ◌∙◌}
use mathlib.Core.List.{List, [], ◌∷◌, ◌++◌}
use Prim.Native.Nat.{ℕ, suc, ◌+◌, ◌*◌, ◌^◌, ◌<◌}
use native.Mathlib.Omega.{arith}
use lib.Dec.{lit<}
use lib.Bits.{bit_xor, xor_lt, xor_zero_l, xor_zero_r}
use lib.ListN.{length}
use Rattle.crc.specs.Crc.{feed_bits}
use Rattle.crc.specs.Inner.Windows.{feed_words}
use Rattle.moves.proofs.Xor.{◌⊕◌, xor_assoc}
use Rattle.crc.proofs.Linear.{linear, bits_lt, zeros_add, zeros_sum}

pub words_append : (v w : List ℕ) (r : ℕ) → feed_words (v ++ w) r ≡ feed_words w (feed_words v r)
unfolding feed_words
words_append [] w r = refl
words_append (a ∷ v) w r = words_append v w (feed_bits 64 a r)

-- what the register holds before n bits is a part of its own
pub before_bits : (n w r : ℕ) → r < 2 ^ 32 → feed_bits n w r ≡ feed_bits n w 0 ⊕ feed_bits n 0 r
before_bits n w r h = sym (ap₂ (feed_bits n) (xor_zero_r w) (xor_zero_l r)) ∙ linear n w 0 0 r (lit< tt) h

-- and so it is before any number of words
pub before_words : (ws : List ℕ) (r : ℕ) → r < 2 ^ 32 → feed_words ws r ≡ feed_words ws 0 ⊕ feed_bits (64 * length ws) 0 r
unfolding feed_words feed_bits
before_words [] r h = sym (xor_zero_l r)
before_words (w ∷ ws) r h =
    let n : ℕ = 64 * length ws in
    let more : 64 + n ≡ 64 * suc (length ws) = omega arith in
    let p : ℕ = feed_bits 64 w 0 in
    let q : ℕ = feed_bits 64 0 r in
    let hp : p < 2 ^ 32 = bits_lt 64 w 0 (lit< tt) in
    let hq : q < 2 ^ 32 = bits_lt 64 0 r h in
    ap (feed_words ws) (before_bits 64 w r h)
    ∙ before_words ws (p ⊕ q) (xor_lt 32 p q hp hq)
    ∙ ap (λ (v : ℕ). feed_words ws 0 ⊕ v) (zeros_sum n p q hp hq)
    ∙ sym (xor_assoc (feed_words ws 0) (feed_bits n 0 p) (feed_bits n 0 q))
    ∙ ap₂ bit_xor (sym (before_words ws p hp)) (zeros_add 64 n r ∙ ap (λ (k : ℕ). feed_bits k 0 r) more)

-- word by word
abbrev pub xors : List ℕ → List ℕ → List ℕ
xors [] w = []
xors (a ∷ v) [] = a ∷ v
xors (a ∷ v) (b ∷ w) = (a ⊕ b) ∷ xors v w

words_linear : (v w : List ℕ) (r s : ℕ) → length v ≡ length w → r < 2 ^ 32 → s < 2 ^ 32
    → feed_words (xors v w) (r ⊕ s) ≡ feed_words v r ⊕ feed_words w s
unfolding feed_words
words_linear [] [] r s e hr hs = refl
words_linear [] (b ∷ w) r s e hr hs = absurd (omega arith)
words_linear (a ∷ v) [] r s e hr hs = absurd (omega arith)
words_linear (a ∷ v) (b ∷ w) r s e hr hs =
    ap (feed_words (xors v w)) (linear 64 a b r s hr hs)
    ∙ words_linear v w (feed_bits 64 a r) (feed_bits 64 b s) (omega arith) (bits_lt 64 a r hr) (bits_lt 64 b s hs)

-- a word leaves where w, added to the words v behind it, stands for it
pub leaves : (v w : List ℕ) (a : ℕ) → length v ≡ length w → feed_words w 0 ≡ feed_bits (64 * length v) 0 (feed_bits 64 a 0)
    → feed_words (xors v w) 0 ≡ feed_words (a ∷ v) 0
unfolding feed_words
leaves v w a e stands =
    words_linear v w 0 0 e (lit< tt) (lit< tt)
    ∙ ap (λ (x : ℕ). feed_words v 0 ⊕ x) stands
    ∙ sym (before_words v (feed_bits 64 a 0) (bits_lt 64 a 0 (lit< tt)))
