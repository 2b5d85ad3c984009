-- Words of 64 bits that are still to go in, and the bytes behind them.
use Rattle.std.specs.Prelude.{◌≡◌, List, [], ◌∷◌, ℕ, ◌+◌, ◌-◌, ◌*◌, ◌%◌, ◌^◌, ◌≤◌, length, get_or, drop}
use Rattle.crc.specs.Crc.{feed_bits, feed_bytes, crc}
use Rattle.moves.specs.Inner.Moves.{added}

-- the four bytes from i on as a number, the first the highest
abbrev pub word_at : List ℕ → ℕ → ℕ
word_at s i = get_or s i 0 * 2 ^ 24 + get_or s (i + 1) 0 * 2 ^ 16 + get_or s (i + 2) 0 * 2 ^ 8 + get_or s (i + 3) 0

-- the eight bytes from i on as a number, the first the highest
abbrev pub long_at : List ℕ → ℕ → ℕ
long_at s i = word_at s i * 2 ^ 32 + word_at s (i + 4)

-- words go in, in their order
unfoldable pub feed_words : List ℕ → ℕ → ℕ
feed_words [] r = r
feed_words (w ∷ ws) r = feed_words ws (feed_bits 64 w r)

-- The words ws, into zero, and then the bytes of s from i on, which are whole words, give the CRC_32 of s.
pub record Ahead (s ws : List ℕ) (i : ℕ) : Type 0 where
  pub within : i ≤ length s
  pub whole : (length s - i) % 8 ≡ 0
  pub rest : feed_bytes (drop i s) (feed_words ws 0) ≡ crc s

-- the same of five words
abbrev pub Window : List ℕ → ℕ → ℕ → ℕ → ℕ → ℕ → ℕ → Type 0
Window s a b c d e i = Ahead s (a ∷ b ∷ c ∷ d ∷ e ∷ []) i

-- the five words of s from i on, and the place behind them
pub record FiveAt (s : List ℕ) (i a b c d e at : ℕ) : Type 0 where
  pub first : a ≡ long_at s i
  pub second : b ≡ long_at s (i + 8)
  pub third : c ≡ long_at s (i + 16)
  pub fourth : d ≡ long_at s (i + 24)
  pub fifth : e ≡ long_at s (i + 32)
  pub behind : at ≡ i + 40

-- the words a, b, c, d, e of a window as they are when they stand at its front: each with what those before it add to it
pub record Fronts (a b c d e a' b' c' d' e' : ℕ) : Type 0 where
  pub first : a' ≡ a
  pub second : b' ≡ b
  pub third : c' ≡ added c 0 0 0 a
  pub fourth : d' ≡ added d 0 0 a b
  pub fifth : e' ≡ added e 0 a b c'
