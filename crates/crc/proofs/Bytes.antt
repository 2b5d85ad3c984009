-- Bytes go in one after the other, or four or eight of them as one number.
use mathlib.Core.Path.{◌≡◌, refl, sym, ap, ◌∙◌}
use mathlib.Core.List.{List, [], ◌∷◌, ◌++◌}
use Prim.Native.Nat.{ℕ, ◌+◌, ◌*◌, ◌^◌, ◌<◌, ◌≤◌}
use native.Mathlib.Nat.{add_assoc}
use native.Mathlib.Numerals.{add-one}
use native.Mathlib.Omega.{arith}
use lib.Arith.{digits_lt}
use lib.ListN.{length, drop, get_or, drop_of_length-le}
use lib.Seq.{drop-cons}
use Rattle.wire.specs.Bytes.{Bytes}
use Rattle.crc.specs.Crc.{feed_bits, feed_bytes}
use Rattle.crc.specs.Inner.Windows.{word_at, long_at}
use Rattle.crc.proofs.Linear.{bits_lt, join}

pub feed_append : (s t : List ℕ) (r : ℕ) → feed_bytes (s ++ t) r ≡ feed_bytes t (feed_bytes s r)
unfolding feed_bytes
feed_append [] t r = refl
feed_append (b ∷ s) t r = feed_append s t (feed_bits 8 b r)

pub bytes_lt : (s : List ℕ) (r : ℕ) → r < 2 ^ 32 → feed_bytes s r < 2 ^ 32
unfolding feed_bytes
bytes_lt [] r h = h
bytes_lt (b ∷ s) r h = bytes_lt s (feed_bits 8 b r) (bits_lt 8 b r h)

regrouped : (a b c d : ℕ) → ((a * 2 ^ 8 + b) * 2 ^ 8 + c) * 2 ^ 8 + d ≡ a * 2 ^ 24 + b * 2 ^ 16 + c * 2 ^ 8 + d
regrouped a b c d = omega arith

-- four bytes are one word
pub four : (a b c d r : ℕ) → b < 2 ^ 8 → c < 2 ^ 8 → d < 2 ^ 8
    → feed_bytes (a ∷ b ∷ c ∷ d ∷ []) r ≡ feed_bits 32 (a * 2 ^ 24 + b * 2 ^ 16 + c * 2 ^ 8 + d) r
unfolding feed_bytes
four a b c d r hb hc hd =
    ap (λ (v : ℕ). feed_bits 8 d (feed_bits 8 c v)) (join 8 8 a b r hb)
    ∙ ap (feed_bits 8 d) (join 16 8 (a * 2 ^ 8 + b) c r hc)
    ∙ join 24 8 ((a * 2 ^ 8 + b) * 2 ^ 8 + c) d r hd
    ∙ ap (λ (v : ℕ). feed_bits 32 v r) (regrouped a b c d)

module _ (s : List ℕ) (i r : ℕ) where
  pub byte_front : i < length s → feed_bytes (drop i s) r ≡ feed_bytes (drop (i + 1) s) (feed_bits 8 (get_or s i 0) r)
  unfolding feed_bytes
  byte_front h =
      ap (λ (l : List ℕ). feed_bytes l r) (drop-cons s i 0 h)
      ∙ ap (λ (m : ℕ). feed_bytes (drop m s) (feed_bits 8 (get_or s i 0) r)) (sym (add-one i))

  pub none_left : length s ≤ i → feed_bytes (drop i s) r ≡ r
  unfolding feed_bytes
  none_left h = ap (λ (l : List ℕ). feed_bytes l r) (drop_of_length-le s h)

pub word_lt : (a b c d : ℕ) → a < 2 ^ 8 → b < 2 ^ 8 → c < 2 ^ 8 → d < 2 ^ 8 → a * 2 ^ 24 + b * 2 ^ 16 + c * 2 ^ 8 + d < 2 ^ 32
word_lt a b c d ha hb hc hd = omega arith

four_front : (s : List ℕ) (i r : ℕ) → i + 4 ≤ length s
    → feed_bytes (drop i s) r
    ≡ feed_bytes (drop (i + 4) s)
    (feed_bytes (get_or s i 0 ∷ get_or s (i + 1) 0 ∷ get_or s (i + 2) 0 ∷ get_or s (i + 3) 0 ∷ []) r)
unfolding feed_bytes
four_front s i r h =
    byte_front s i r (omega arith)
    ∙ byte_front s (i + 1) _ (omega arith)
    ∙ byte_front s (i + 1 + 1) _ (omega arith)
    ∙ byte_front s (i + 1 + 1 + 1) _ (omega arith)
    ∙ simp add_assoc

pub word_front : (s : List ℕ) → Bytes s → (i r : ℕ) → i + 4 ≤ length s
    → feed_bytes (drop i s) r ≡ feed_bytes (drop (i + 4) s) (feed_bits 32 (word_at s i) r)
word_front s hs i r h =
    four_front s i r h
    ∙ ap (feed_bytes (drop (i + 4) s))
    (four (get_or s i 0) (get_or s (i + 1) 0) (get_or s (i + 2) 0) (get_or s (i + 3) 0) r (hs (i + 1)) (hs (i + 2))
    (hs (i + 3)))

pub word_at_lt : (s : List ℕ) → Bytes s → (i : ℕ) → word_at s i < 2 ^ 32
word_at_lt s hs i =
    word_lt (get_or s i 0) (get_or s (i + 1) 0) (get_or s (i + 2) 0) (get_or s (i + 3) 0) (hs i) (hs (i + 1)) (hs (i + 2))
    (hs (i + 3))

pub long_front : (s : List ℕ) → Bytes s → (i r : ℕ) → i + 8 ≤ length s
    → feed_bytes (drop i s) r ≡ feed_bytes (drop (i + 8) s) (feed_bits 64 (long_at s i) r)
long_front s hs i r h =
    word_front s hs i r (omega arith)
    ∙ word_front s hs (i + 4) _ (omega arith)
    ∙ rw (add_assoc i 4 4) (ap (feed_bytes (drop (i + 8) s)) (join 32 32 (word_at s i) (word_at s (i + 4)) r (word_at_lt s hs (i + 4))))

pub long_at_lt : (s : List ℕ) → Bytes s → (i : ℕ) → long_at s i < 2 ^ 64
long_at_lt s hs i = digits_lt (word_at_lt s hs i) (word_at_lt s hs (i + 4))
