-- The theorems about CRC_32: a published value, its range, and that a section ends in its own CRC_32 exactly if the
-- register is zero after it.
use mathlib.Core.Path.{◌≡◌, refl, sym, ap, ◌∙◌}
use mathlib.Core.List.{List, [], ◌∷◌, ◌++◌}
use Prim.Native.Nat.{ℕ, ◌+◌, ◌-◌, ◌*◌, ◌/◌, ◌%◌, ◌^◌, ◌<◌}
use mathlib.Core.Logic.{◌↔◌}
use native.Mathlib.Omega.{arith}
use lib.Dec.{lit<}
use lib.Bits.{xor_zero_l, xor_lt}
use Rattle.crc.specs.Crc.{feed, feed_bits, feed_bytes, crc, bytes_of}
use Rattle.moves.proofs.Xor.{◌⊕◌, xor_zero_eq}
use Rattle.crc.proofs.Linear.{bits_zero}
use Rattle.crc.proofs.Steps.{own, absorb}
use Rattle.crc.proofs.Bytes.{feed_append, bytes_lt, four, word_lt}

-- the nine digits 1 to 9 in ASCII: the value by which catalogues of CRCs tell this one
pub digits : crc (0x31 ∷ 0x32 ∷ 0x33 ∷ 0x34 ∷ 0x35 ∷ 0x36 ∷ 0x37 ∷ 0x38 ∷ 0x39 ∷ []) ≡ 0x0376E6E7
unfolding crc feed_bytes feed_bits feed
digits = refl

-- the register has 32 bits
pub crc_lt : (s : List ℕ) → crc s < 2 ^ 32
unfolding crc
crc_lt s = bytes_lt s (2 ^ 32 - 1) (lit< tt)

byte_lt : (v : ℕ) → v % 2 ^ 8 < 2 ^ 8
byte_lt v = omega arith

again : (v : ℕ) → v / 2 ^ 24 * 2 ^ 24 + v / 2 ^ 16 % 2 ^ 8 * 2 ^ 16 + v / 2 ^ 8 % 2 ^ 8 * 2 ^ 8 + v % 2 ^ 8 ≡ v
again v = omega arith

-- the four bytes after s, as one word that goes into the register
ending : (s : List ℕ) (a b c d : ℕ) → b < 2 ^ 8 → c < 2 ^ 8 → d < 2 ^ 8
    → crc (s ++ (a ∷ b ∷ c ∷ d ∷ [])) ≡ feed_bits 32 (a * 2 ^ 24 + b * 2 ^ 16 + c * 2 ^ 8 + d) (crc s)
unfolding crc
ending s a b c d hb hc hd = feed_append s (a ∷ b ∷ c ∷ d ∷ []) (2 ^ 32 - 1) ∙ four a b c d (crc s) hb hc hd

-- a sequence with its own CRC_32 behind it leaves zero
pub closes : (s : List ℕ) → crc (s ++ bytes_of (crc s)) ≡ 0
closes s =
    let v : ℕ = crc s in
    ending s (v / 2 ^ 24) (v / 2 ^ 16 % 2 ^ 8) (v / 2 ^ 8 % 2 ^ 8) (v % 2 ^ 8) (byte_lt (v / 2 ^ 16)) (byte_lt (v / 2 ^ 8)) (byte_lt v)
    ∙ ap (λ (w : ℕ). feed_bits 32 w v) (again v)
    ∙ own v (crc_lt s)

-- the one word that makes a register zero is that register
only_own : (w v : ℕ) → w < 2 ^ 32 → v < 2 ^ 32 → feed_bits 32 w v ≡ 0 → w ≡ v
only_own w v hw hv e =
    let z : ℕ = w ⊕ v in
    let hz : z < 2 ^ 32 = xor_lt 32 w v hw hv in
    xor_zero_eq w v (bits_zero 32 z hz (absorb 0 z hz ∙ ap (λ (x : ℕ). feed_bits 32 x 0) (xor_zero_l z) ∙ sym (absorb w v hv) ∙ e))

same_bytes : (a b c d v : ℕ) → a < 2 ^ 8 → b < 2 ^ 8 → c < 2 ^ 8 → d < 2 ^ 8 → a * 2 ^ 24 + b * 2 ^ 16 + c * 2 ^ 8 + d ≡ v
    → a ∷ b ∷ c ∷ d ∷ [] ≡ bytes_of v
same_bytes a b c d v ha hb hc hd e =
    let ea : a ≡ v / 2 ^ 24 = omega arith in
    let eb : b ≡ v / 2 ^ 16 % 2 ^ 8 = omega arith in
    let ec : c ≡ v / 2 ^ 8 % 2 ^ 8 = omega arith in
    let ed : d ≡ v % 2 ^ 8 = omega arith in
    cc

-- four bytes behind s leave zero exactly if they are the CRC_32 of s
pub closes_exactly : (s : List ℕ) (a b c d : ℕ) → a < 2 ^ 8 → b < 2 ^ 8 → c < 2 ^ 8 → d < 2 ^ 8
    → (crc (s ++ (a ∷ b ∷ c ∷ d ∷ [])) ≡ 0) ↔ (a ∷ b ∷ c ∷ d ∷ [] ≡ bytes_of (crc s))
closes_exactly s a b c d ha hb hc hd = (
  λ e. same_bytes a b c d (crc s) ha hb hc hd
      (only_own _ (crc s) (word_lt a b c d ha hb hc hd) (crc_lt s) (sym (ending s a b c d hb hc hd) ∙ e)),
  λ e. ap (λ (t : List ℕ). crc (s ++ t)) e ∙ closes s,
)
