-- The front of a sequence: its first 1 to 8 bytes are a word of their own, and the preset is added to it and to the word after it.
use mathlib.Core.Path.{◌≡◌, refl, sym, ap, ap₂, ◌∙◌, subst}
use mathlib.Core.List.{List, [], ◌∷◌}
use Prim.Native.Nat.{ℕ, zero, suc, ◌+◌, ◌-◌, ◌*◌, ◌/◌, ◌%◌, ◌^◌, ◌<◌, ◌≤◌}
use native.Mathlib.Nat.{zero-add, mod-lt}
use native.Mathlib.Numerals.{add-one}
use native.Mathlib.Omega.{arith}
use lib.Dec.{eqb, eqb→eq, lit<}
use lib.Pow.{pow_pos, shr_lt}
use lib.Bits.{xor_block, xor_shr, xor_lt, xor_zero_l, xor_zero_r}
use lib.ListN.{length, drop, get_or}
use Rattle.wire.specs.Bytes.{Bytes}
use Rattle.crc.specs.Crc.{feed_bits, feed_bytes, crc}
use Rattle.crc.specs.Inner.Windows.{long_at, feed_words, Ahead}
use Rattle.moves.proofs.Xor.{◌⊕◌}
use Rattle.crc.proofs.Linear.{linear, join, zeros_add, zeros_first, moved_up}
use Rattle.moves.proofs.Basis.{passed}
use Rattle.crc.proofs.Steps.{absorb}
use Rattle.crc.proofs.Ahead.{instead}
use Rattle.crc.proofs.Bytes.{byte_front, long_front, long_at_lt}

-- a register in front of n + 32 bits is added to the first 32 of them
absorbed : (n v r : ℕ) → r < 2 ^ 32 → feed_bits (32 + n) (v ⊕ (r * 2 ^ n)) 0 ≡ feed_bits (32 + n) v r
absorbed n v r h =
    linear (32 + n) v (r * 2 ^ n) 0 0 (lit< tt) (lit< tt)
    ∙ ap (λ (x : ℕ). feed_bits (32 + n) v 0 ⊕ x)
    (ap (λ (k : ℕ). feed_bits k (r * 2 ^ n) 0) (sym (zero-add (32 + n)))
    ∙ moved_up 0 32 n r h
    ∙ ap (feed_bits n 0) (sym (absorb 0 r h ∙ ap (λ (x : ℕ). feed_bits 32 x 0) (xor_zero_l r)))
    ∙ zeros_add 32 n r)
    ∙ sym (linear (32 + n) v 0 0 r (lit< tt) h)
    ∙ ap₂ (feed_bits (32 + n)) (xor_zero_r v) (xor_zero_l r)

-- Of the first eight bytes as a number, those in front, and one more.
next_byte : (s : List ℕ) → Bytes s → (j : ℕ) → j < 8 → long_at s 0 / 2 ^ (64 - 8 * j) * 2 ^ 8 + get_or s j 0 ≡
    long_at s 0 / 2 ^ (56 - 8 * j)
next_byte s hs zero l = omega (arith, hs 0, hs 1, hs 2, hs 3, hs 4, hs 5, hs 6, hs 7)
next_byte s hs (suc zero) l = omega (arith, hs 0, hs 1, hs 2, hs 3, hs 4, hs 5, hs 6, hs 7)
next_byte s hs (suc (suc zero)) l = omega (arith, hs 0, hs 1, hs 2, hs 3, hs 4, hs 5, hs 6, hs 7)
next_byte s hs (suc (suc (suc zero))) l = omega (arith, hs 0, hs 1, hs 2, hs 3, hs 4, hs 5, hs 6, hs 7)
next_byte s hs (suc (suc (suc (suc zero)))) l = omega (arith, hs 0, hs 1, hs 2, hs 3, hs 4, hs 5, hs 6, hs 7)
next_byte s hs (suc (suc (suc (suc (suc zero))))) l = omega (arith, hs 0, hs 1, hs 2, hs 3, hs 4, hs 5, hs 6, hs 7)
next_byte s hs (suc (suc (suc (suc (suc (suc zero)))))) l = omega (arith, hs 0, hs 1, hs 2, hs 3, hs 4, hs 5, hs 6, hs 7)
next_byte s hs (suc (suc (suc (suc (suc (suc (suc zero))))))) l = omega (arith, hs 0, hs 1, hs 2, hs 3, hs 4, hs 5, hs 6, hs 7)
next_byte s hs (suc (suc (suc (suc (suc (suc (suc (suc j)))))))) l = absurd (omega arith)

-- the first j bytes are a number of 8 j bits
first_bytes : (s : List ℕ) → Bytes s → (r j : ℕ) → j ≤ 8 → 8 ≤ length s
    → feed_bytes s r ≡ feed_bytes (drop j s) (feed_bits (8 * j) (long_at s 0 / 2 ^ (64 - 8 * j)) r)
unfolding feed_bits
first_bytes s hs r zero hj h = refl
first_bytes s hs r (suc j) hj h =
    let less : j < 8 = omega arith in
    let bits : 8 * j + 8 ≡ 8 * suc j = omega arith in
    let left : 56 - 8 * j ≡ 64 - 8 * suc j = omega arith in
    let front : ℕ = long_at s 0 / 2 ^ (64 - 8 * j) in
    first_bytes s hs r j (omega arith) h
    ∙ byte_front s j (feed_bits (8 * j) front r) (omega arith)
    ∙ ap₂ (λ (k v : ℕ). feed_bytes (drop k s) v) (add-one j)
    (join (8 * j) 8 front (get_or s j 0) r (hs j)
    ∙ ap₂ (λ (n v : ℕ). feed_bits n v r) bits (next_byte s hs j less ∙ ap (λ (n : ℕ). long_at s 0 / 2 ^ n) left))

-- the preset's ones, as they stand in front of j + 1 bytes, and of the word behind these
abbrev ones : ℕ
ones = 2 ^ 32 - 1

abbrev preset : ℕ
preset = 0xFFFF_FFFF_0000_0000

abbrev spilt : ℕ → ℕ
spilt j = preset * 2 ^ (8 * j) % 2 ^ 64 * 2 ^ 8 % 2 ^ 64

ones_placed : (j : ℕ) → j < 8 → ones * 2 ^ (8 * j + 40) ≡ preset / 2 ^ (56 - 8 * j) * 2 ^ 64 + spilt j
ones_placed j h =
    eqb→eq _ _ (passed (λ j. eqb (ones * 2 ^ (8 * j + 40)) (preset / 2 ^ (56 - 8 * j) * 2 ^ 64 + spilt j)) 8 tt j h)

-- The first j + 1 bytes and the eight after them, from ones, are two words from zero.
module _ (s : List ℕ) (hs : Bytes s) (j : ℕ) (hj : j < 8) where
  abbrev here : ℕ
  here = long_at s 0 / 2 ^ (56 - 8 * j)

  abbrev next : ℕ
  next = long_at s (j + 1)

  abbrev a : ℕ
  a = (long_at s 0 ⊕ preset) / 2 ^ (56 - 8 * j)

  abbrev b : ℕ
  b = next ⊕ spilt j

  a_lt : a < 2 ^ (8 * suc j)
  a_lt =
      let whole : 64 ≡ 8 * suc j + (56 - 8 * j) = omega arith in
      shr_lt (8 * suc j) (56 - 8 * j)
      (subst (λ (n : ℕ). long_at s 0 ⊕ preset < 2 ^ n) whole
      (xor_lt 64 (long_at s 0) preset (long_at_lt s hs 0) (lit< tt)))

  two_words : feed_bits 64 next (feed_bits (8 * suc j) here ones) ≡ feed_words (a ∷ b ∷ []) 0
  unfolding feed_words
  two_words =
      let size : 8 * suc j + 64 ≡ 32 + (8 * j + 40) = omega arith in
      let room : 64 ≡ 56 - 8 * j + 8 * suc j = omega arith in
      let spilt-lt : spilt j < 2 ^ 64 = mod-lt (preset * 2 ^ (8 * j) % 2 ^ 64 * 2 ^ 8) (pow_pos 64) in
      let next-lt : next < 2 ^ 64 = long_at_lt s hs (j + 1) in
      let y : ℕ = here * 2 ^ 64 + next in
      join (8 * suc j) 64 here next ones next-lt
      ∙ ap (λ (n : ℕ). feed_bits n y ones) size
      ∙ sym (absorbed (8 * j + 40) y ones (lit< tt))
      ∙ ap₂ (λ (n v : ℕ). feed_bits n v 0) (sym size)
      (ap (λ (v : ℕ). y ⊕ v) (ones_placed j hj)
      ∙ xor_block 64 here (preset / 2 ^ (56 - 8 * j)) next (spilt j) next-lt spilt-lt
      ∙ ap (λ (v : ℕ). v * 2 ^ 64 + b) (sym (xor_shr (long_at s 0) preset (56 - 8 * j))))
      ∙ sym (join (8 * suc j) 64 a b 0 (xor_lt 64 next (spilt j) next-lt spilt-lt))
      ∙ ap (feed_bits 64 b) (sym (ap (λ (n : ℕ). feed_bits n a 0) room ∙ zeros_first (56 - 8 * j) (8 * suc j) a a_lt))

  from_ones : j + 9 ≤ length s → (length s - (j + 9)) % 8 ≡ 0 → Ahead s (a ∷ b ∷ []) (j + 9)
  unfolding crc
  from_ones h whole =
      let left : 64 - 8 * suc j ≡ 56 - 8 * j = omega arith in
      let behind : j + 1 + 8 ≡ j + 9 = omega arith in
      record {
        within = h;
        whole = whole;
        rest =
            ap (feed_bytes (drop (j + 9) s)) (sym two_words)
            ∙ sym
            (first_bytes s hs ones (suc j) hj (omega arith)
            ∙ ap₂ (λ (i n : ℕ). feed_bytes (drop i s) (feed_bits (8 * suc j) (long_at s 0 / 2 ^ n) ones)) (sym (add-one j)) left
            ∙ long_front s hs (j + 1) (feed_bits (8 * suc j) here ones) (omega arith)
            ∙ ap (λ (i : ℕ). feed_bytes (drop i s) (feed_bits 64 next (feed_bits (8 * suc j) here ones))) behind);
      }

  pub begins : (x y : ℕ) → x ≡ long_at s 0 → y ≡ long_at s (j + 1) → j + 9 ≤ length s → (length s - (j + 9)) % 8 ≡ 0
      → Ahead s (((x ⊕ preset) / 2 ^ (56 - 8 * j)) ∷ (y ⊕ spilt j) ∷ []) (j + 9)
  begins x y ex ey h whole =
      instead (from_ones h whole) (ap₂ (λ (u v : ℕ). feed_words (((u ⊕ preset) / 2 ^ (56 - 8 * j)) ∷ (v ⊕ spilt j) ∷ []) 0) ex ey)
