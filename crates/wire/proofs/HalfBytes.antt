-- The digits of a number of some bytes are the half bytes of the list in which it stands.
use Prim.Native.Nat.{ℕ, zero, suc, ◌+◌, ◌-◌, ◌*◌, ◌/◌, ◌%◌, ◌^◌, ◌<◌, ◌≤◌}
use mathlib.Core.Path.{◌≡◌, ap, ap₂, ◌∙◌}
use mathlib.Core.List.{List}
use native.Mathlib.Omega.{arith}
use borrow.Author.Tests.{eqb-true, eqb-false}
use lib.Dec.{eqb}
use lib.ListN.{get_or, length}
use lib.Pow.{shr-shr}
use Rattle.wire.specs.Bytes.{Bytes}
use Rattle.wire.specs.Number.{number, bytes_at, number_at, half_byte}
use Rattle.wire.specs.Digits.{digit_from, NoneBad, FirstBad}
use Rattle.wire.proofs.IfLaws.{if-case}
use Rattle.wire.proofs.NumberBits.{bytes_bytes, bytes_length, bits_in_number}

-- a half byte is four bits of its byte
half_bits : (s : List ℕ) → Bytes s → (i : ℕ) → get_or s (i / 2) 0 / 2 ^ (4 * (1 - i % 2)) % 16 ≡ half_byte s i
half_bits s bytes i =
    let b : ℕ = get_or s (i / 2) 0 in
    let low : b < 256 = bytes (i / 2) in
    if-case (λ x. b / 2 ^ (4 * (1 - i % 2)) % 16 ≡ x) (eqb (i % 2) 0)
    (λ h. let e : i % 2 ≡ 0 = eqb-true (i % 2) 0 h in ap (λ m. b / 2 ^ (4 * (1 - m)) % 16) e ∙ omega arith)
    (λ h.
    let n = eqb-false (i % 2) 0 h in
    let e : i % 2 ≡ 1 = omega (arith, n) in
    ap (λ m. b / 2 ^ (4 * (1 - m)) % 16) e ∙ omega arith)

byte_at : (n : ℕ) (s : List ℕ) (at i : ℕ) → i < n → get_or (bytes_at n s at) i 0 ≡ get_or s (at + i) 0
byte_at zero s at i h = absurd (omega arith)
byte_at (suc n) s at zero h = ap (λ m. get_or s m 0) (omega arith)
byte_at (suc n) s at (suc i) h = byte_at n s (at + 1) i (omega arith) ∙ ap (λ m. get_or s m 0) (omega arith)

module _ (s : List ℕ) (bytes : Bytes s) (m at : ℕ) where
  -- of the 2 m digits in m bytes, the one at place j
  half_in_number : (j : ℕ) → j < 2 * m → number_at m s at / 2 ^ (4 * (2 * m - 1 - j)) % 16 ≡ half_byte s (2 * at + j)
  unfolding number_at
  half_in_number j h =
      let t : List ℕ = bytes_at m s at in
      let i : ℕ = j / 2 in
      let k : ℕ = m - i - 1 in
      let r : ℕ = 4 * (1 - j % 2) in
      let l : length t ≡ i + 1 + k = bytes_length m s at ∙ omega arith in
      let e : 4 * (2 * m - 1 - j) ≡ 8 * k + r = omega arith in
      let p : at + i ≡ (2 * at + j) / 2 = omega arith in
      let q : 4 * (1 - j % 2) ≡ 4 * (1 - (2 * at + j) % 2) = omega arith in
      ap (λ y. number t / 2 ^ y % 16) e
      ∙ bits_in_number t (bytes_bytes m s at bytes) 1 i k l r 4 (omega arith)
      ∙ ap (λ y. y / 2 ^ r % 16) (byte_at m s at i (omega arith))
      ∙ ap₂ (λ x y. get_or s x 0 / 2 ^ y % 16) p q
      ∙ half_bits s bytes (2 * at + j)

  -- of the first n of them
  pub half_of : (n j : ℕ) → n ≤ 2 * m → j < n
      → digit_from n (number_at m s at / 2 ^ (4 * (2 * m - n))) j ≡ half_byte s (2 * at + j)
  half_of n j most h =
      let e : 4 * (2 * m - n) + 4 * (n - 1 - j) ≡ 4 * (2 * m - 1 - j) = omega arith in
      ap (λ y. y % 16) (shr-shr (number_at m s at) (4 * (2 * m - n)) (4 * (n - 1 - j)) ∙ ap (λ y. number_at m s at / 2 ^ y) e)
      ∙ half_in_number j (omega arith)

-- digits that are the same are bad in the same place
module _ (f g : ℕ → ℕ) (n : ℕ) (same : (j : ℕ) → j < n → f j ≡ g j) where
  pub none_bad_same : NoneBad f n → NoneBad g n
  none_bad_same h j l = omega (arith, h j l, same j l)

  pub first_bad_same : (j : ℕ) → FirstBad f n j → FirstBad g n j
  first_bad_same j h = record {
    inside = h.inside;
    bad = omega (arith, h.bad, same j h.inside);
    before = λ i l. omega (arith, h.before i l, same i (omega (arith, h.inside)));
  }
