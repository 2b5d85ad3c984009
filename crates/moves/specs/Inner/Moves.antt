-- Sums (xor) of words that are moved up or down. Modulo the polynomial P they are products and remainders, as the head of src/lib.rt says.
use Rattle.std.specs.Prelude.{List, [], ◌∷◌, ℕ, ◌*◌, ◌/◌, ◌%◌, ◌^◌}
use Rattle.std.specs.Int.Bits.{bit_xor}

-- z moved down by each of the places in ks, added (xor) to a
unfoldable pub rights : List ℕ → ℕ → ℕ → ℕ
rights [] a z = a
rights (k ∷ ks) a z = rights ks (bit_xor a (z / 2 ^ k)) z

-- z moved up by each of the places in ks, in a word of n bits, added (xor) to a
unfoldable pub lefts : ℕ → List ℕ → ℕ → ℕ → ℕ
lefts n [] a z = a
lefts n (k ∷ ks) a z = lefts n ks (bit_xor a (z * 2 ^ k % 2 ^ n)) z

-- q times P, without carries: its places are the exponents of 0x04C11DB7
unfoldable pub times_poly : ℕ → ℕ
times_poly q = lefts 32 (1 ∷ 2 ∷ 4 ∷ 5 ∷ 7 ∷ 8 ∷ 10 ∷ 11 ∷ 12 ∷ 16 ∷ 22 ∷ 23 ∷ 26 ∷ []) q q

-- how often P, its 33rd bit with it, goes into z * 2 ^ 32, without carries
unfoldable pub quotient_of : ℕ → ℕ
quotient_of z = rights (6 ∷ 9 ∷ 10 ∷ 12 ∷ 16 ∷ 24 ∷ 25 ∷ 26 ∷ 28 ∷ 29 ∷ 30 ∷ 31 ∷ []) z z

-- z times what x ^ 64, x ^ 96 and x ^ 128 leave over P: the places are the exponents of 0x490D678D, 0xF200AA66 and 0xE8A45605
unfoldable pub times64 : ℕ → ℕ
times64 z = lefts 64 (2 ∷ 3 ∷ 7 ∷ 8 ∷ 9 ∷ 10 ∷ 13 ∷ 14 ∷ 16 ∷ 18 ∷ 19 ∷ 24 ∷ 27 ∷ 30 ∷ []) z z

unfoldable pub times96 : ℕ → ℕ
times96 z = lefts 64 (2 ∷ 5 ∷ 6 ∷ 9 ∷ 11 ∷ 13 ∷ 15 ∷ 25 ∷ 28 ∷ 29 ∷ 30 ∷ 31 ∷ []) (z * 2 ^ 1 % 2 ^ 64) z

unfoldable pub times128 : ℕ → ℕ
times128 z = lefts 64 (2 ∷ 9 ∷ 10 ∷ 12 ∷ 14 ∷ 18 ∷ 21 ∷ 23 ∷ 27 ∷ 29 ∷ 30 ∷ 31 ∷ []) z z

-- x ^ 128 = x ^ 64 + x ^ 48 + x ^ 41 + x ^ 23 + x ^ 17 + x ^ 16 + x ^ 9 + x ^ 8: what a word adds to the word after it, and to the next
unfoldable pub over : ℕ → ℕ
over a = rights (16 ∷ 23 ∷ 41 ∷ 47 ∷ 48 ∷ 55 ∷ 56 ∷ []) a a

unfoldable pub under : ℕ → ℕ
under a = lefts 64 (9 ∷ 16 ∷ 17 ∷ 23 ∷ 41 ∷ 48 ∷ []) (a * 2 ^ 8 % 2 ^ 64) a

-- x ^ 320 = x ^ 175 + x ^ 137 + x ^ 109 + x ^ 20: what a word adds to the second, third, fourth and fifth word after it
unfoldable pub second : ℕ → ℕ
second a = bit_xor (a / 2 ^ 17) (a / 2 ^ 55)

unfoldable pub third : ℕ → ℕ
third a = bit_xor (bit_xor (a * 2 ^ 47 % 2 ^ 64) (a * 2 ^ 9 % 2 ^ 64)) (a / 2 ^ 19)

unfoldable pub fourth : ℕ → ℕ
fourth a = bit_xor (a * 2 ^ 45 % 2 ^ 64) (a / 2 ^ 44)

unfoldable pub fifth : ℕ → ℕ
fifth a = a * 2 ^ 20 % 2 ^ 64

-- the word m with what the words that left five, four, three and two before it add to it
unfoldable pub added : ℕ → ℕ → ℕ → ℕ → ℕ → ℕ
added m p q r t = bit_xor (bit_xor (bit_xor (bit_xor m (fifth p)) (fourth q)) (third r)) (second t)
