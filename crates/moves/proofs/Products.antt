-- Where no bit is lost, a sum of moves is a product with one number: it moves up with its argument, place by place.
use mathlib.Core.Path.{◌≡◌}
use Prim.Native.Nat.{ℕ, ◌+◌, ◌*◌, ◌^◌, ◌<◌}
use lib.Dec.{eqb, eqb→eq}
use Rattle.moves.specs.Inner.Moves.{rights, lefts, times64, times96, times128, over, under, second, third, fourth, fifth}
use Rattle.moves.proofs.Basis.{passed}

pub times64_at : (i : ℕ) → i < 32 → times64 (2 ^ i) ≡ 0x490D678D * 2 ^ i
unfolding times64 lefts
times64_at i h = eqb→eq _ _ (passed (λ i. eqb (times64 (2 ^ i)) (0x490D678D * 2 ^ i)) 32 tt i h)

pub times96_at : (i : ℕ) → i < 32 → times96 (2 ^ i) ≡ 0xF200AA66 * 2 ^ i
unfolding times96 lefts
times96_at i h = eqb→eq _ _ (passed (λ i. eqb (times96 (2 ^ i)) (0xF200AA66 * 2 ^ i)) 32 tt i h)

pub times128_at : (i : ℕ) → i < 32 → times128 (2 ^ i) ≡ 0xE8A45605 * 2 ^ i
unfolding times128 lefts
times128_at i h = eqb→eq _ _ (passed (λ i. eqb (times128 (2 ^ i)) (0xE8A45605 * 2 ^ i)) 32 tt i h)

-- what a word adds to the two words behind it, as one number
abbrev pub both : ℕ → ℕ
both a = over a * 2 ^ 64 + under a

unfoldable pub far_two : ℕ
far_two = 0x1_0001_0200_0083_0300

pub both_at : (i : ℕ) → i < 64 → both (2 ^ i) ≡ far_two * 2 ^ i
unfolding far_two over under rights lefts
both_at i h = eqb→eq (both (2 ^ i)) (far_two * 2 ^ i) (passed (λ i. eqb (both (2 ^ i)) (far_two * 2 ^ i)) 64 tt i h)

-- what a word adds to the second to the fifth word behind it, as one number
abbrev pub four : ℕ → ℕ
four a = ((second a * 2 ^ 64 + third a) * 2 ^ 64 + fourth a) * 2 ^ 64 + fifth a

unfoldable pub far_five : ℕ
far_five = 2 ^ 175 + 2 ^ 137 + 2 ^ 109 + 2 ^ 20

pub four_at : (i : ℕ) → i < 64 → four (2 ^ i) ≡ far_five * 2 ^ i
unfolding far_five second third fourth fifth
four_at i h = eqb→eq (four (2 ^ i)) (far_five * 2 ^ i) (passed (λ i. eqb (four (2 ^ i)) (far_five * 2 ^ i)) 64 tt i h)
