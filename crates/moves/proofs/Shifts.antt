-- Sums of moved words take sums to sums, and so do such sums of one another.
use mathlib.Core.Path.{◌≡◌, refl, ap, ap₂, ◌∙◌}
use mathlib.Core.List.{List, [], ◌∷◌}
use Prim.Native.Nat.{ℕ, ◌*◌, ◌/◌, ◌%◌, ◌^◌, ◌<◌}
use native.Mathlib.Nat.{mod-lt}
use lib.Pow.{pow_pos}
use lib.Bits.{bit_xor, xor_shr, xor_mod, xor_lt}
use Rattle.moves.specs.Inner.Moves.{rights, lefts, times_poly, quotient_of, times64, times96, times128, over, under, second, third, fourth, fifth}
use Rattle.moves.proofs.Xor.{◌⊕◌, xor4, xor_shl}
use Rattle.moves.proofs.Basis.{Additive}

rights_linear : (ks : List ℕ) (a b z y : ℕ) → rights ks (a ⊕ b) (z ⊕ y) ≡ rights ks a z ⊕ rights ks b y
unfolding rights
rights_linear [] a b z y = refl
rights_linear (k ∷ ks) a b z y =
    ap (λ (v : ℕ). rights ks v (z ⊕ y)) (ap (λ (v : ℕ). a ⊕ b ⊕ v) (xor_shr z y k) ∙ xor4 a b (z / 2 ^ k) (y / 2 ^ k))
    ∙ rights_linear ks (a ⊕ (z / 2 ^ k)) (b ⊕ (y / 2 ^ k)) z y

up_linear : (n k z y : ℕ) → (z ⊕ y) * 2 ^ k % 2 ^ n ≡ (z * 2 ^ k % 2 ^ n) ⊕ (y * 2 ^ k % 2 ^ n)
up_linear n k z y = ap (λ (v : ℕ). v % 2 ^ n) (xor_shl z y k) ∙ xor_mod (z * 2 ^ k) (y * 2 ^ k) n

lefts_linear : (n : ℕ) (ks : List ℕ) (a b z y : ℕ) → lefts n ks (a ⊕ b) (z ⊕ y) ≡ lefts n ks a z ⊕ lefts n ks b y
unfolding lefts
lefts_linear n [] a b z y = refl
lefts_linear n (k ∷ ks) a b z y =
    ap (λ (v : ℕ). lefts n ks v (z ⊕ y))
    (ap (λ (v : ℕ). a ⊕ b ⊕ v) (up_linear n k z y) ∙ xor4 a b (z * 2 ^ k % 2 ^ n) (y * 2 ^ k % 2 ^ n))
    ∙ lefts_linear n ks (a ⊕ (z * 2 ^ k % 2 ^ n)) (b ⊕ (y * 2 ^ k % 2 ^ n)) z y

pub lefts_lt : (n : ℕ) (ks : List ℕ) (a z : ℕ) → a < 2 ^ n → lefts n ks a z < 2 ^ n
unfolding lefts
lefts_lt n [] a z h = h
lefts_lt n (k ∷ ks) a z h = lefts_lt n ks (a ⊕ (z * 2 ^ k % 2 ^ n)) z (xor_lt n a (z * 2 ^ k % 2 ^ n) h (mod-lt (z * 2 ^ k) (pow_pos n)))

pub itself : {m : ℕ} → Additive m (λ v. v)
itself = record { sums = λ a b ha hb. refl }

module _ {m : ℕ} {f : ℕ → ℕ} (hf : Additive m f) where
  pub down_of : (k : ℕ) → Additive m (λ v. f v / 2 ^ k)
  down_of k = record { sums = λ a b ha hb. ap (λ (v : ℕ). v / 2 ^ k) (hf.sums a b ha hb) ∙ xor_shr (f a) (f b) k }

  pub up_of : (n k : ℕ) → Additive m (λ v. f v * 2 ^ k % 2 ^ n)
  up_of n k = record { sums = λ a b ha hb. ap (λ (v : ℕ). v * 2 ^ k % 2 ^ n) (hf.sums a b ha hb) ∙ up_linear n k (f a) (f b) }

  pub low_of : (n : ℕ) → Additive m (λ v. f v % 2 ^ n)
  low_of n = record { sums = λ a b ha hb. ap (λ (v : ℕ). v % 2 ^ n) (hf.sums a b ha hb) ∙ xor_mod (f a) (f b) n }

  module _ {g : ℕ → ℕ} (hg : Additive m g) where
    pub sum_of : Additive m (λ v. f v ⊕ g v)
    sum_of = record { sums = λ a b ha hb. ap₂ bit_xor (hf.sums a b ha hb) (hg.sums a b ha hb) ∙ xor4 (f a) (f b) (g a) (g b) }

    pub rights_of : (ks : List ℕ) → Additive m (λ v. rights ks (f v) (g v))
    rights_of ks = record {
      sums = λ a b ha hb. ap₂ (rights ks) (hf.sums a b ha hb) (hg.sums a b ha hb)
          ∙ rights_linear ks (f a) (f b) (g a) (g b);
    }

    pub lefts_of : (n : ℕ) (ks : List ℕ) → Additive m (λ v. lefts n ks (f v) (g v))
    lefts_of n ks = record {
      sums = λ a b ha hb. ap₂ (lefts n ks) (hf.sums a b ha hb) (hg.sums a b ha hb)
          ∙ lefts_linear n ks (f a) (f b) (g a) (g b);
    }

-- each sum of moves that has a name
module _ {m : ℕ} {f : ℕ → ℕ} (hf : Additive m f) where
  pub times_of : Additive m (λ v. times_poly (f v))
  unfolding times_poly
  times_of = lefts_of hf hf 32 _

  pub quotient-of : Additive m (λ v. quotient_of (f v))
  unfolding quotient_of
  quotient-of = rights_of hf hf _

  pub times64_of : Additive m (λ v. times64 (f v))
  unfolding times64
  times64_of = lefts_of hf hf 64 _

  pub times96_of : Additive m (λ v. times96 (f v))
  unfolding times96
  times96_of = lefts_of (up_of hf 64 1) hf 64 _

  pub times128_of : Additive m (λ v. times128 (f v))
  unfolding times128
  times128_of = lefts_of hf hf 64 _

  pub over_of : Additive m (λ v. over (f v))
  unfolding over
  over_of = rights_of hf hf _

  pub under_of : Additive m (λ v. under (f v))
  unfolding under
  under_of = lefts_of (up_of hf 64 8) hf 64 _

  pub second_of : Additive m (λ v. second (f v))
  unfolding second
  second_of = sum_of (down_of hf 17) (down_of hf 55)

  pub third_of : Additive m (λ v. third (f v))
  unfolding third
  third_of = sum_of (sum_of (up_of hf 64 47) (up_of hf 64 9)) (down_of hf 19)

  pub fourth_of : Additive m (λ v. fourth (f v))
  unfolding fourth
  fourth_of = sum_of (up_of hf 64 45) (down_of hf 44)

  pub fifth_of : Additive m (λ v. fifth (f v))
  unfolding fifth
  fifth_of = up_of hf 64 20
