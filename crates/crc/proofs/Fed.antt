-- Bits that go into the register take sums to sums, whatever function of a word they are.
use mathlib.Core.Path.{ap, ◌∙◌}
use Prim.Native.Nat.{ℕ}
use lib.Dec.{lit<}
use Rattle.crc.specs.Crc.{feed_bits}
use Rattle.moves.proofs.Basis.{Additive}
use Rattle.crc.proofs.Linear.{linear, bits_lt, zeros_sum}

module _ {m : ℕ} {f : ℕ → ℕ} (hf : Additive m f) where
  -- n bits from zero
  pub fed_of : (n : ℕ) → Additive m (λ v. feed_bits n (f v) 0)
  fed_of n = record {
    sums = λ a b ha hb. ap (λ (v : ℕ). feed_bits n v 0) (hf.sums a b ha hb)
        ∙ linear n (f a) (f b) 0 0 (lit< tt) (lit< tt);
  }

  -- n bits from zero, and then k zeros
  pub zeros_of : (n k : ℕ) → Additive m (λ v. feed_bits k 0 (feed_bits n (f v) 0))
  zeros_of n k =
      record {
        sums = λ a b ha hb.
            ap (feed_bits k 0) ((fed_of n).sums a b ha hb)
            ∙ zeros_sum k (feed_bits n (f a) 0) (feed_bits n (f b) 0) (bits_lt n (f a) 0 (lit< tt)) (bits_lt n (f b) 0 (lit< tt));
      }
