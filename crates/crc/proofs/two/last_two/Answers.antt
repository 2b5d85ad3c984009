-- The products and the one division are the law of the last two words.
use native.Mathlib.Nat.{mod-lt}
use lib.Pow.{pow_pos, shr_lt}
use lib.Bits.{xor_lt}
use Rattle.crc.proofs.Ending.{last_two}
use Rattle.crc.proofs.two.last_two.Goals as goal

pub overflow_cast-l : goal.overflow_cast-l
overflow_cast-l c = record {
  fits = shr_lt 32 32
      (xor_lt 64 _ _ (xor_lt 64 _ _ (xor_lt 64 _ _ c.times_128.type_inv c.times_96.type_inv) c.times_64.type_inv)
      (mod-lt _ (pow_pos 64)));
}

pub returns : goal.returns
returns c =
    rw (c.times_poly.ensures, c.quotient.ensures, c.times_64.ensures, c.times_96.ensures, c.times_128.ensures)
    (last_two c.args.d c.args.e c.ranges.d.fits c.ranges.e.fits)
