-- The law of the front, for the number of bytes that make whole words of the rest.
use Prim.Native.Nat.{◌-◌, ◌%◌}
use native.Mathlib.Omega.{arith}
use lib.ListN.{length}
use Rattle.crc.proofs.Head.{begins}
use Rattle.crc.proofs.words.first_two.Goals as goal

pub returns : goal.returns
returns c =
    let s = c.args.s.now in (
      begins s (λ j. (c.type_inv.s j).fits) ((length s - 1) % 8) (omega arith) c.long.result c.long-2.result
          c.long.ensures c.long-2.ensures (omega arith) (omega arith),
      omega arith,
    )
