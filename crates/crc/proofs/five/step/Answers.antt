-- The next word comes, and the front leaves.
use mathlib.Core.Path.{refl}
use native.Mathlib.Omega.{arith}
use Rattle.crc.proofs.Ahead.{five_move}
use Rattle.crc.proofs.five.step.Goals as goal

pub returns : goal.returns
returns c =
    let v = c.args.v in (
      five_move (λ j. (c.type_inv.s j).fits) v.a v.b v.c v.d v.e c.long.result c.added.result
          c.added-2.result c.added-3.result c.added-4.result v.at c.requires.0 (omega arith) c.requires.1
          c.long.ensures c.added.ensures c.added-2.ensures c.added-3.ensures c.added-4.ensures,
      refl,
    )
