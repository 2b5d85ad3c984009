-- The next five words come, and the five of the window leave.
use native.Mathlib.Omega.{arith}
use Rattle.crc.proofs.Ahead.{five_turn}
use Rattle.crc.proofs.five.turn.Goals as goal

pub returns : goal.returns
returns c =
    let v = c.args.v in
    let f = c.fronts-f.result in
    let n = c.five_at-n.result in
    let behind = c.five_at-n.ensures.behind in (
      five_turn (λ j. (c.type_inv.s j).fits) v.a v.b v.c v.d v.e f.a f.b f.c f.d f.e n.a n.b n.c n.d n.e
          c.added.result c.added-2.result c.added-3.result c.added-4.result c.added-5.result v.at n.at c.requires.0
          (omega (arith, behind, c.requires.1)) (omega arith) (omega arith) (omega arith) (omega arith) (omega arith)
          c.fronts-f.ensures c.five_at-n.ensures c.added.ensures c.added-2.ensures c.added-3.ensures c.added-4.ensures c.added-5.ensures,
      behind,
    )
