-- A word comes behind the two, and the first of the three leaves; in the end none is left.
use mathlib.Core.Path.{◌∙◌}
use native.Mathlib.Omega.{arith}
use Rattle.wire.specs.Bytes.{Bytes}
use Rattle.crc.proofs.Ahead.{one_more, two_move, ends}
use Rattle.crc.proofs.two.crc_by_two.Goals as goal
use Rattle.crc.proofs.two.crc_by_two.Goals.{else-loop-i-test, then-loop-i-test+else-i-end-i-gt8}

pub long-requires : goal.long-requires
long-requires c = one_more c.loop-i.invariant c.loop-i-test.true

pub loop-i-preserved : goal.loop-i-preserved
loop-i-preserved c = two_move (λ j. (c.type_inv.s j).fits) c.loop-i.invariant c.loop-i-test.true c.long.ensures c.leave-v.ensures

pub returns : goal.returns
returns c =
    let l = c.loop-i in
    let bytes : Bytes c.args.s.now = λ j. (c.type_inv.s j).fits in
    c.last_two.ensures
    ∙ elim c.loop-i-test.branch [
      | else-loop-i-test w ↦ rw w.v-is (ends _ l.i l.invariant w.loop-i-test.false)
      | then-loop-i-test+else-i-end-i-gt8 w ↦
          rw w.v-is
          (ends _ _ (two_move bytes l.invariant w.loop-i-test.true w.long.ensures w.leave-v.ensures) (omega arith))
    ]
