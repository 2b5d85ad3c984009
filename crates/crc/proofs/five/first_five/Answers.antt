-- Three words come behind the first two.
use native.Mathlib.Omega.{arith}
use Rattle.crc.proofs.Ahead.{three_come}
use Rattle.crc.proofs.five.first_five.Goals as goal

pub returns : goal.returns
returns c =
    let v = c.first_two-at.result in
    let k = c.first_two-at.ensures in
    three_come (λ j. (c.type_inv.s j).fits) v.0.a v.0.b c.long.result c.long-2.result c.long-3.result v.1 k.0
    (omega (arith, k.0.whole)) c.long.ensures c.long-2.ensures c.long-3.ensures
