-- `turn::pieces::plain` meets its contract.
use native.Mathlib.Omega.{arith}
use Rattle.copy.proofs.Copies.{copies_fits}
use Rattle.turn.proofs.PieceLaws.{turned_raw, raw_not_there}
use Rattle.turn.proofs.pieces.plain.Goals as goal

pub overflow_add-result : goal.overflow_add-result
overflow_add-result c =
    let a = c.args in
    let fits = copies_fits a.s.now a.p.at a.n a.room.now a.p.to c.copy_few.ensures.0 c.if-copy_few.true in
    omega (arith, fits, c.well_formed.0.0)

pub overflow_add-result-then-copy_few : goal.overflow_add-result-then-copy_few
overflow_add-result-then-copy_few c =
    let a = c.args in
    let fits = copies_fits a.s.now a.p.at a.n a.room.now a.p.to c.copy_few.ensures.0 c.if-copy_few.true in
    omega (arith, fits, c.well_formed.1.1.1.0.0)

pub returns-then-copy_few : goal.returns-then-copy_few
returns-then-copy_few c = search turned_raw

pub returns : goal.returns
returns c = search raw_not_there
