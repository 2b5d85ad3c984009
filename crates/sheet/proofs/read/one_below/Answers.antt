-- `sheet::read::one_below` meets its contract.
use native.Mathlib.Omega.{arith}
use Rattle.sheet.proofs.ReadLaws.{reads_below, wide_below, early_below}
use Rattle.sheet.proofs.read.one_below.Goals as goal

pub returns-then-s-at : goal.returns-then-s-at
returns-then-s-at c = early_below c.args.s.now c.args.at c.args.n c.if-s-at.true

pub returns-then-n-s : goal.returns-then-n-s
returns-then-n-s c =
    let args = c.args in
    wide_below args.s.now args.at args.n (omega (arith, c.if-s-at)) c.if-n-s.true

pub returns : goal.returns
returns c =
    let args = c.args in
    reads_below args.s.now args.at args.n (omega (arith, c.if-s-at)) (omega (arith, c.if-n-s))
