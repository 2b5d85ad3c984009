-- `sheet::read::plain` meets its contract.
use native.Mathlib.Omega.{arith}
use Rattle.sheet.proofs.ReadLaws.{reads_raw, early_raw}
use Rattle.sheet.proofs.read.plain.Goals as goal

pub returns-then-less-n : goal.returns-then-less-n
returns-then-less-n c =
    let args = c.args in
    early_raw args.s.now args.at args.n (omega (arith, c.less.ensures))

pub returns : goal.returns
returns c =
    let args = c.args in
    reads_raw args.s.now args.at args.n (omega (arith, c.less.ensures))
