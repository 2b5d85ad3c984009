-- `sheet::read::section_numbers` meets its contract.
use native.Mathlib.Omega.{arith}
use Rattle.sheet.proofs.ReadLaws.{reads_numbers, wide_numbers, early_numbers}
use Rattle.sheet.proofs.read.section_numbers.Goals as goal

pub returns-then-less-lt2 : goal.returns-then-less-lt2
returns-then-less-lt2 c =
    let args = c.args in
    early_numbers args.s.now args.at (omega (arith, c.less.ensures))

pub returns-then-last-first : goal.returns-then-last-first
returns-then-last-first c =
    let less = c.less in
    let args = c.args in
    wide_numbers args.s.now args.at (omega (arith, less.ensures)) c.if-last-first.true

pub returns : goal.returns
returns c =
    let less = c.less in
    let args = c.args in
    reads_numbers args.s.now args.at (omega (arith, less.ensures)) (omega (arith, c.if-last-first))
