-- `sheet::read::descriptors` meets its contract.
use native.Mathlib.Omega.{arith}
use Rattle.sheet.specs.Sheet.{descriptor}
use Rattle.sheet.proofs.ReadLaws.{follows_counted, follows_early}
use Rattle.sheet.proofs.read.descriptors.Goals as goal

pub returns-then-less-lt2 : goal.returns-then-less-lt2
returns-then-less-lt2 c =
    let args = c.args in
    follows_early descriptor args.s.now args.at (omega (arith, c.less.ensures))

pub returns : goal.returns
returns c =
    let less = c.less in
    let args = c.args in
    follows_counted descriptor args.s.now args.at (omega (arith, less.ensures))
    c.number16_at-count.ensures c.descriptors_times.ensures
