-- `sheet::read::descriptor` meets its contract.
use native.Mathlib.Omega.{arith}
use mathlib.Core.Path.{ap, sym}
use Prim.Native.Nat.{◌+◌}
use Rattle.std.specs.Prelude.{Ok}
use Rattle.sheet.proofs.ReadLaws.{reads_descriptor, early_descriptor, early_body, told_so}
use Rattle.sheet.proofs.read.descriptor.Goals as goal

pub returns-then-left-lt2 : goal.returns-then-left-lt2
returns-then-left-lt2 c =
    let args = c.args in
    early_descriptor args.s.now args.at (omega (arith, c.less-left.ensures))

pub returns-then-left-size : goal.returns-then-left-size
returns-then-left-size c =
    let less = c.less-left in
    let args = c.args in
    early_body args.s.now args.at (omega (arith, less.ensures)) (omega (arith, less.ensures, c.wide-size.ensures))

pub returns : goal.returns
returns c =
    let less = c.less-left in
    let args = c.args in
    told_so (ap (λ k. Ok (args.at + 2 + k)) (sym c.wide-size.ensures.same))
    (reads_descriptor args.s.now args.at (omega (arith, less.ensures, c.wide-size.ensures)))
