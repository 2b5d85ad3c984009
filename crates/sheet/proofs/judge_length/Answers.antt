-- `sheet::judge_length` meets its contract.
use native.Mathlib.Omega.{arith}
use borrow.Author.Tests.{lt-ltb, le-ltb}
use Rattle.sheet.specs.Inner.Lengths.{judged_length}
use Rattle.sheet.proofs.judge_length.Goals as goal

pub returns-then-most-n : goal.returns-then-most-n
unfolding judged_length
returns-then-most-n c = rw (lt-ltb c.args.most c.args.n c.if-most-n.true)

pub returns : goal.returns
unfolding judged_length
returns c = rw (le-ltb c.args.most c.args.n (omega (arith, c.if-most-n)))
