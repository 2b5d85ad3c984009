-- `turn::counts::descriptors_size` meets its contract.
use native.Mathlib.Omega.{arith}
use Rattle.turn.proofs.CountLaws.{size_begins, size_on, size_ends}
use borrow.Author.Rules.{rules}
use Rattle.turn.proofs.counts.descriptors_size.Goals as goal

pub loop-init : goal.loop-init
loop-init c = search size_begins

pub overflow_add-wide : goal.overflow_add-wide
overflow_add-wide c = omega (arith, c.wide.ensures.small)

pub loop-preserved : goal.loop-preserved
loop-preserved c = search size_on

pub returns : goal.returns
returns c = search (size_ends, rules)
