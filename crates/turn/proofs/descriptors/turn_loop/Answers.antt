-- `turn::descriptors::turn_loop` meets its contract.
use Rattle.turn.proofs.PieceLaws.{loop-as}
use Rattle.turn.proofs.descriptors.turn_loop.Goals as goal

pub returns-then-forth : goal.returns-then-forth
returns-then-forth c = search loop-as

pub returns : goal.returns
returns c = search loop-as
