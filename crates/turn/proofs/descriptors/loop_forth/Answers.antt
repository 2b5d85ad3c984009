-- `turn::descriptors::loop_forth` meets its contract.
use Rattle.turn.proofs.LoopLaws.{loop-forth}
use Rattle.turn.proofs.descriptors.loop_forth.Goals as goal

pub returns : goal.returns
returns c = search loop-forth
