-- `turn::descriptors::loop_back` meets its contract.
use Rattle.turn.proofs.LoopLaws.{loop-back}
use Rattle.turn.proofs.descriptors.loop_back.Goals as goal

pub returns : goal.returns
returns c = search loop-back
