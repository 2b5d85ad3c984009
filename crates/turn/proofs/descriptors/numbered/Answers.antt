-- `turn::descriptors::numbered` meets its contract.
use Rattle.turn.proofs.LoopLaws.{numbered_done}
use Rattle.turn.proofs.descriptors.numbered.Goals as goal

pub returns : goal.returns
returns c = search numbered_done
