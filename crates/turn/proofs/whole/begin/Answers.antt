-- `turn::whole::begin` meets its contract.
use Rattle.turn.proofs.WholeLaws.{begun_is}
use Rattle.turn.proofs.whole.begin.Goals as goal

pub returns : goal.returns
returns c = search begun_is
