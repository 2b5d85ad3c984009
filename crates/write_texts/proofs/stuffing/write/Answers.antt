-- `write_texts::stuffing::write` meets its contract.
use Rattle.write_texts.specs.Stuffing.{stuffing_written}
use Rattle.write_texts.proofs.stuffing.write.Goals as goal

pub returns : goal.returns
unfolding stuffing_written
returns c = c.write.ensures
