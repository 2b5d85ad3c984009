-- `write_texts::network_name::write` meets its contract.
use Rattle.write_texts.specs.NetworkName.{network_name_written}
use Rattle.write_texts.proofs.network_name.write.Goals as goal

pub returns : goal.returns
unfolding network_name_written
returns c = c.write.ensures
