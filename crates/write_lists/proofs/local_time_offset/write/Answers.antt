-- `write_lists::local_time_offset::write` meets its contract: what it writes is that kind's list.
use Rattle.write_lists.specs.LocalTimeOffset.{local_time_offset_written}
use Rattle.write_lists.specs.Inner.Kinds.{list_written}
use Rattle.write_lists.proofs.local_time_offset.write.Goals as goal

pub returns : goal.returns
unfolding local_time_offset_written list_written
returns c = search
