-- `write_lists::service_list::write` meets its contract: what it writes is that kind's list.
use Rattle.write_lists.specs.ServiceList.{service_list_written}
use Rattle.write_lists.specs.Inner.Kinds.{list_written}
use Rattle.write_lists.proofs.service_list.write.Goals as goal

pub returns : goal.returns
unfolding service_list_written list_written
returns c = search
