-- `write_lists::content::write` meets its contract: what it writes is that kind's list.
use Rattle.write_lists.specs.Content.{content_written}
use Rattle.write_lists.specs.Inner.Kinds.{list_written}
use Rattle.write_lists.proofs.content.write.Goals as goal

pub returns : goal.returns
unfolding content_written list_written
returns c = search
