-- `write_lists::parental_rating::write` meets its contract: what it writes is that kind's list.
use Rattle.write_lists.specs.ParentalRating.{parental_rating_written}
use Rattle.write_lists.specs.Inner.Kinds.{list_written}
use Rattle.write_lists.proofs.parental_rating.write.Goals as goal

pub returns : goal.returns
unfolding parental_rating_written list_written
returns c = search
