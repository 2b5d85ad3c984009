-- `turn::entries::entries_forth` meets its contract.
use Rattle.turn.proofs.EntriesLaws.{entries_forth}
use Rattle.turn.proofs.entries.entries_forth.Goals as goal

pub returns : goal.returns
returns c = search entries_forth
