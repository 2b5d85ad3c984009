-- `turn::entries::entries_back` meets its contract.
use Rattle.turn.proofs.EntriesLaws.{entries_back}
use Rattle.turn.proofs.entries.entries_back.Goals as goal

pub returns : goal.returns
returns c = search entries_back
