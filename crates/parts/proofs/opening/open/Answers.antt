-- `parts::opening::open` meets its contract: a row has few bytes before its first loop or entry.
use Rattle.parts.proofs.Fronts.{before_small}
use Rattle.parts.proofs.opening.open.Goals as goal

pub top_of-requires : goal.top_of-requires
top_of-requires c = rw c.row_for-row.ensures (before_small _)

pub entries_of-requires : goal.entries_of-requires
entries_of-requires c = rw c.row_for-row.ensures (before_small _)
