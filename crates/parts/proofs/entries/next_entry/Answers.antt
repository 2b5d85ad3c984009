-- `parts::entries::next_entry` meets its contract: where the part lies in the section, it ends in it.
use Rattle.tables.proofs.RowLaws.{fixed_two}
use Rattle.parts.proofs.Fronts.{lies}
use Rattle.parts.proofs.entries.next_entry.Goals as goal

pub entry_at-requires : goal.entry_at-requires
entry_at-requires c = (rw c.row_for-row.ensures (fixed_two _), lies _ _ c.is_within.ensures c.if-is_within.true)
