-- `tables::table_of` meets its contract: the place of a table_id is that of a table, or the one past the last.
use mathlib.Core.Path.{◌∙◌}
use Rattle.std.proofs.Math.Nat.{min-eq_left}
use Rattle.tables.proofs.RowLaws.{row_within}
use Rattle.tables.proofs.table_of.Goals as goal

pub returns : goal.returns
returns c = c.at.ensures ∙ rw c.row_of.ensures (min-eq_left (row_within c.args.table_id))
