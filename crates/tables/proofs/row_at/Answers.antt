-- `tables::row_at` meets its contract: a place past the last is that of no table.
use mathlib.Core.Path.{◌∙◌, ap}
use Rattle.tables.specs.Tables.{row_at}
use Rattle.tables.proofs.RowLaws.{row_at_known}
use Rattle.tables.proofs.row_at.Goals as goal

pub returns : goal.returns
returns c = c.row_for.ensures ∙ ap row_at c.at.ensures ∙ row_at_known c.args.i
