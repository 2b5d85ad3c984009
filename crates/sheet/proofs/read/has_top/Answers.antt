-- `sheet::read::has_top` meets its contract.
use mathlib.Core.Path.{ap, ◌∙◌}
use lib.Dec.{eqb}
use Rattle.tables.specs.Tables.{place}
use Rattle.sheet.proofs.Shapes.{has_top_lem}
use Rattle.sheet.proofs.read.has_top.Goals as goal

pub returns : goal.returns
returns c = ap (λ r. eqb r.top 1) c.row.ensures ∙ has_top_lem (place c.args.table)
