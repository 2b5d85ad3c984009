-- `sheet::read::side` meets its contract.
use Rattle.tables.specs.Tables.{place}
use Rattle.sheet.proofs.ReadLaws.{side_bare, side_status}
use Rattle.sheet.proofs.read.side.Goals as goal

pub returns-then-has_top : goal.returns-then-has_top
returns-then-has_top c = side_bare (place c.args.table) c.has_top.ensures c.if-has_top.true

pub returns : goal.returns
returns c = side_status (place c.args.table) c.has_top.ensures _ c.if-has_top.false c.two_below.ensures
