-- `sheet::read::top_loop` meets its contract.
use Rattle.tables.specs.Tables.{place}
use Rattle.sheet.proofs.ReadLaws.{top_there, top_none}
use Rattle.sheet.proofs.read.top_loop.Goals as goal

pub returns-then-has_top : goal.returns-then-has_top
returns-then-has_top c = top_there (place c.args.table) c.has_top.ensures c.if-has_top.true c.descriptors.ensures

pub returns : goal.returns
returns c = top_none (place c.args.table) c.has_top.ensures c.if-has_top.false
