-- `turn::heads::head` meets its contract.
use Prim.Native.Nat.{ℕ}
use Rattle.tables.specs.Tables.{place}
use Rattle.tables.proofs.RowLaws.{numbered_below, unnumbered_from}
use Rattle.sheet.specs.Content.{plain}
use Rattle.sheet.proofs.Shapes.{place_known}
use Rattle.turn.proofs.HeadLaws.{common_items, time_items, last_item, plain_item, as_items}
use Rattle.turn.proofs.heads.head.Goals as goal

pub returns-then-is_numbered : goal.returns-then-is_numbered
returns-then-is_numbered c =
    let row : ℕ = place c.args.table in
    as_items c.args.forth (common_items row (numbered_below row c.is_numbered.ensures c.if-is_numbered.true)) c.common.ensures

pub returns : goal.returns
returns c =
    let forth = c.args.forth in
    let row : ℕ = place c.args.table in
    as_items forth (time_items row (place_known c.args.table) (unnumbered_from row c.is_numbered.ensures c.if-is_numbered.false))
    (last_item forth (plain 5) (plain_item forth 5 c.plain.ensures))
