-- `turn::whole::write_sheet` meets its contract.
use mathlib.Core.Path.{subst}
use Rattle.tables.specs.Tables.{place}
use Rattle.turn.specs.Inner.Bodies.{SheetWritten}
use Rattle.turn.proofs.WholeLaws.{table_row, table_none, sheet_never, sheet_written}
use Rattle.turn.proofs.whole.write_sheet.Goals as goal

pub returns-in_default : goal.returns-in_default
returns-in_default c =
    sheet_never (λ k. (c.type_inv.section k).fits)
    (table_none c.table_of.result c.in_default.is c.table_of.ensures c.byte_at-id.ensures)

pub returns : goal.returns
returns c =
    let e = table_row c.table_of.result c.in-Some.is c.table_of.ensures c.byte_at-id.ensures in
    subst (λ k. SheetWritten c.args.section.now k c.args.room.now c.body_back-q.result.to c.body_back-q.new.room) e
    (sheet_written (λ k. (c.type_inv.section k).fits) (place c.in-Some.table) c.row-row.ensures
    c.body_end-end.ensures c.byte_at-id.ensures c.put_byte.ensures c.body_back-q.ensures)
