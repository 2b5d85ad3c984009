-- `turn::whole::write_section` meets its contract.
use mathlib.Core.Path.{subst}
use Rattle.tables.specs.Tables.{place}
use Rattle.turn.specs.Inner.Bodies.{SectionWritten}
use Rattle.turn.proofs.WholeLaws.{table_row, table_none, written_never, section_written}
use Rattle.turn.proofs.whole.write_section.Goals as goal

pub returns-in_default : goal.returns-in_default
returns-in_default c =
    written_never (λ k. (c.type_inv.sheet k).fits)
    (table_none c.table_of.result c.in_default.is c.table_of.ensures c.byte_at-id.ensures)

pub returns : goal.returns
returns c =
    let e = table_row c.table_of.result c.in-Some.is c.table_of.ensures c.byte_at-id.ensures in
    subst (λ k. SectionWritten c.args.sheet.now c.args.n k c.args.room.now c.seal.new.room) e
    (section_written c.args.sheet.now c.args.room.now (λ k. (c.type_inv.sheet k).fits)
    c.well_formed.1.1.0.0 c.args.n (place c.in-Some.table) c.row-row.ensures c.past.ensures
    c.body_end-end.ensures c.byte_at-id.ensures c.begin.ensures c.body_forth.ensures
    c.seal.ensures)
