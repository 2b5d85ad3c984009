-- `section::judge::judge` meets its contract: where the table is known, header and inside decide by its row.
use mathlib.Core.Path.{◌≡◌, sym, subst, ap, ◌∙◌}
use native.Mathlib.Omega.{arith}
use lib.ListN.{get_or}
use Rattle.tables.proofs.RowLaws.{fixed_two, place_known}
use Rattle.tables.specs.declared.Row.{Row}
use Rattle.tables.specs.Tables.{FixedTwo, place, place_or_unknown, row_of, row_at}
use Rattle.section.proofs.Readings.{opening_known, judged_inside}
use Rattle.section.proofs.judge.judge.Goals as goal

pub judge_inside-requires : goal.judge_inside-requires
judge_inside-requires c = subst (λ (r : Row). FixedTwo r.fixed) (sym c.row-row.ensures) (fixed_two _)

pub returns : goal.returns
returns c =
    let s = c.args.section.now in
    let known : place c.in_ok-table.table ≡ row_of (get_or s 0 0) =
    ap place_or_unknown (sym c.in_ok-table.ensures.ok_part) ∙ c.table_of.ensures in
    let opened = opening_known s c.if-section-lt3.false (omega (arith, place_known c.in_ok-table.table)) in
    c.judge_inside.ensures
    ∙ sym
    (judged_inside s _ _ (c.row-row.ensures ∙ ap row_at known) c.before_crc.ensures opened (sym c.in_ok-judge_header.ensures))
