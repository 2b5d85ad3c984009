-- `sheet::judge` meets its contract.
use mathlib.Core.Path.{sym, ◌∙◌}
use borrow.Author.Tests.{eqb-true, eqb-false}
use Rattle.sheet.proofs.JudgeLaws.{judged_empty, judged_unlisted, listed}
use Rattle.sheet.proofs.judge.Goals as goal

pub returns-then-is_empty : goal.returns-then-is_empty
returns-then-is_empty c = sym (judged_empty c.args.sheet.now (eqb-true _ _ (sym c.is_empty.ensures ∙ c.if-is_empty.true)))

pub returns-in_err-table : goal.returns-in_err-table
returns-in_err-table c =
    judged_unlisted c.args.sheet.now c.table_of.result (eqb-false _ _ (sym c.is_empty.ensures ∙ c.if-is_empty.false)) c.table_of.ensures
    c.ok_or.ensures.value c.in_err-table.was _ c.from_residual.ensures.1

pub judge_known-requires : goal.judge_known-requires
judge_known-requires c =
    listed c.args.sheet.now c.table_of.result (eqb-false _ _ (sym c.is_empty.ensures ∙ c.if-is_empty.false)) c.table_of.ensures
    c.ok_or.ensures.value c.in_ok-table.was
