-- `sheet::judge_known` meets its contract.
use mathlib.Core.Path.{sym, ap, ap₂, ◌∙◌}
use Rattle.sheet.specs.Inner.Lengths.{judged_length}
use Rattle.sheet.proofs.JudgeLaws.{judged_refused, judged_after, judged_whole}
use Rattle.sheet.proofs.judge_known.Goals as goal

pub returns-in_err-end : goal.returns-in_err-end
returns-in_err-end c =
    judged_refused c.args.table c.args.sheet.now c.requires c.in_err-end.was c.behind_id.ensures _ c.from_residual.ensures.1

pub returns-then-end-sheet : goal.returns-then-end-sheet
returns-then-end-sheet c =
    sym (judged_after c.args.table c.args.sheet.now c.requires c.in_ok-end.was c.behind_id.ensures c.if-end-sheet.true)

pub returns : goal.returns
returns c =
    c.judge_length.ensures
    ∙ ap₂ judged_length (ap (λ r. r.most) c.row.ensures) c.section_length.ensures
    ∙ sym (judged_whole c.args.table c.args.sheet.now c.requires (λ k. (c.type_inv.sheet k).fits) c.in_ok-end.was
    c.behind_id.ensures c.if-end-sheet.false)
