-- `turn::to_sheet` meets its contract.
use mathlib.Core.Path.{sym, ap, ◌∙◌}
use lib.ListN.{length}
use Rattle.verdict.specs.Verdict.{told}
use Rattle.turn.specs.Turn.{wrote, answer, roomAfter}
use Rattle.turn.proofs.WholeLaws.{told_refusal, sheet_no_room, sheet_refused, sheet_made}
use Rattle.turn.proofs.to_sheet.Goals as goal

pub returns-then-room-lt5120 : goal.returns-then-room-lt5120
returns-then-room-lt5120 c = search (told_refusal, sheet_no_room)

pub returns-in_err-judge : goal.returns-in_err-judge
returns-in_err-judge c =
    sheet_refused c.args.section.now c.args.room.now c.if-room-lt5120.false c.judge.ensures c.in_err-judge.was _
    c.from_residual.ensures.1

pub returns : goal.returns
returns c =
    let o = c.args.room.now in
    let a = sym c.judge.ensures ∙ ap told c.in_ok-judge.was in
    let m = sheet_made (length o) c.args.section.now (λ k. (c.type_inv.section k).fits) c.if-room-lt5120.false a in
    let x = c.write_sheet.ensures.written m.content a m.reads m.row c.if-room-lt5120.false in
    (ap wrote x.1 ∙ ap answer (sym m.gives), x.0 ∙ ap (roomAfter o) (sym m.gives))
