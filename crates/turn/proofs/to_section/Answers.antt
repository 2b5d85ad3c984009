-- `turn::to_section` meets its contract.
use mathlib.Core.Path.{sym, ap, ◌∙◌}
use lib.ListN.{length}
use Rattle.sheet.specs.Reads.{told}
use Rattle.turn.specs.Turn.{wrote, answer, roomAfter}
use Rattle.turn.proofs.WholeLaws.{told_refusal, section_told, section_no_room, section_made}
use Rattle.turn.proofs.to_section.Goals as goal

pub returns-then-room-lt4096 : goal.returns-then-room-lt4096
returns-then-room-lt4096 c = search (told_refusal, section_no_room)

pub returns-in_err-n : goal.returns-in_err-n
returns-in_err-n c =
    section_told c.args.sheet.now c.args.room.now c.if-room-lt4096.false c.judge.ensures c.in_err-n.was _ c.from_residual.ensures.1

pub returns : goal.returns
returns c =
    let o = c.args.room.now in
    let m = section_made (length o) c.args.sheet.now _ (λ k. (c.type_inv.sheet k).fits)
    c.if-room-lt4096.false (sym c.judge.ensures ∙ ap told c.in_ok-n.was) in (
      ap wrote (c.past.ensures ∙ m.bytes) ∙ ap answer (sym m.gives),
      c.write_section.ensures.written m.content m.reads m.length_is m.row c.if-room-lt4096.false
          ∙ ap (roomAfter o) (sym m.gives),
    )
