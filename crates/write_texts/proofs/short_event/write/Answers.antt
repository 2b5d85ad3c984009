-- `write_texts::short_event::write` meets its contract.
use native.Mathlib.Omega.{arith}
use Rattle.writing.proofs.Answers.{room_refused, field-outside}
use Rattle.write_texts.specs.ShortEvent.{short_event_written}
use Rattle.write_texts.proofs.Numbered.{written_outside, writes_inside}
use Rattle.write_texts.proofs.short_event.write.Goals as goal

pub returns-in_err-room_for : goal.returns-in_err-room_for
returns-in_err-room_for c = room_refused _ _ c.in_err-room_for.ensures _ c.from_residual.ensures.1

pub returns-then-language_code-gt16777215 : goal.returns-then-language_code-gt16777215
unfolding short_event_written
returns-then-language_code-gt16777215 c =
    field-outside _ _ (omega arith) (written_outside 0x4D 3 _ _ _ c.if-language_code-gt16777215.true)

pub returns : goal.returns
unfolding short_event_written
returns c =
    let a = c.args in
    writes_inside 0x4D 3 _ a.name.now a.text.now a.room.now c.write.result _
    c.write.ensures (omega arith)
