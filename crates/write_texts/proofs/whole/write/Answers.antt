-- `write_texts::whole::write` meets its contract.
use native.Mathlib.Omega.{arith}
use mathlib.Core.Path.{refl, ◌∙◌}
use Rattle.writing.proofs.Answers.{room_refused, headed_long, body-long}
use Rattle.write_texts.proofs.Rooms.{copied_whole, behind}
use Rattle.write_texts.proofs.whole.write.Goals as goal

pub returns-in_err-room_for : goal.returns-in_err-room_for
returns-in_err-room_for c = room_refused _ _ c.in_err-room_for.ensures _ c.from_residual.ensures.1

pub returns-then-n-gt255 : goal.returns-then-n-gt255
returns-then-n-gt255 c =
    let a = c.args in
    body-long _ _ (omega arith) (headed_long a.tag a.bytes.now c.if-n-gt255.true)

pub returns : goal.returns
returns c =
    behind _ _ (omega arith) (omega arith) _ _ refl (omega arith) c.put_number.ensures
    (c.copy.ensures.1 ∙ copied_whole _ _ _ (omega arith))
