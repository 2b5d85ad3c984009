-- `write_texts::two::write` meets its contract.
use native.Mathlib.Omega.{arith}
use Rattle.writing.proofs.Answers.{room_refused}
use Rattle.write_texts.proofs.Numbered.{numbered_long, numbered_written}
use Rattle.write_texts.proofs.two.write.Goals as goal
use Rattle.write_texts.proofs.two.write.Goals.{Else-n-gt255}

pub returns-in_err-room_for : goal.returns-in_err-room_for
returns-in_err-room_for c = room_refused _ _ c.in_err-room_for.ensures _ c.from_residual.ensures.1

pub returns-then-n-gt255 : goal.returns-then-n-gt255
returns-then-n-gt255 c = numbered_long _ _ _ _ _ _ _ c.size-n.ensures (omega arith) c.if-n-gt255.true

pub returns : goal.returns
returns c =
    numbered_written _ _ _ _ _ _ _ c.size-n.ensures (omega arith) c.if-n-gt255.false
    (omega (arith, (goal.at.returns c).Else-n-gt255)) c.put_number.ensures c.put_body.ensures
