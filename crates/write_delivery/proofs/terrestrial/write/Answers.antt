-- `write_delivery::terrestrial::write` meets its contract.
use mathlib.Core.Path.{refl, ap}
use mathlib.Core.Bool.{not}
use native.Mathlib.Omega.{arith}
use borrow.Author.Rules.{rules}
use Rattle.writing.proofs.Answers.{room_refused, field-outside}
use Rattle.write_delivery.proofs.TerrestrialBody.{terrestrial_refused, terrestrial_wrote}
use Rattle.write_delivery.proofs.terrestrial.write.Goals as goal

pub returns-in_err-room_for : goal.returns-in_err-room_for
returns-in_err-room_for c = room_refused _ _ c.in_err-room_for.ensures _ c.from_residual.ensures.1

pub returns-then-not-is_inside : goal.returns-then-not-is_inside
returns-then-not-is_inside c = field-outside _ _ (omega arith) (search (terrestrial_refused, rules))

pub returns : goal.returns
returns c =
    terrestrial_wrote _ c.is_inside.ensures _ _ _ _ _ (ap not c.if-not-is_inside.false) (omega arith) c.put_body.ensures
    refl c.middle.ensures refl
