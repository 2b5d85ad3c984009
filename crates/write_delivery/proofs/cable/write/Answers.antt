-- `write_delivery::cable::write` meets its contract.
use mathlib.Core.Path.{ap, sym, ◌∙◌}
use mathlib.Core.Bool.{not}
use native.Mathlib.Omega.{arith}
use borrow.Author.Rules.{rules}
use Rattle.writing.proofs.Answers.{room_refused, field-outside}
use Rattle.writing.proofs.Below.{below_is}
use Rattle.write_delivery.proofs.CableBody.{cable_refused, cable_wrote}
use Rattle.write_delivery.proofs.cable.write.Goals as goal

pub returns-in_err-room_for : goal.returns-in_err-room_for
returns-in_err-room_for c = room_refused _ _ c.in_err-room_for.ensures _ c.from_residual.ensures.1

pub returns-then-not-is_inside : goal.returns-then-not-is_inside
returns-then-not-is_inside c = field-outside _ _ (omega arith) (search (cable_refused, rules))

pub rate_bits-last-requires : goal.rate_bits-last-requires
rate_bits-last-requires c = let i = below_is _ _ (sym c.is_inside.ensures ∙ c.if-not-is_inside.false) in omega arith

pub returns : goal.returns
returns c =
    cable_wrote _ c.is_inside.ensures _ _ _ _ _ (ap not c.if-not-is_inside.false) (omega arith) c.put_body.ensures
    c.to_bcd.ensures c.middle.ensures c.rate_bits-last.ensures
