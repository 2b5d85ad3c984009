-- The step beneath, with record and answer in numbers.
use Rattle.cabinet.proofs.Outcomes.{collecting_is}
use Rattle.cabinet.proofs.collect.step.Goals as goal

pub returns : goal.returns
returns c =
    let a = c.args in
    rw (c.record_after.ensures, c.answer_says.ensures)
    (collecting_is a.rec a.hold.now a.out.now a.packet.now c.record_in.ensures
    c.step-s.ensures)
