-- `collector::step` meets its contract: a packet that is not refused fits.
use Rattle.std.proofs.Common.{sym, ap, ◌∙◌}
use Rattle.packet.specs.Judgement.{meant, meant_load}
use Rattle.collector.proofs.Fits.{fit_of}
use Rattle.collector.proofs.step.Goals as goal

pub carried-requires : goal.carried-requires
carried-requires c =
    let a = c.args in
    let w = c.in-Ok-Payload in
    fit_of a.rec a.hold.now a.out.now a.packet.now w.load.from w.load.start w.load.counter w.load.splice
    (sym c.judge.ensures ∙ ap meant w.is ∙ ap meant_load w.field-0-is)
