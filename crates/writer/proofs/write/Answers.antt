-- `writer::write` meets its contract.
use mathlib.Core.Path.{sym, ◌∙◌}
use native.Mathlib.Nat.{zero-add}
use Rattle.writer.proofs.CutLaws.{fit_sum}
use Rattle.writer.proofs.Outcomes.{all_written}
use Rattle.writer.proofs.write.Goals as goal

pub invariant_of-ahead : goal.invariant_of-ahead
invariant_of-ahead c =
    record { whole = zero-add _ ∙ sym (fit_sum _ _ (sym c.fits.ensures ∙ c.if-not-fits.false)) }

pub returns : goal.returns
returns c =
    all_written _ _ _ _ _ c.if-pid-gt8191.false c.if-counter-gt15.false (sym c.fits.ensures ∙ c.if-not-fits.false)
    c.count-n.result c.count-n.ensures c.if-room-n.false _ c.put_all.ensures
