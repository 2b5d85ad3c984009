-- `sheet::read::entries_times` meets its contract.
use Rattle.sheet.proofs.ReadLaws.{all_left, item_on, item_stopped, items_done}
use Rattle.sheet.proofs.read.entries_times.Goals as goal

pub loop-init : goal.loop-init
loop-init c = all_left _

pub returns-in_err-p : goal.returns-in_err-p
returns-in_err-p c =
    item_stopped _ c.loop.invariant c.loop-test.true c.in_err-p.was c.from_residual.ensures.1 c.entry.ensures

pub loop-preserved : goal.loop-preserved
loop-preserved c = item_on _ c.loop.invariant c.loop-test.true c.in_ok-p.was c.entry.ensures

pub returns : goal.returns
returns c = items_done _ c.loop.invariant c.loop-test.false
