-- `sheet::read::entry` meets its contract.
use Rattle.sheet.proofs.ReadLaws.{then_on, then_stopped}
use Rattle.sheet.proofs.read.entry.Goals as goal

pub returns-in_err-beside : goal.returns-in_err-beside
returns-in_err-beside c = then_stopped _ _ c.in_err-beside.was c.from_residual.ensures.1 c.items.ensures

pub returns-in_err-list : goal.returns-in_err-list
returns-in_err-list c =
    then_on _ _ c.in_ok-beside.was c.items.ensures
    (then_stopped _ _ c.in_err-list.was c.from_residual-in_err-list.ensures.1 c.side.ensures)

pub returns : goal.returns
returns c =
    then_on _ _ c.in_ok-beside.was c.items.ensures (then_on _ _ c.in_ok-list.was c.side.ensures c.descriptors.ensures)
