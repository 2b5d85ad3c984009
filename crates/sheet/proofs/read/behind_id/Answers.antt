-- `sheet::read::behind_id` meets its contract.
use mathlib.Core.Path.{refl}
use Rattle.sheet.proofs.ReadLaws.{then_on, then_stopped, frame_none}
use Rattle.sheet.proofs.read.behind_id.Goals as goal

pub returns-in_err-top : goal.returns-in_err-top
returns-in_err-top c =
    then_on _ _ refl frame_none (then_stopped _ _ c.in_err-top.was c.from_residual.ensures.1 c.head.ensures)

pub returns-in_err-list : goal.returns-in_err-list
returns-in_err-list c =
    then_on _ _ refl frame_none
    (then_on _ _ c.in_ok-top.was c.head.ensures
    (then_stopped _ _ c.in_err-list.was c.from_residual-in_err-list.ensures.1 c.top_loop.ensures))

pub returns : goal.returns
returns c =
    then_on _ _ refl frame_none
    (then_on _ _ c.in_ok-top.was c.head.ensures (then_on _ _ c.in_ok-list.was c.top_loop.ensures c.entries.ensures))
