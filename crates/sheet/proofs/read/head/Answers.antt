-- `sheet::read::head` meets its contract.
use Rattle.sheet.specs.Content.{plain}
use Rattle.sheet.specs.Sheet.{sheet_item}
use Rattle.sheet.proofs.ReadLaws.{follows_one, head_alone, head_on, head_stopped, filler_none, items_are, stream_head, service_head, event_head, time_head}
use Rattle.sheet.proofs.read.head.Goals as goal

pub returns-in-Nit : goal.returns-in-Nit
returns-in-Nit c = items_are (stream_head c.args.table c.in-Nit.is) (head_alone _ c.common.ensures)

pub returns-in_err-network-in-Sdt : goal.returns-in_err-network-in-Sdt
returns-in_err-network-in-Sdt c =
    items_are (service_head c.args.table c.in-Sdt.is)
    (head_stopped _ c.in_err-network-in-Sdt.was c.from_residual.ensures.1 c.common-in-Sdt.ensures)

pub returns-in_ok-network-in-Sdt : goal.returns-in_ok-network-in-Sdt
returns-in_ok-network-in-Sdt c =
    items_are (service_head c.args.table c.in-Sdt.is)
    (head_on _ c.in_ok-network-in-Sdt.was c.common-in-Sdt.ensures (filler_none _ c.plain.ensures))

pub returns-in_err-stream-in-Eit : goal.returns-in_err-stream-in-Eit
returns-in_err-stream-in-Eit c =
    items_are (event_head c.args.table c.in-Eit.is)
    (head_stopped _ c.in_err-stream-in-Eit.was c.from_residual-in_err-stream-in-Eit.ensures.1 c.common-in-Eit.ensures)

pub returns-in_ok-stream-in-Eit : goal.returns-in_ok-stream-in-Eit
returns-in_ok-stream-in-Eit c =
    items_are (event_head c.args.table c.in-Eit.is)
    (head_on _ c.in_ok-stream-in-Eit.was c.common-in-Eit.ensures (follows_one sheet_item (plain 6) _ c.plain-in-Eit.ensures))

pub returns-in-Tdt : goal.returns-in-Tdt
returns-in-Tdt c = items_are (time_head c.args.table c.in-Tdt.is) (follows_one sheet_item (plain 5) _ c.plain-in-Tdt.ensures)
