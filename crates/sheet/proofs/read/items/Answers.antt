-- `sheet::read::items` meets its contract.
use mathlib.Core.List.{[], ◌∷◌}
use Rattle.sheet.specs.Content.{plain, flags}
use Rattle.sheet.specs.Sheet.{sheet_item}
use Rattle.sheet.proofs.ReadLaws.{cons_on, cons_stopped, follows_nil, follows_one, flags_on, items_are, stream_items, service_items, event_items, time_items}
use Rattle.sheet.proofs.read.items.Goals as goal

pub returns-in-Nit : goal.returns-in-Nit
returns-in-Nit c = items_are (stream_items c.args.table c.in-Nit.is) (follows_one sheet_item (plain 4) _ c.plain.ensures)

pub returns-in_err-flags-in-Sdt : goal.returns-in_err-flags-in-Sdt
returns-in_err-flags-in-Sdt c =
    items_are (service_items c.args.table c.in-Sdt.is)
    (cons_stopped sheet_item (plain 2) (flags ∷ []) c.in_err-flags-in-Sdt.was c.from_residual.ensures.1 c.plain-in-Sdt.ensures)

pub returns-in_ok-flags-in-Sdt : goal.returns-in_ok-flags-in-Sdt
returns-in_ok-flags-in-Sdt c =
    items_are (service_items c.args.table c.in-Sdt.is)
    (cons_on sheet_item (plain 2) (flags ∷ []) c.in_ok-flags-in-Sdt.was c.plain-in-Sdt.ensures (flags_on _ c.two_below.ensures))

pub returns-in-Eit : goal.returns-in-Eit
returns-in-Eit c = items_are (event_items c.args.table c.in-Eit.is) (follows_one sheet_item (plain 10) _ c.plain-in-Eit.ensures)

pub returns-in-Tdt : goal.returns-in-Tdt
returns-in-Tdt c = items_are (time_items c.args.table c.in-Tdt.is) (follows_nil sheet_item)
