-- `turn::heads::entry_fields` meets its contract.
use mathlib.Core.Path.{sym}
use mathlib.Core.List.{[], ◌∷◌}
use Rattle.sheet.specs.Content.{plain, flags}
use Rattle.sheet.proofs.ReadLaws.{stream_items, service_items, event_items, time_items}
use Rattle.turn.specs.Inner.Fields.{flagged}
use Rattle.turn.proofs.HeadLaws.{no_items, an_item, last_item, plain_item, as_items}
use Rattle.turn.proofs.heads.entry_fields.Goals as goal

pub returns-in-Nit : goal.returns-in-Nit
returns-in-Nit c =
    let forth = c.args.forth in
    as_items forth (sym (stream_items c.args.table c.in-Nit.is)) (last_item forth (plain 4) (plain_item forth 4 c.plain.ensures))

pub returns-in-Sdt : goal.returns-in-Sdt
returns-in-Sdt c =
    let forth = c.args.forth in
    as_items forth (sym (service_items c.args.table c.in-Sdt.is))
    (an_item forth (plain 2) (flags ∷ []) (plain_item forth 2 c.plain-q.ensures)
    (last_item forth flags (c.packed.ensures.turned flagged)))

pub returns-in-Eit : goal.returns-in-Eit
returns-in-Eit c =
    let forth = c.args.forth in
    as_items forth (sym (event_items c.args.table c.in-Eit.is)) (last_item forth (plain 10) (plain_item forth 10 c.plain-in-Eit.ensures))

pub returns-in-Tdt : goal.returns-in-Tdt
returns-in-Tdt c =
    let forth = c.args.forth in
    as_items forth (sym (time_items c.args.table c.in-Tdt.is)) (no_items forth)
