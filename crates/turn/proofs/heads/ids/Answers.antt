-- `turn::heads::ids` meets its contract.
use mathlib.Core.List.{[], ◌∷◌}
use Rattle.sheet.specs.Content.{plain, filler}
use Rattle.turn.specs.Inner.Fields.{filled}
use Rattle.turn.proofs.HeadLaws.{sdt_ids, eit_ids, no_ids, no_items, an_item, last_item, plain_item, as_items}
use Rattle.turn.proofs.heads.ids.Goals as goal

pub returns-in-Sdt : goal.returns-in-Sdt
returns-in-Sdt c =
    let forth = c.args.forth in
    as_items forth (sdt_ids c.args.table c.in-Sdt.is)
    (an_item forth (plain 2) (filler ∷ []) (plain_item forth 2 c.plain-q.ensures)
    (last_item forth filler (c.packed.ensures.turned filled)))

pub returns-in-Eit : goal.returns-in-Eit
returns-in-Eit c = search (as_items, eit_ids, last_item, plain_item)

pub returns-in_default : goal.returns-in_default
returns-in_default c =
    let forth = c.args.forth in
    as_items forth (no_ids c.args.table c.in_default.not-Sdt c.in_default.not-Eit) (no_items forth)
