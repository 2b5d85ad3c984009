-- `turn::entries::entry` meets its contract.
use Rattle.forms.proofs.Turns.{turned_then}
use Rattle.turn.proofs.entries.entry.Goals as goal

pub returns : goal.returns
returns c =
    turned_then c.entry_fields-q.ensures (c.turn_loop.ensures.turned c.side.ensures)
