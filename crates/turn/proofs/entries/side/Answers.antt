-- `turn::entries::side` meets its contract.
use Rattle.turn.proofs.EntriesLaws.{bare_side, status_side}
use Rattle.turn.proofs.entries.side.Goals as goal

pub returns-in-Nit : goal.returns-in-Nit
returns-in-Nit c = bare_side c.args.table c.in-Nit.is

pub returns-in_default : goal.returns-in_default
returns-in_default c = status_side c.args.table c.in_default.not-Nit c.in_default.not-Bat c.in_default.not-Tot
