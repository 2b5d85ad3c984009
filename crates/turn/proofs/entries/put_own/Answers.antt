-- `turn::entries::put_own` meets its contract.
use mathlib.Core.Path.{refl}
use Rattle.turn.proofs.EntriesLaws.{own_written}
use Rattle.turn.proofs.entries.put_own.Goals as goal

pub returns-then-top : goal.returns-then-top
returns-then-top c = search own_written

pub returns-else-top : goal.returns-else-top
returns-else-top c = rw c.if-top.false refl
