-- `turn::entries::behind_own` meets its contract.
use mathlib.Core.Path.{refl}
use Rattle.turn.proofs.entries.behind_own.Goals as goal

pub returns-then-top : goal.returns-then-top
returns-then-top c = rw c.if-top.true c.past.ensures

pub returns : goal.returns
returns c = rw c.if-top.false refl
