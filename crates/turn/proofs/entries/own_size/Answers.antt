-- `turn::entries::own_size` meets its contract.
use Rattle.turn.proofs.entries.own_size.Goals as goal

pub returns-then-top : goal.returns-then-top
returns-then-top c = rw c.if-top.true c.length12_at.ensures.same

pub returns : goal.returns
returns c = rw c.if-top.false c.less.ensures
