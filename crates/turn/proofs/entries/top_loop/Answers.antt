-- `turn::entries::top_loop` meets its contract.
use mathlib.Core.List.{[]}
use Rattle.turn.proofs.EntriesLaws.{top_turned, none_turned}
use Rattle.turn.proofs.entries.top_loop.Goals as goal

pub returns-then-top : goal.returns-then-top
returns-then-top c = search top_turned

pub returns : goal.returns
returns c = rw c.if-top.false (none_turned ([], []) c.args.forth)
