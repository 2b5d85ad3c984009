-- `turn::entries::entries` meets its contract.
use Rattle.turn.proofs.EntriesLaws.{turning_begins, turning_on, turning_ends}
use borrow.Author.Rules.{rules}
use Rattle.turn.proofs.entries.entries.Goals as goal

pub loop-init : goal.loop-init
loop-init c = search turning_begins

pub loop-preserved : goal.loop-preserved
loop-preserved c = search (turning_on, rules)

pub returns : goal.returns
returns c = search (turning_ends, rules)
