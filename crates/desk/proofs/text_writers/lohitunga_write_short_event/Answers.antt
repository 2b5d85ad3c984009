-- `desk::text_writers::lohitunga_write_short_event` meets its contract.
use borrow.Author.Rules.{rules}
use Rattle.desk.proofs.Called.{called_outside}
use Rattle.desk.proofs.Given.{event-name, event_text, event_called}
use Rattle.desk.proofs.text_writers.lohitunga_write_short_event.Goals as goal

pub returns-then-not-lies_in : goal.returns-then-not-lies_in
returns-then-not-lies_in c = search (called_outside, event-name, rules)

pub returns-then-not-lies_in-2 : goal.returns-then-not-lies_in-2
returns-then-not-lies_in-2 c = search (called_outside, event_text, rules)

pub returns : goal.returns
returns c = search (event_called, rules)
