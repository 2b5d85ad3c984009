-- `desk::text_writers::lohitunga_write_network_name` meets its contract.
use borrow.Author.Rules.{rules}
use Rattle.desk.proofs.Called.{called_outside}
use Rattle.desk.proofs.Given.{name_outside, name_called}
use Rattle.desk.proofs.text_writers.lohitunga_write_network_name.Goals as goal

pub returns-then-not-lies_in : goal.returns-then-not-lies_in
returns-then-not-lies_in c = search (called_outside, name_outside, rules)

pub returns : goal.returns
returns c = search (name_called, rules)
