-- `desk::text_writers::lohitunga_write_stuffing` meets its contract.
use borrow.Author.Rules.{rules}
use Rattle.desk.proofs.Called.{called_outside}
use Rattle.desk.proofs.Given.{stuffing_outside, stuffing_called}
use Rattle.desk.proofs.text_writers.lohitunga_write_stuffing.Goals as goal

pub returns-then-not-lies_in : goal.returns-then-not-lies_in
returns-then-not-lies_in c = search (called_outside, stuffing_outside, rules)

pub returns : goal.returns
returns c = search (stuffing_called, rules)
