-- `desk::delivery_writers::lohitunga_write_terrestrial` meets its contract.
use borrow.Author.Rules.{rules}
use Rattle.desk.proofs.Called.{called_outside}
use Rattle.desk.proofs.Given.{terrestrial_flags, terrestrial_called}
use Rattle.desk.proofs.delivery_writers.lohitunga_write_terrestrial.Goals as goal

pub returns-then-not-are_flags : goal.returns-then-not-are_flags
returns-then-not-are_flags c = search (called_outside, terrestrial_flags, rules)

pub returns : goal.returns
returns c = search (terrestrial_called, rules)
