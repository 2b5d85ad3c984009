-- `desk::text_writers::lohitunga_write_service` meets its contract.
use borrow.Author.Rules.{rules}
use Rattle.desk.proofs.Called.{called_outside}
use Rattle.desk.proofs.Given.{service_provider, service-name, service_called}
use Rattle.desk.proofs.text_writers.lohitunga_write_service.Goals as goal

pub returns-then-not-lies_in : goal.returns-then-not-lies_in
returns-then-not-lies_in c = search (called_outside, service_provider, rules)

pub returns-then-not-lies_in-2 : goal.returns-then-not-lies_in-2
returns-then-not-lies_in-2 c = search (called_outside, service-name, rules)

pub returns : goal.returns
returns c = search (service_called, rules)
