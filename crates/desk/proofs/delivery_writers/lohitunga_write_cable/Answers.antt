-- `desk::delivery_writers::lohitunga_write_cable` meets its contract.
use borrow.Author.Rules.{rules}
use Rattle.desk.specs.Delivery.{cable_given}
use Rattle.desk.proofs.Called.{called}
use Rattle.desk.proofs.delivery_writers.lohitunga_write_cable.Goals as goal

pub returns : goal.returns
unfolding cable_given
returns c = search (called, rules)
