-- `desk::delivery_writers::lohitunga_write_satellite` meets its contract.
use borrow.Author.Rules.{rules}
use Rattle.desk.proofs.Called.{called_outside}
use Rattle.desk.proofs.Given.{satellite_flag, satellite_system, satellite_called}
use Rattle.desk.proofs.delivery_writers.lohitunga_write_satellite.Goals as goal

pub returns-then-satellite-gt1 : goal.returns-then-satellite-gt1
returns-then-satellite-gt1 c = called_outside _ _ _ (satellite_flag _ c.if-satellite-gt1.true) c.outside.ensures

pub returns-in_default : goal.returns-in_default
returns-in_default c = search (called_outside, satellite_system, rules)

pub returns : goal.returns
returns c = search (satellite_called, rules)
