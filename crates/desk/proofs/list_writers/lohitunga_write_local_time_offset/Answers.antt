-- `desk::list_writers::lohitunga_write_local_time_offset` meets its contract.
use borrow.Author.Rules.{rules}
use Rattle.desk.proofs.Called.{called}
use Rattle.desk.proofs.list_writers.lohitunga_write_local_time_offset.Goals as goal

pub returns : goal.returns
returns c = search (called, rules)
