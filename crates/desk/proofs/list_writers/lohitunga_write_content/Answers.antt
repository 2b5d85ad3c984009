-- `desk::list_writers::lohitunga_write_content` meets its contract.
use borrow.Author.Rules.{rules}
use Rattle.desk.proofs.Called.{called}
use Rattle.desk.proofs.list_writers.lohitunga_write_content.Goals as goal

pub returns : goal.returns
returns c = search (called, rules)
