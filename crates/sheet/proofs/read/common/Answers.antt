-- `sheet::read::common` meets its contract.
use Rattle.sheet.proofs.ReadLaws.{id_stopped, version_stopped, common_on}
use Rattle.sheet.proofs.read.common.Goals as goal

pub returns-in_err-version : goal.returns-in_err-version
returns-in_err-version c = id_stopped _ c.in_err-version.was c.from_residual.ensures.1 c.plain.ensures

pub returns-in_err-numbers : goal.returns-in_err-numbers
returns-in_err-numbers c =
    version_stopped _ c.in_ok-version.was c.plain.ensures c.in_err-numbers.was c.from_residual-in_err-numbers.ensures.1 c.two_below.ensures

pub returns : goal.returns
returns c =
    common_on _ c.in_ok-version.was c.plain.ensures c.in_ok-numbers.was c.two_below.ensures c.section_numbers.ensures
