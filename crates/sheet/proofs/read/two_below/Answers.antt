-- `sheet::read::two_below` meets its contract.
use mathlib.Core.List.{[], ◌∷◌}
use Rattle.forms.specs.Fields.{below}
use Rattle.sheet.proofs.ReadLaws.{cons_on, cons_stopped, follows_one}
use Rattle.sheet.proofs.read.two_below.Goals as goal

pub returns-in_err-second : goal.returns-in_err-second
returns-in_err-second c =
    let args = c.args in
    cons_stopped below args.m (args.n ∷ []) c.in_err-second.was c.from_residual.ensures.1 c.one_below.ensures

pub returns : goal.returns
returns c =
    let args = c.args in
    cons_on below args.m (args.n ∷ []) c.in_ok-second.was c.one_below.ensures (follows_one below args.n _ c.one_below-2.ensures)
