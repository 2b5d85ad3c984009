-- `desk::text_writers::lies_in` meets its contract.
use mathlib.Core.Path.{ap}
use mathlib.Core.Bool.{not}
use Rattle.desk.proofs.text_writers.lies_in.Goals as goal

pub returns : goal.returns
returns c = ap not c.lacks.ensures
