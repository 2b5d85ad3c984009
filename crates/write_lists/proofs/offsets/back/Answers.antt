-- `write_lists::offsets::back` meets its contract.
use native.Mathlib.Omega.{arith}
use Rattle.write_lists.proofs.offsets.back.Goals as goal

pub returns : goal.returns
returns c = record { told = cc; small = omega arith }
