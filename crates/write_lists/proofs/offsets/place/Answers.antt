-- `write_lists::offsets::place` meets its contract.
use native.Mathlib.Omega.{arith}
use Rattle.write_lists.proofs.offsets.place.Goals as goal

pub returns : goal.returns
returns c = record { told = cc; small = omega arith }
