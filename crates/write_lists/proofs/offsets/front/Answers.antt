-- `write_lists::offsets::front` meets its contract.
use native.Mathlib.Omega.{arith}
use Rattle.write_lists.proofs.offsets.front.Goals as goal

pub returns : goal.returns
returns c = record { told = cc; small = omega arith }
