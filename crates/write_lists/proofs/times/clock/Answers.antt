-- `write_lists::times::clock` meets its contract.
use native.Mathlib.Omega.{arith}
use Rattle.write_lists.proofs.times.clock.Goals as goal

pub returns : goal.returns
returns c = record { told = cc; small = omega arith }
