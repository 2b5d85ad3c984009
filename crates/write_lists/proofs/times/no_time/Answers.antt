-- `write_lists::times::no_time` meets its contract.
use native.Mathlib.Omega.{arith}
use Rattle.write_lists.proofs.times.no_time.Goals as goal

pub returns : goal.returns
returns c = record { told = cc; small = omega arith }
