-- `write_lists::times::some_time` meets its contract.
use native.Mathlib.Omega.{arith}
use Rattle.write_lists.proofs.times.some_time.Goals as goal

pub returns : goal.returns
returns c = record { told = cc; small = omega arith }
