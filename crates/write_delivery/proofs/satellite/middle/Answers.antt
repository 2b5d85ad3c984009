-- `write_delivery::satellite::middle` meets its contract.
use native.Mathlib.Omega.{arith}
use Rattle.write_delivery.proofs.Bodies.{fewer_digits}
use Rattle.write_delivery.proofs.satellite.middle.Goals as goal

pub overflow_mul-result : goal.overflow_mul-result
overflow_mul-result c = let d = fewer_digits c.to_bcd.ensures 4 (omega arith) (omega arith) in omega arith

pub overflow_add-result : goal.overflow_add-result
overflow_add-result c = let d = fewer_digits c.to_bcd.ensures 4 (omega arith) (omega arith) in omega arith

pub returns : goal.returns
returns c = let d = fewer_digits c.to_bcd.ensures 4 (omega arith) (omega arith) in omega arith
