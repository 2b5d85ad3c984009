-- `write_lists::pieces::rating` meets its contract.
use native.Mathlib.Omega.{arith}
use Rattle.write_lists.proofs.pieces.rating.Goals as goal

pub returns : goal.returns
returns c = record { told = cc; small = omega arith }
