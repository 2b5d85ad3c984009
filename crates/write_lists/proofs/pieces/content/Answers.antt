-- `write_lists::pieces::content` meets its contract.
use native.Mathlib.Omega.{arith}
use Rattle.write_lists.proofs.pieces.content.Goals as goal

pub returns : goal.returns
returns c = record { told = cc; small = omega arith }
