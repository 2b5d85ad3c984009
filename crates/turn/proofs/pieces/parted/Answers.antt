-- `turn::pieces::parted` meets its contract.
use native.Mathlib.Omega.{arith}
use Rattle.turn.proofs.PieceLaws.{parted_none, parted_two}
use Rattle.turn.proofs.pieces.parted.Goals as goal

pub returns-then-span-eq0 : goal.returns-then-span-eq0
returns-then-span-eq0 c = search parted_none

pub nonzero_rem-x : goal.nonzero_rem-x
nonzero_rem-x c = omega (arith, c.if-span-eq0.false)

pub returns : goal.returns
returns c = search parted_two
