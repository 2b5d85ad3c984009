-- `turn::pieces::joined` meets its contract.
use native.Mathlib.Omega.{arith}
use Rattle.turn.proofs.PieceLaws.{joined_none, joined_two}
use Rattle.turn.proofs.pieces.joined.Goals as goal

pub returns-then-span-eq0 : goal.returns-then-span-eq0
returns-then-span-eq0 c = search joined_none

pub overflow_mul-result : goal.overflow_mul-result
overflow_mul-result c = omega (arith, c.wide.ensures.small)

pub overflow_sub-result : goal.overflow_sub-result
overflow_sub-result c = omega (arith, c.wide.ensures.small)

pub overflow_mul-result-2 : goal.overflow_mul-result-2
overflow_mul-result-2 c = omega (arith, c.wide-2.ensures.small)

pub overflow_add-result : goal.overflow_add-result
overflow_add-result c = omega (arith, c.wide-2.ensures.small)

pub overflow_add-result-2 : goal.overflow_add-result-2
overflow_add-result-2 c = omega (arith, c.wide-3.ensures.small, c.wide-2.ensures.small)

pub returns : goal.returns
returns c = search joined_two
