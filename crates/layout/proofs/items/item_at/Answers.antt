-- An index below the number of items lies inside the caller's bytes, so that neither product nor sum wraps.
use mathlib.Core.Path.{sym}
use native.Mathlib.Omega.{arith}
use Rattle.layout.proofs.Exactly.{item_fits}
use Rattle.layout.proofs.items.item_at.Goals as goal

pub overflow_mul-result : goal.overflow_mul-result
overflow_mul-result c =
    let a = c.args in
    omega (arith, item_fits a.k a.tag a.s.now a.index _ (sym c.in_ok-number_of.ensures) c.if-branch.true)

pub overflow_add-result : goal.overflow_add-result
overflow_add-result c =
    let a = c.args in
    omega (arith, item_fits a.k a.tag a.s.now a.index _ (sym c.in_ok-number_of.ensures) c.if-branch.true)
