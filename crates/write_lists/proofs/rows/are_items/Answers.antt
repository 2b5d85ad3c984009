-- `write_lists::rows::are_items` meets its contract: what the rows that are left come to is what all of them come to.
use native.Mathlib.Omega.{arith}
use Rattle.write_lists.proofs.RowLaws.{row_there, all_left, none_left, row_refused, row_passed}
use Rattle.write_lists.proofs.rows.are_items.Goals as goal

pub loop-i-init : goal.loop-i-init
loop-i-init c = all_left _ _ _ _

pub after-requires : goal.after-requires
after-requires c = row_there _ _ _ _ c.requires c.loop-i-test.true c.sizes-k.ensures.row.0

pub returns-then-not-is_item : goal.returns-then-not-is_item
returns-then-not-is_item c =
    row_refused _ _ _ _ _ c.loop-i.invariant c.loop-i-test.true c.sizes-k.ensures.row.0 c.after.ensures _ c.is_item.ensures
    c.if-not-is_item.true

pub loop-i-preserved : goal.loop-i-preserved
loop-i-preserved c = search row_passed

pub returns : goal.returns
returns c = none_left _ _ _ _ c.loop-i.invariant (omega arith)
