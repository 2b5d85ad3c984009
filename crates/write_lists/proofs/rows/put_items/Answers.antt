-- `write_lists::rows::put_items` meets its contract: the items that are left make all that is put.
use native.Mathlib.Omega.{arith}
use Rattle.write_lists.proofs.RowLaws.{row_there, all_ahead, none_ahead, item_room, item_put}
use Rattle.write_lists.proofs.rows.put_items.Goals as goal

pub loop-i-init : goal.loop-i-init
loop-i-init c = all_ahead _ _ _ _ c.requires

pub after-row-requires : goal.after-row-requires
after-row-requires c = row_there _ _ _ _ c.requires.0 c.loop-i-test.true c.sizes-sizes.ensures.row.0

pub put_piece-requires : goal.put_piece-requires
put_piece-requires c = item_room _ _ _ _ c.loop-i.invariant c.loop-i-test.true c.sizes-sizes.ensures.item.0

pub loop-i-preserved : goal.loop-i-preserved
loop-i-preserved c =
    item_put _ _ _ _ c.loop-i.invariant c.loop-i-test.true c.sizes-sizes.ensures.item.0 c.sizes-sizes.ensures.row.0
    c.after-row.ensures c.put_piece.ensures

pub returns : goal.returns
returns c = none_ahead _ c.loop-i.invariant (omega arith)
