-- `write_lists::rows::put_items` meets its contract: the items that are left make all that is put.
use Prim.Native.Nat.{◌+◌, ◌-◌, ◌*◌}
use lib.ListN.{drop}
use Rattle.forms.specs.Room.{put}
use Rattle.writing.specs.Rows.{rows}
use Rattle.write_lists.specs.Inner.Kinds.{row_size, item_size, piece_of, joined_rows}
use Rattle.write_lists.proofs.RowLaws.{Ahead}
use Rattle.write_lists.proofs.rows.put_items.Given as goal

abbrev pub invariant-loop-i : goal.invariant-loop-i
invariant-loop-i l =
    Ahead l.kind l.initial.room
    (put l.initial.room 2 (joined_rows (rows (row_size l.kind) (piece_of l.kind) l.n l.numbers)))
    l.room (drop (row_size l.kind * l.i) l.numbers) (l.n - l.i) (2 + item_size l.kind * l.i)
