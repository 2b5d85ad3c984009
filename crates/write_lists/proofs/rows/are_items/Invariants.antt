-- `write_lists::rows::are_items` meets its contract: what the rows that are left come to is what all of them come to.
use mathlib.Core.Path.{◌≡◌}
use Prim.Native.Nat.{◌-◌, ◌*◌}
use lib.ListN.{drop}
use Rattle.writing.specs.Rows.{rows}
use Rattle.write_lists.specs.Inner.Kinds.{row_size, piece_of, judged}
use Rattle.write_lists.proofs.rows.are_items.Given as goal

abbrev pub invariant-loop-i : goal.invariant-loop-i
invariant-loop-i l =
    let k = row_size l.kind in
    judged (rows k (piece_of l.kind) (l.n - l.i) (drop (k * l.i) l.numbers)) ≡ judged (rows k (piece_of l.kind) l.n l.numbers)
