-- `tables::row_of` meets its contract: the first row among those left is the first of all.
use Prim.Native.Nat.{◌-◌}
use mathlib.Core.Path.{◌≡◌}
use mathlib.Core.List.{[]}
use lib.ListN.{get_or}
use Rattle.tables.specs.Tables.{first, row_of, holds, rows as table}
use Rattle.tables.proofs.row_of.Given as goal

abbrev pub invariant-loop-i : goal.invariant-loop-i
invariant-loop-i l = row_of l.table_id ≡ first (6 - l.i) l.i (λ n. holds (get_or table n []) l.table_id)
