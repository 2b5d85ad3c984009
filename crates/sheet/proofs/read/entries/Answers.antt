-- `sheet::read::entries` meets its contract.
use Prim.Native.Nat.{ℕ}
use native.Mathlib.Omega.{arith}
use Rattle.tables.specs.Tables.{place}
use Rattle.tables.proofs.RowLaws.{numbered_below, unnumbered_from}
use Rattle.sheet.proofs.ReadLaws.{follows_counted, follows_early, entries_none, entries_some}
use Rattle.sheet.proofs.read.entries.Goals as goal

pub returns-then-not-is_numbered : goal.returns-then-not-is_numbered
returns-then-not-is_numbered c =
    let row : ℕ = place c.args.table in
    entries_none row (unnumbered_from row c.is_numbered.ensures c.if-not-is_numbered.true)

pub returns-then-less-lt2 : goal.returns-then-less-lt2
returns-then-less-lt2 c =
    let row : ℕ = place c.args.table in
    let args = c.args in
    entries_some row _ (numbered_below row c.is_numbered.ensures c.if-not-is_numbered.false)
    (follows_early _ args.s.now args.at (omega (arith, c.less.ensures)))

pub returns : goal.returns
returns c =
    let row : ℕ = place c.args.table in
    let args = c.args in
    let less = c.less in
    entries_some row _ (numbered_below row c.is_numbered.ensures c.if-not-is_numbered.false)
    (follows_counted _ args.s.now args.at (omega (arith, less.ensures)) c.number16_at-count.ensures c.entries_times.ensures)
