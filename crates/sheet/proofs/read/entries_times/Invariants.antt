-- `sheet::read::entries_times` meets its contract.
use Rattle.tables.specs.Tables.{place}
use Rattle.sheet.specs.Sheet.{sheet_entry}
use Rattle.sheet.proofs.ReadLaws.{Rest}
use Rattle.sheet.proofs.read.entries_times.Given as goal

abbrev pub invariant-loop : goal.invariant-loop
invariant-loop l = Rest (sheet_entry (place l.table)) l.s l.at l.count l.p l.counter
