-- `turn::counts::entries_in` meets its contract.
use Prim.Native.Nat.{◌-◌}
use lib.ListN.{length}
use Rattle.tables.specs.Tables.{place}
use Rattle.sheet.specs.Section.{section_entry}
use Rattle.contents.proofs.SectionLaws.{entry_full}
use Rattle.turn.proofs.CountLaws.{Counting}
use Rattle.turn.proofs.counts.entries_in.Given as goal

abbrev pub invariant-loop-p : goal.invariant-loop-p
invariant-loop-p l = Counting (section_entry (place l.fn.table)) (entry_full (place l.fn.table)) l.bytes l.p l.k

abbrev pub decreases-loop-p : goal.decreases-loop-p
decreases-loop-p l = length l.bytes - l.p
