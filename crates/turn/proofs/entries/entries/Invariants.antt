-- `turn::entries::entries` meets its contract.
use Rattle.tables.specs.Tables.{place}
use Rattle.turn.proofs.EntriesLaws.{Turning}
use Rattle.turn.proofs.entries.entries.Given as goal

abbrev pub invariant-loop : goal.invariant-loop
invariant-loop l = Turning l.forth (place l.table) l.number l.s l.initial.room l.initial.q l.room l.q l.counter
