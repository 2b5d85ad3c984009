-- `search::find_in_entries` meets its contract. Both loops: what is still to be searched gives what the whole gives.
use Rattle.std.specs.Prelude.{None}
use Rattle.search.specs.Search.{hit_in, hit_from}
use Rattle.section.specs.Entries.{entries}
use Rattle.loops.specs.Descriptors.{descriptors}
use Rattle.verdict.specs.Verdict.{accepted}
use lib.ListN.{length, take, drop}
use mathlib.Core.Path.{◌≡◌}
use Prim.Native.Nat.{◌+◌, ◌-◌, ◌≤◌}
use Rattle.search.proofs.find_in_entries.Given as goal

abbrev pub invariant-descriptors : goal.invariant-descriptors
invariant-descriptors l =
    (hit_in l.tag l.number (descriptors l.q (drop l.q (take l.next l.bytes))).items
    (hit_from l.tag (l.number + 1) (entries l.fixed l.next (drop l.next l.bytes)).items)
    ≡ hit_from l.tag 1 (entries l.fixed l.at (drop l.at l.bytes)).items)
    × (l.q ≤ l.next) × (l.found ≡ l.initial.found)

abbrev pub decreases-descriptors : goal.decreases-descriptors
decreases-descriptors l = l.next - l.q

abbrev pub invariant-entries : goal.invariant-entries
invariant-entries l = (hit_from l.tag l.number (entries l.fixed l.p (drop l.p l.bytes)).items ≡ hit_from l.tag 1
    (entries l.fixed l.at (drop l.at l.bytes)).items)
    × ((entries l.fixed l.p (drop l.p l.bytes)).ends ≡ accepted) × (l.found ≡ None) × (l.number ≤ l.p + 1)

abbrev pub decreases-entries : goal.decreases-entries
decreases-entries l = length l.bytes - l.p
