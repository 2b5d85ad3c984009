-- `section::entries::judge_entries` meets its contract: reading on from p says what reading from the start says.
use Prim.Native.Nat.{◌-◌}
use mathlib.Core.Path.{◌≡◌}
use lib.ListN.{length, drop}
use Rattle.section.specs.Entries.{entries}
use Rattle.section.proofs.entries.judge_entries.Given as goal

abbrev pub invariant-loop-p : goal.invariant-loop-p
invariant-loop-p l = (entries l.fixed l.at (drop l.at l.bytes)).ends ≡ (entries l.fixed l.p (drop l.p l.bytes)).ends

abbrev pub decreases-loop-p : goal.decreases-loop-p
decreases-loop-p l = length l.bytes - l.p
