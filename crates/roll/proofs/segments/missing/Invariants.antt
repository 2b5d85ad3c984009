-- `roll::segments::missing` meets its contract: the smallest from segment `k` on is the smallest of all, while nothing of
-- the segments before is missing.
use Prim.Native.Nat.{◌+◌, ◌-◌, ◌*◌}
use mathlib.Core.Path.{◌≡◌}
use Rattle.roll.specs.Marks.{smallest}
use Rattle.roll.proofs.Turns.{counted}
use Rattle.roll.proofs.segments.missing.Given as goal

abbrev pub invariant-loop-k : goal.invariant-loop-k
invariant-loop-k l = smallest (counted l.schedule l.marks l.last) (l.last + 1 - l.k * 8) (l.k * 8)
    ≡ smallest (counted l.schedule l.marks l.last) (l.last + 1) 0
