-- The invariant: the smallest missing from segment `k` on is the smallest of all. As in `roll::segments::missing`, with each
-- segment made of the flat numbers.
use Prim.Native.Nat.{◌+◌, ◌-◌, ◌*◌}
use mathlib.Core.Path.{◌≡◌}
use Rattle.roll.specs.Marks.{smallest}
use Rattle.roll.proofs.Turns.{counted}
use Rattle.cabinet.specs.Inner.Rolls.{marks_of}
use Rattle.cabinet.proofs.rolls.missing.Given as goal

abbrev pub invariant-loop-k : goal.invariant-loop-k
invariant-loop-k l = smallest (counted l.schedule (marks_of l.flags l.known l.end) l.last) (l.last + 1 - l.k * 8) (l.k * 8)
    ≡ smallest (counted l.schedule (marks_of l.flags l.known l.end) l.last) (l.last + 1) 0
