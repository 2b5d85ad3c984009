-- `roll::segments::first_gap` meets its contract: the first gap from `i` on is the first of all, while all before `i` have come.
use Prim.Native.Nat.{◌-◌}
use mathlib.Core.Path.{◌≡◌}
use Rattle.roll.specs.Gaps.{first_gap}
use Rattle.roll.proofs.segments.first_gap.Given as goal

abbrev pub invariant-loop-i : goal.invariant-loop-i
invariant-loop-i l = first_gap l.came (l.count - l.i) l.i ≡ first_gap l.came l.count 0
