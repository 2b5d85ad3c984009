-- `roll::segments::all_come` meets its contract: the first `i` have come, or one of them has not.
use mathlib.Core.Path.{◌≡◌}
use Rattle.roll.specs.Gaps.{all_came}
use Rattle.roll.proofs.segments.all_come.Given as goal

abbrev pub invariant-loop-i : goal.invariant-loop-i
invariant-loop-i l = l.all ≡ all_came l.came l.i
