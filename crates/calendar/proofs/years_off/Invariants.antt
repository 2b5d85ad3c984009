-- What was counted off and what is left make the days given.
use mathlib.Core.Path.{◌≡◌}
use Prim.Native.Nat.{◌+◌, ◌-◌, ◌≤◌}
use Rattle.calendar.specs.Dates.{days_of_years}
use Rattle.calendar.proofs.years_off.Given as goal

abbrev pub invariant-loop-left : goal.invariant-loop-left
invariant-loop-left l = (1900 ≤ l.year) × (days_of_years (l.year - 1900) + l.left ≡ l.days)

abbrev pub decreases-loop-left : goal.decreases-loop-left
decreases-loop-left l = l.left
