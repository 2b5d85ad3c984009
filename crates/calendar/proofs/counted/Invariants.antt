-- What was counted off and what is left make the days of the year; so the date's MJD is the one given.
use mathlib.Core.Path.{◌≡◌}
use Prim.Native.Nat.{◌+◌, ◌-◌, ◌<◌, ◌≤◌}
use Rattle.calendar.specs.Dates.{days_of_months}
use Rattle.calendar.proofs.counted.Given as goal

abbrev pub invariant-loop-left : goal.invariant-loop-left
invariant-loop-left l =
    (1 ≤ l.month)
    × (l.month ≤ 12)
    × (days_of_months l.year (l.month - 1) + l.left ≡ l.initial.left)
    × (l.initial.left < days_of_months l.year 12)

abbrev pub decreases-loop-left : goal.decreases-loop-left
decreases-loop-left l = l.left
