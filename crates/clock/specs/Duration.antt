-- A duration.
use Rattle.std.specs.Prelude.{ℕ}
use Rattle.clock.specs.Fault.{Answered}
use Rattle.clock.specs.Field.{hms}
use Rattle.clock.specs.declared.Hms.{Hms}

-- "A duration's hours go to 99; hour, minute and second of an offset or duration are fields of their own too."
unfoldable pub duration_of : ℕ → ℕ → ℕ → Answered Hms
duration_of h m s = hms 0 100 h m s
