-- Where no whole month is left, the date's MJD is the one given.
use native.Mathlib.Omega.{arith}
use Rattle.calendar.proofs.Counting.{found}
use Rattle.calendar.proofs.counted.Goals as goal

pub returns : goal.returns
returns c =
    let l = c.loop-left in
    found c.years_off-year.result.year l.month l.left l.invariant.0 c.args.mjd c.years_off-year.ensures.0 l.invariant.1
    (omega arith) c.requires (omega arith)
