-- `section::judge::judge_one_loop` meets its contract: where the loop fills its container, its length is there.
use mathlib.Core.Path.{refl, sym, ap}
use native.Mathlib.Omega.{arith}
use Rattle.verdict.specs.Verdict.{is_accepted}
use Rattle.section.proofs.Readings.{fills_tells}
use Rattle.section.proofs.judge.judge_one_loop.Goals as goal

pub overflow_add-at : goal.overflow_add-at
overflow_add-at c = omega (arith, fills_tells _ _ _ refl (ap is_accepted (sym c.in_ok-judge_fills.ensures)))
