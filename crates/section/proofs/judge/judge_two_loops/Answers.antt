-- `section::judge::judge_two_loops` meets its contract: where there is room for the second length, the top loop ends in the bytes.
use Prim.Native.Nat.{◌+◌, ◌≤◌}
use mathlib.Core.Path.{sym, ap}
use native.Mathlib.Omega.{arith}
use lib.ListN.{length}
use lib.Seq.{length-take-le}
use Rattle.verdict.specs.Verdict.{is_accepted}
use Rattle.section.proofs.Readings.{room_tells}
use Rattle.section.proofs.judge.judge_two_loops.Goals as goal
use Rattle.section.proofs.judge.judge_two_loops.Goals.{After-length12_at}

fits : (c : After-length12_at) → c.args.at + (2 + c.length12_at.result) + 2 ≤ length c.args.bytes.now
fits c = room_tells _ _ _ c.length12_at.ensures.same (ap is_accepted (sym c.in_ok-judge_room.ensures))

pub overflow_add-end-2 : goal.overflow_add-end-2
overflow_add-end-2 c = omega (arith, fits (goal.at.overflow_add-end-2 c).After-length12_at)

pub slice_bounds-judge_descriptors-end : goal.slice_bounds-judge_descriptors-end
slice_bounds-judge_descriptors-end c =
    sym (length-take-le _ _ (omega (arith, fits (goal.at.slice_bounds-judge_descriptors-end c).After-length12_at)))

pub overflow_add-at : goal.overflow_add-at
overflow_add-at c = omega (arith, fits (goal.at.overflow_add-at c).After-length12_at)
