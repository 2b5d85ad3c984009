-- Step by step, as the law has it.
use native.Mathlib.Omega.{arith}
use Rattle.cabinet.proofs.RollTaken.{taken_says}
use Rattle.cabinet.proofs.rolls.taken.Goals as goal

pub returns : goal.returns
returns c =
    taken_says c.args.roll c.args.keep c.args.section.now
    (omega (arith, c.shared_slice_known-1.given 6)) c.requires
    c.flags_in-flags.ensures c.known_in-known.ensures c.ends_in-end.ensures c.number_of.ensures
    c.segment_in.ensures c.segment_after-segment.ensures c.put_eight.ensures c.known_says.ensures
    c.end_says.ensures c.kept_after-kept.ensures c.of_flag.ensures c.is_schedule-schedule.ensures c.missing-progress.ensures
    c.numbers_of.ensures c.progress_says.ensures
