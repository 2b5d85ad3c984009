-- What a roll says.
use Rattle.std.specs.Prelude.{ℕ, Result, Ok, Err}
use Rattle.verdict.specs.Verdict as verdict
use Rattle.verdict.specs.Verdict.{number_of, place_of}
use Rattle.roll.specs.declared.Progress.{Progress}
use Rattle.roll.specs.declared.Progress.TheVariants.{Missing, Complete}
use Rattle.roll.specs.declared.Refusal.{Refusal}
use Rattle.roll.specs.declared.Refusal.TheVariants.{Judge, NotCurrent, AnotherSubTable, NoSubTable, SegmentEnd}

-- "the smallest number missing, or complete"; or a refusal's number and place
pub data Says : Type 0 where
  missing : ℕ → Says
  complete : Says
  refusing : ℕ → ℕ → Says

-- document 01's and 02's values for what has come
abbrev pub told_progress : Progress → Says
told_progress (Missing n) = missing n
told_progress Complete = complete

-- their number and values for every refusal
abbrev pub told_refusal : Refusal → Says
told_refusal (Judge r) = refusing (number_of (verdict.told_refusal r)) (place_of (verdict.told_refusal r))
told_refusal NotCurrent = refusing 81 0
told_refusal AnotherSubTable = refusing 82 0
told_refusal NoSubTable = refusing 83 0
told_refusal SegmentEnd = refusing 84 0

-- and for every answer
abbrev pub told_answer : Result Progress Refusal → Says
told_answer (Ok p) = told_progress p
told_answer (Err r) = told_refusal r
