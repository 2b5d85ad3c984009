-- What the functions of rolls.rt say of each other: the marks stay flat, and one segment is made of them at a time.
use Rattle.std.specs.Prelude.{ℕ, ◌+◌, ◌*◌, Bool, false, List, get_or, if◌then◌else◌}
use Rattle.std.proofs.Math.Seq.{paste}
use Rattle.roll.specs.Roll.{begun_with, continued, asked}
use Rattle.roll.specs.declared.Roll as of
use Rattle.roll.specs.declared.Marks.{Marks}
use Rattle.roll.specs.declared.Segment.{Segment}
use Rattle.cabinet.specs.Numbers.{bit, is_set}
use Rattle.cabinet.specs.Table.{table}
use Rattle.cabinet.specs.Roll.{end_in, came_in, ends_in, marks_by, roll_in, roll_says, roll_answer, Outcome, holds}
use Rattle.cabinet.specs.declared.rolls.Roll.{Roll}
use Rattle.roll.specs.declared.Kept.{Kept}

-- which numbers have come; none where nothing is kept
unfoldable pub flags_kept : Bool → List ℕ → List Bool
flags_kept keep came = table 256 (λ n. if keep then came_in came n else false)

-- the same as numbers
unfoldable pub numbersOf : List Bool → List ℕ
numbersOf flags = table 256 (λ n. bit (get_or flags n false))

-- which ends are known, as 0 and 1; none where nothing is kept
unfoldable pub known_kept : Bool → List ℕ → List ℕ
known_kept keep known = table 32 (λ k. bit (if keep then is_set (get_or known k 0) else false))

-- the ends that are known; 0 for the others
unfoldable pub ends_settled : List ℕ → List ℕ → List ℕ
ends_settled known end = table 32 (λ k. if is_set (get_or known k 0) then get_or end k 0 else 0)

-- the eight of segment k
unfoldable pub eight_of : List Bool → ℕ → List Bool
eight_of flags k = table 8 (λ i. get_or flags (k * 8 + i) false)

-- these eight in the place of those of segment k
abbrev pub with_eight : List Bool → ℕ → List Bool → List Bool
with_eight flags k eight = paste flags (k * 8) eight 8

-- segment k, whose end is this number where it is known
abbrev pub segment_in : List Bool → ℕ → ℕ → ℕ → Segment
segment_in flags known end k = record { end = end_in known end; came = eight_of flags k }

-- the marks of flat numbers
abbrev pub marks_of : List Bool → List ℕ → List ℕ → Marks
marks_of flags known end = marks_by (λ n. get_or flags n false) (ends_in known end)

-- the roll after a section that is taken: with what has come, or afresh
abbrev pub after_taking : Roll → Bool → List ℕ → of.Roll
after_taking r keep s = if keep then continued (roll_in r) s else begun_with s

-- what is kept beside the marks
abbrev pub kept_of : of.Roll → Kept
kept_of r = record { begun = r.begun; sub_table = r.sub_table; version = r.version; last = r.last }

-- a roll and its answer
abbrev pub saying : of.Roll → Outcome
saying r = holds (roll_says r) (roll_answer (asked r))
