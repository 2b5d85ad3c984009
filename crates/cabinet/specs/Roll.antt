-- The roll and its answer in numbers.
use Rattle.std.specs.Prelude.{ℕ, ◌+◌, ◌*◌, Bool, List, get_or, if◌then◌else◌, Option, None, Some}
use Rattle.head.specs.declared.SubTable.{SubTable}
use Rattle.roll.specs.Answer.{Says, missing, complete, refusing}
use Rattle.roll.specs.Marks.{segment_at, has}
use Rattle.roll.specs.Roll as roll
use Rattle.roll.specs.Roll.{taking}
use Rattle.roll.specs.declared.Roll as of
use Rattle.roll.specs.declared.Marks.{Marks}
use Rattle.roll.specs.declared.Segment.{Segment}
use Rattle.cabinet.specs.Numbers.{bit, is_set}
use Rattle.cabinet.specs.Table.{table}
use Rattle.cabinet.specs.declared.rolls.Roll.{Roll}
use Rattle.cabinet.specs.declared.rolls.RollAnswer.{RollAnswer}

-- any number but 0 says that the end is known
unfoldable pub end_in : ℕ → ℕ → Option ℕ
end_in known end = if is_set known then Some end else None

-- 1 for an end that is known
unfoldable pub known_says : Option ℕ → ℕ
known_says None = 0
known_says (Some e) = 1

-- the end; 0 where it is not known
unfoldable pub end_says : Option ℕ → ℕ
end_says None = 0
end_says (Some e) = e

-- segment k, where these numbers have come and the segments have these ends
unfoldable pub segment_by : (ℕ → Bool) → (ℕ → Option ℕ) → ℕ → Segment
segment_by came end k = record { end = end k; came = table 8 (λ i. came (k * 8 + i)) }

-- the marks, where these numbers have come and the segments have these ends
unfoldable pub marks_by : (ℕ → Bool) → (ℕ → Option ℕ) → Marks
marks_by came end = record { segments = table 32 (segment_by came end) }

-- any number but 0 is a mark
abbrev pub came_in : List ℕ → ℕ → Bool
came_in came n = is_set (get_or came n 0)

abbrev pub ends_in : List ℕ → List ℕ → ℕ → Option ℕ
ends_in known end k = end_in (get_or known k 0) (get_or end k 0)

abbrev pub sub_table_in : Roll → SubTable
sub_table_in r = record {
  table_id = r.table_id;
  extension = r.extension;
  transport_stream_id = r.transport_stream_id;
  original_network_id = r.original_network_id;
}

-- the roll that the numbers stand for
unfoldable pub roll_in : Roll → of.Roll
roll_in r = record {
  begun = is_set r.begun;
  sub_table = sub_table_in r;
  version = r.version;
  last = r.last;
  marks = marks_by (came_in r.came) (ends_in r.known r.end);
}

-- the numbers for a roll: a mark is 1
unfoldable pub roll_says : of.Roll → Roll
roll_says r = record {
  begun = bit r.begun;
  table_id = r.sub_table.table_id;
  extension = r.sub_table.extension;
  transport_stream_id = r.sub_table.transport_stream_id;
  original_network_id = r.sub_table.original_network_id;
  version = r.version;
  last = r.last;
  came = table 256 (λ n. bit (has r.marks n));
  known = table 32 (λ k. known_says (segment_at r.marks k).end);
  end = table 32 (λ k. end_says (segment_at r.marks k).end);
}

-- "the smallest number missing, or complete"; or the refusal's number and place
abbrev pub roll_answer : Says → RollAnswer
roll_answer (missing n) = record { number = 0; place = 0; complete = 0; missing = n }
roll_answer complete = record { number = 0; place = 0; complete = 1; missing = 0 }
roll_answer (refusing k p) = record { number = k; place = p; complete = 0; missing = 0 }

-- "itself unchanged": a refusal leaves every number as it was
abbrev pub keeps : Roll → of.Roll → Says → Roll
keeps before after (missing n) = roll_says after
keeps before after complete = roll_says after
keeps before after (refusing k p) = before

-- what a call leaves: the roll, and the answer
pub record Outcome : Type 0 where
  pub roll : Roll
  pub answer : RollAnswer

-- the two put together
abbrev pub holds : Roll → RollAnswer → Outcome
holds r answer = record { roll = r; answer = answer }

-- the roll's outcome in numbers
abbrev pub outcome_says : Roll → roll.Outcome → Outcome
outcome_says before o = holds (keeps before o.roll o.says) (roll_answer o.says)

-- what `lohitunga_roll_take` makes of a roll in numbers and a section
unfoldable pub rolling : Roll → List ℕ → Outcome
rolling r s = outcome_says r (taking (roll_in r) s)
