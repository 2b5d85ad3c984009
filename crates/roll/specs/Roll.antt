-- A roll and a section: document 01, "The roll", and document 02, request (i).
use Rattle.std.specs.Prelude.{ℕ, List, Bool, true, false, not, ◌&&◌, ◌||◌, eqb, ltb, get_or, Result, Ok, Err, if◌then◌else◌}
use Rattle.verdict.specs.Verdict.{is_accepted, number_of, place_of}
use Rattle.section.specs.Reading.{judged}
use Rattle.head.specs.Head.{version_in, is_current, number_in, last_in, has_no_sub_table}
use Rattle.head.specs.SubTable.{sub_table_of, compared, same_ids}
use Rattle.roll.specs.Answer.{Says, missing, refusing, told_refusal, told_answer}
use Rattle.roll.specs.Marks.{segment_of, unmarked, with_mark, marked, smallest_missing}
use Rattle.roll.specs.Segments.{is_schedule, ending_at, marked_until, smallest_in_segments}
use Rattle.head.specs.declared.SubTable.{SubTable}
use Rattle.roll.specs.declared.Marks.{Marks}
use Rattle.roll.specs.declared.Segment.{Segment}
use Rattle.roll.specs.declared.Refusal.{Refusal}
use Rattle.roll.specs.declared.Roll.{Roll}
use Rattle.roll.specs.declared.Step.{Step}

-- 82: "another sub-table"; "An empty roll takes any." Of a roll that is begun or not, with this sub-table
abbrev pub another_for : Bool → SubTable → List ℕ → Bool
another_for begun kept s = if begun then not (same_ids (compared kept) (sub_table_of s)) else false

unfoldable pub another : Roll → List ℕ → Bool
another r s = another_for r.begun r.sub_table s

-- "A new version or last number starts it afresh", and so does an empty roll's first section
abbrev pub afresh_for : Bool → ℕ → ℕ → List ℕ → Bool
afresh_for begun version last s = if begun then (not (eqb version (version_in s)) || not (eqb last (last_in s))) else true

unfoldable pub starts_afresh : Roll → List ℕ → Bool
starts_afresh r s = afresh_for r.begun r.version r.last s

-- segment_last_section_number: byte 12 of EIT
abbrev pub segment_end_in : List ℕ → ℕ
segment_end_in s = get_or s 12 0

-- 84: "when segment_last_section_number lies below section_number, above last_section_number or in another segment"; of
-- schedules alone: "Other tables keep the old rule."
unfoldable pub end_unfit : List ℕ → Bool
end_unfit s =
    is_schedule (get_or s 0 0) && (ltb (segment_end_in s) (number_in s)
    || (ltb (last_in s) (segment_end_in s) || not (eqb (segment_of (segment_end_in s)) (segment_of (number_in s)))))

-- the segment that a section stands in, after it
unfoldable pub segment_after : Segment → List ℕ → Segment
segment_after g s =
    if is_schedule (get_or s 0 0) then with_mark (ending_at g (segment_end_in s)) (number_in s)
    else with_mark g (number_in s)

-- the marks after a section: of a schedule, with its segment's end
unfoldable pub marked_by : Marks → List ℕ → Marks
marked_by m s =
    if is_schedule (get_or s 0 0) then marked_until m (number_in s) (segment_end_in s)
    else marked m (number_in s)

-- the roll in which this section alone has come
unfoldable pub begun_with : List ℕ → Roll
begun_with s =
    record {
      begun = true;
      sub_table = sub_table_of s;
      version = version_in s;
      last = last_in s;
      marks = marked_by unmarked s;
    }

-- the roll in which this section has come too
unfoldable pub continued : Roll → List ℕ → Roll
continued r s =
    record {
      begun = r.begun;
      sub_table = r.sub_table;
      version = r.version;
      last = r.last;
      marks = marked_by r.marks s;
    }

-- the roll after a section that it takes
unfoldable pub roll_after : Roll → List ℕ → Roll
roll_after r s = if starts_afresh r s then begun_with s else continued r s

-- the answer of these marks, of a schedule by its segments
unfoldable pub answered : Bool → Marks → ℕ → Says
answered schedule m last = if schedule then smallest_in_segments m last else smallest_missing m last

-- the answer without a section: of an empty roll nothing has come, so that 0 is missing
unfoldable pub asked : Roll → Says
asked r = if r.begun then answered (is_schedule r.sub_table.table_id) r.marks r.last else missing 0

-- a roll and what it says
pub record Outcome : Type 0 where
  pub roll : Roll
  pub says : Says

-- what a step of the program comes to
abbrev pub heard : Step → Outcome
heard x = record { roll = x.roll; says = told_answer x.answer }

-- "itself unchanged"
abbrev pub refusal : Roll → ℕ → ℕ → Outcome
refusal r k p = record { roll = r; says = refusing k p }

-- the roll as it is now, and its answer
abbrev pub answering : Roll → Outcome
answering r = record { roll = r; says = asked r }

-- "84, after 81"
unfoldable pub taking_current : Roll → List ℕ → Outcome
taking_current r s = if end_unfit s then refusal r 84 0 else answering (roll_after r s)

-- "then 83 (TDT, TOT), 82 (another sub-table), 81 (current_next_indicator 0), itself unchanged"
unfoldable pub taking_accepted : Roll → List ℕ → Outcome
taking_accepted r s =
    if has_no_sub_table s then refusal r 83 0
    else if another r s then refusal r 82 0
    else if is_current s then taking_current r s
    else refusal r 81 0

-- "It takes a section; refuses 1 to 10", with the judge's place, before all else
unfoldable pub taking : Roll → List ℕ → Outcome
taking r s = if is_accepted (judged s) then taking_accepted r s else refusal r (number_of (judged s)) (place_of (judged s))

-- what a section does to a roll: a refusal; or it is taken, and the roll goes on with what has come, or starts afresh
pub data Goes : Type 0 where
  refuses : Says → Goes
  takes : Bool → Goes

-- document 01's and 02's number and values for every case
abbrev pub told_course : Result Bool Refusal → Goes
told_course (Ok on) = takes on
told_course (Err r) = refuses (told_refusal r)

-- "84, after 81"
unfoldable pub course_if_current : Bool → ℕ → ℕ → List ℕ → Goes
course_if_current begun version last s =
    if end_unfit s then refuses (refusing 84 0)
    else takes (not (afresh_for begun version last s))

-- "then 83 (TDT, TOT), 82 (another sub-table), 81 (current_next_indicator 0)"
unfoldable pub course_if_accepted : Bool → SubTable → ℕ → ℕ → List ℕ → Goes
course_if_accepted begun kept version last s =
    if has_no_sub_table s then refuses (refusing 83 0)
    else if another_for begun kept s then refuses (refusing 82 0)
    else if is_current s then course_if_current begun version last s
    else refuses (refusing 81 0)

-- what a section does to a roll that is begun or not, with this sub-table, version and last number
unfoldable pub course_of : Bool → SubTable → ℕ → ℕ → List ℕ → Goes
course_of begun kept version last s =
    if is_accepted (judged s) then course_if_accepted begun kept version last s
    else refuses (refusing (number_of (judged s)) (place_of (judged s)))

-- nothing has come
unfoldable pub empty_roll : Roll
empty_roll =
    record {
      begun = false;
      sub_table = record { table_id = 0; extension = 0; transport_stream_id = 0; original_network_id = 0 };
      version = 0;
      last = 0;
      marks = unmarked;
    }
