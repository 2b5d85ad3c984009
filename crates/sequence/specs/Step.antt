-- One section for any roll, also for one that a caller made by hand: document 01, "The roll", and of schedules document 02,
-- request (i), by the section's own bytes.
use Rattle.std.specs.Prelude.{ℕ, ◌+◌, ◌-◌, ◌*◌, ◌/◌, ◌<◌, ◌≤◌, ◌≡◌, true, false, ◌⊎◌, ◌↔◌, List, eqb, get_or, if◌then◌else◌, Some}
use Rattle.wire.specs.Bytes.{Bytes}
use Rattle.loops.specs.Descriptors.{Placed}
use Rattle.section.specs.Grammar.{Section}
use Rattle.section.specs.Faults.{First}
use Rattle.roll.specs.Answer.{Says, missing, complete, refusing}
use Rattle.roll.specs.Marks.{segment_at, has, Whole}
use Rattle.head.specs.Stands.{Versioned, OfSubTable}
use Rattle.roll.specs.Roll.{Outcome}
use Rattle.roll.specs.declared.Marks.{Marks}
use Rattle.roll.specs.declared.Roll.{Roll}

-- ---- refusals

-- "for table_id 0x50 to 0x6F"
abbrev pub Schedule : ℕ → Type 0
Schedule id = (0x50 ≤ id) × (id ≤ 0x6F)

-- "when segment_last_section_number", byte 12, "lies below section_number, above last_section_number or in another segment"
pub data Contradicts (s : List ℕ) : Type 0 where
  below : get_or s 12 0 < get_or s 6 0 → Contradicts s
  above : get_or s 7 0 < get_or s 12 0 → Contradicts s
  in_another : (get_or s 12 0 / 8 ≡ get_or s 6 0 / 8 → ⊥) → Contradicts s

-- 83, 82, 81 and 84, each by itself
pub data Applies (r : Roll) (s : List ℕ) : ℕ → Type 0 where
  -- "83 (TDT, TOT)"
  no_sub_table : (get_or s 0 0 ≡ 0x70) ⊎ (get_or s 0 0 ≡ 0x73) → Applies r s 83
  -- "82 (another sub-table)"; "An empty roll takes any."
  another : r.begun ≡ true → (OfSubTable r.sub_table s → ⊥) → Applies r s 82
  -- "81 (current_next_indicator 0)"
  not_current : (version : ℕ) → Versioned s version 0 → Applies r s 81
  -- "84 .. when segment_last_section_number lies ..", of a schedule
  segment-end : Schedule (get_or s 0 0) → Contradicts s → Applies r s 84

-- "refuses 1 to 10, then 83 .., 82 .., 81 .."; "84, after 81": 83 is the first, 84 the fourth
abbrev pub turn_of : ℕ → ℕ
turn_of k = if eqb k 84 then 4 else 84 - k

-- the first refusal for a roll, its number and place
pub data FirstFor (r : Roll) (s : List ℕ) : ℕ → ℕ → Type 0 where
  of_the_judge : {k p : ℕ} → First s k p → FirstFor r s k p
  of_the_roll : {k : ℕ} (loops : List (List Placed)) → Section s loops → Applies r s k
      → ((j : ℕ) → turn_of j < turn_of k → Applies r s j → ⊥) → FirstFor r s k 0

-- ---- a section that is taken, of a table that is no schedule

-- the number has come: with this section; or before, where version and last number stay, since "A new version or last
-- number starts it afresh"
pub data ComeFor (r : Roll) (s : List ℕ) (n : ℕ) : Type 0 where
  just : get_or s 6 0 ≡ n → ComeFor r s n
  earlier : r.begun ≡ true → Versioned s r.version 1 → r.last ≡ get_or s 7 0 → has r.marks n ≡ true
      → ComeFor r s n

-- "It answers the smallest number missing, or complete: all from 0 to last."
pub data Answers (come : ℕ → Type 0) (last : ℕ) : Says → Type 0 where
  all : ((n : ℕ) → n ≤ last → come n) → Answers come last complete
  least : (n : ℕ) → n ≤ last → (come n → ⊥) → ((k : ℕ) → k < n → come k) → Answers come last (missing n)

-- the roll and the answer after a section that is taken
pub record AfterTaking (r : Roll) (s : List ℕ) (o : Outcome) : Type 0 where
  pub begun : o.roll.begun ≡ true
  pub ids : OfSubTable o.roll.sub_table s
  pub version : Versioned s o.roll.version 1
  pub last : o.roll.last ≡ get_or s 7 0
  pub marks : (n : ℕ) → (has o.roll.marks n ≡ true) ↔ ComeFor r s n
  pub says : Answers (ComeFor r s) (get_or s 7 0) o.says

-- ---- schedules: "the numbers stand in thirty-two segments of eight sections, and a segment may end early"

-- e is the end of segment k, and it is known: "one kept in a roll but outside its segment or above the last number counts
-- as unknown"
pub record Known (m : Marks) (last k e : ℕ) : Type 0 where
  pub kept : (segment_at m k).end ≡ Some e
  pub inside : (8 * k ≤ e) × (e ≤ 8 * k + 7)
  pub within : e ≤ last

-- the number has come: "its marks as unset", where its segment's end is not known
pub record CameIn (m : Marks) (last n : ℕ) : Type 0 where
  pub end : ℕ
  pub known : Known m last (n / 8) end
  pub mark : has m n ≡ true

-- "numbers that a known segment has left out", where these are the ends of segments
abbrev pub LeftOut : (ℕ → ℕ → Type 0) → ℕ → Type 0
LeftOut ends n = (e : ℕ) × ends (n / 8) e × (e < n)

-- "Complete then means: for each segment from 0 to that of last_section_number, every number from its first to its own
-- segment_last_section_number has come."
abbrev pub EachSegment : (ℕ → ℕ → Type 0) → (ℕ → Type 0) → ℕ → Type 0
EachSegment ends come last = (k : ℕ) → k ≤ last / 8 → (e : ℕ) × ends k e × ((n : ℕ) → 8 * k ≤ n → n ≤ e → come n)

-- ""Smallest missing" passes over numbers that a known segment has left out."
pub record SmallestPast (ends : ℕ → ℕ → Type 0) (come : ℕ → Type 0) (last n : ℕ) : Type 0 where
  pub within : n ≤ last
  pub not_come : come n → ⊥
  pub not_left_out : LeftOut ends n → ⊥
  pub before : (j : ℕ) → j < n → come j ⊎ LeftOut ends j

-- the answer of a schedule
pub data AnswersInSegments (ends : ℕ → ℕ → Type 0) (come : ℕ → Type 0) (last : ℕ) : Says → Type 0 where
  all : EachSegment ends come last → AnswersInSegments ends come last complete
  least : (n : ℕ) → SmallestPast ends come last n → AnswersInSegments ends come last (missing n)

-- the section goes on with what the roll has: "A new version or last number starts it afresh"
pub record GoesOn (r : Roll) (s : List ℕ) : Type 0 where
  pub begun : r.begun ≡ true
  pub version : Versioned s r.version 1
  pub last : r.last ≡ get_or s 7 0

-- the end of a segment: this section's, of its own segment; else the one before
pub data EndFor (r : Roll) (s : List ℕ) (k e : ℕ) : Type 0 where
  just : get_or s 6 0 / 8 ≡ k → get_or s 12 0 ≡ e → EndFor r s k e
  earlier : GoesOn r s → (get_or s 6 0 / 8 ≡ k → ⊥) → Known r.marks r.last k e → EndFor r s k e

-- the number has come: with this section; or before, unless this section is of its segment and has another end, since "A
-- segment end that changes within one version empties that segment"
pub data ComeInFor (r : Roll) (s : List ℕ) (n : ℕ) : Type 0 where
  just : get_or s 6 0 ≡ n → ComeInFor r s n
  earlier : GoesOn r s → CameIn r.marks r.last n
      → (get_or s 6 0 / 8 ≡ n / 8 → Known r.marks r.last (n / 8) (get_or s 12 0)) → ComeInFor r s n

-- the roll and the answer after a section of a schedule that is taken
pub record AfterTakingInSegments (r : Roll) (s : List ℕ) (o : Outcome) : Type 0 where
  pub begun : o.roll.begun ≡ true
  pub ids : OfSubTable o.roll.sub_table s
  pub version : Versioned s o.roll.version 1
  pub last : o.roll.last ≡ get_or s 7 0
  pub ends : (k e : ℕ) → Known o.roll.marks o.roll.last k e ↔ EndFor r s k e
  pub marks : (n : ℕ) → CameIn o.roll.marks o.roll.last n ↔ ComeInFor r s n
  pub says : AnswersInSegments (EndFor r s) (ComeInFor r s) (get_or s 7 0) o.says

-- ---- asked without a section

-- the answer of any roll without a section: of an empty one nothing has come
pub data Asked (r : Roll) : Says → Type 0 where
  empty : r.begun ≡ false → Asked r (missing 0)
  begun : {x : Says} → r.begun ≡ true → (Schedule r.sub_table.table_id → ⊥)
      → Answers (λ n. has r.marks n ≡ true) r.last x → Asked r x
  in_segments : {x : Says} → r.begun ≡ true → Schedule r.sub_table.table_id
      → AnswersInSegments (Known r.marks r.last) (CameIn r.marks r.last) r.last x → Asked r x

-- ---- statements about whatever takes a roll and a section, or is asked

-- what may become of a roll and a section: the roll after it, and what it says
abbrev pub Roller : Type 1
Roller = Roll → List ℕ → Outcome → Type 0

-- "It answers the smallest number missing, or complete", asked of any roll
abbrev pub AnswersAny : (Roll → Says → Type 0) → Type 0
AnswersAny ask = (r : Roll) (x : Says) → ask r x → Asked r x

-- the two sentences on schedules by themselves, of any roll that is begun
abbrev pub CompleteExactlyIf : (Roll → Says → Type 0) → Type 0
CompleteExactlyIf ask = (r : Roll) (x : Says) → ask r x → r.begun ≡ true → Schedule r.sub_table.table_id
    → (x ≡ complete) ↔ EachSegment (Known r.marks r.last) (CameIn r.marks r.last) r.last

abbrev pub MissingExactlyIf : (Roll → Says → Type 0) → Type 0
MissingExactlyIf ask = (r : Roll) (x : Says) → ask r x → r.begun ≡ true → Schedule r.sub_table.table_id
    → (n : ℕ) → (x ≡ missing n) ↔ SmallestPast (Known r.marks r.last) (CameIn r.marks r.last) r.last n

module _ (take : Roller) where
  -- "Input to which numbered refusals apply gets the first of them in document 01's order ..; no other input is
  -- refused."
  abbrev pub RefusesExactlyIf : Type 0
  RefusesExactlyIf = (r : Roll) (s : List ℕ) (o : Outcome) → take r s o → (k p : ℕ)
      → (o.says ≡ refusing k p) ↔ FirstFor r s k p

  -- "itself unchanged"
  abbrev pub RefusalKeeps : Type 0
  RefusalKeeps = (r : Roll) (s : List ℕ) (o : Outcome) → take r s o → (k p : ℕ) → FirstFor r s k p → o.roll ≡ r

  -- "no other input is refused": every other section is taken
  abbrev pub TakesElse : Type 0
  TakesElse = (r : Roll) (s : List ℕ) (o : Outcome) → take r s o → Bytes s → Whole r.marks
      → ((k p : ℕ) → FirstFor r s k p → ⊥) → (Schedule (get_or s 0 0) → ⊥) → AfterTaking r s o

  -- and so is one of a schedule
  abbrev pub TakesElseInSegments : Type 0
  TakesElseInSegments = (r : Roll) (s : List ℕ) (o : Outcome) → take r s o → Bytes s → Whole r.marks
      → ((k p : ℕ) → FirstFor r s k p → ⊥) → Schedule (get_or s 0 0) → AfterTakingInSegments r s o

  -- "A segment end that changes within one version empties that segment" and no other: of its eight numbers the section's
  -- alone has come, and every other segment is as it was
  abbrev pub ChangeEmpties : Type 0
  ChangeEmpties = (r : Roll) (s : List ℕ) (o : Outcome) → take r s o → Bytes s → Whole r.marks
      → ((k p : ℕ) → FirstFor r s k p → ⊥) → Schedule (get_or s 0 0) → GoesOn r s
      → ((segment_at r.marks (get_or s 6 0 / 8)).end ≡ Some (get_or s 12 0) → ⊥)
      → ((n : ℕ) → n / 8 ≡ get_or s 6 0 / 8 → (has o.roll.marks n ≡ true) ↔ (n ≡ get_or s 6 0))
      × ((k : ℕ) → (k ≡ get_or s 6 0 / 8 → ⊥) → segment_at o.roll.marks k ≡ segment_at r.marks k)
