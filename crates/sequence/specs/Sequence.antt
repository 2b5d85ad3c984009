-- Whole sequences of sections, by their bytes alone.
use Rattle.std.specs.Prelude.{ℕ, ◌/◌, ◌≡◌, ◌↔◌, List, [], ◌∷◌, Bool, true, false, not, ◌&&◌, get_or, if◌then◌else◌}
use Rattle.wire.specs.Bytes.{Bytes}
use Rattle.verdict.specs.Verdict.{accepted, is_accepted}
use Rattle.verdict.specs.Verdict as verdict
use Rattle.section.specs.Reading.{judged}
use Rattle.roll.specs.Answer.{Says, missing, complete}
use Rattle.roll.specs.Marks.{has, Whole}
use Rattle.head.specs.SubTable.{sub_table_of, same_ids}
use Rattle.head.specs.Head.{version_in, number_in, last_in, is_current, has_no_sub_table}
use Rattle.roll.specs.Roll.{segment_end_in, end_unfit, Outcome, refusal}
use Rattle.sequence.specs.Step.{Schedule, Known, CameIn, EachSegment, SmallestPast, Answers, AnswersInSegments, Roller}
use Rattle.roll.specs.declared.Roll.{Roll}

-- In every list of sections below, the last one that was given stands first.

-- of the sub-table of those taken before; "An empty roll takes any."
abbrev pub belongs : List (List ℕ) → List ℕ → Bool
belongs [] s = true
belongs (u ∷ t) s = same_ids (sub_table_of u) (sub_table_of s)

-- none of 1 to 10, 83, 82, 81 and 84 applies to s, where t were taken before
unfoldable pub unrefused : List (List ℕ) → List ℕ → Bool
unrefused t s = is_accepted (judged s) && (not (has_no_sub_table s) && (belongs t s && (is_current s && not (end_unfit s))))

-- the first refusal that applies to s, its number and place, where t were taken before
pub data FirstRefusal (t : List (List ℕ)) (s : List ℕ) : ℕ → ℕ → Type 0 where
  -- "refuses 1 to 10"
  by_the_judge : {k p : ℕ} → judged s ≡ verdict.refused k p → FirstRefusal t s k p
  -- "then 83 (TDT, TOT)"
  no_sub_table : judged s ≡ accepted → has_no_sub_table s ≡ true → FirstRefusal t s 83 0
  -- "82 (another sub-table)"
  another_sub_table : judged s ≡ accepted → has_no_sub_table s ≡ false → belongs t s ≡ false → FirstRefusal t s 82 0
  -- "81 (current_next_indicator 0)"
  not_current : judged s ≡ accepted → has_no_sub_table s ≡ false → belongs t s ≡ true → is_current s ≡ false
      → FirstRefusal t s 81 0
  -- "84, after 81, when segment_last_section_number lies .."
  segment-end : judged s ≡ accepted → has_no_sub_table s ≡ false → belongs t s ≡ true → is_current s ≡ true
      → end_unfit s ≡ true → FirstRefusal t s 84 0

-- those that are taken, of all that were given
unfoldable pub taken_of : List (List ℕ) → List (List ℕ)
taken_of [] = []
taken_of (s ∷ given) = if unrefused (taken_of given) s then s ∷ taken_of given else taken_of given

-- the number has come since the last fresh start: with the last section taken; or before, where that one has the
-- version and the last number of the one taken before it, since "A new version or last number starts it afresh"
pub data Come : List (List ℕ) → ℕ → Type 0 where
  just : {s : List ℕ} {t : List (List ℕ)} {n : ℕ} → number_in s ≡ n → Come (s ∷ t) n
  earlier : {s u : List ℕ} {t : List (List ℕ)} {n : ℕ} → version_in s ≡ version_in u → last_in s ≡ last_in u
      → Come (u ∷ t) n → Come (s ∷ u ∷ t) n

-- of a schedule, the end of a segment: that of the last section of it that was taken since the last fresh start
pub data EndOf : List (List ℕ) → ℕ → ℕ → Type 0 where
  just : {s : List ℕ} {t : List (List ℕ)} {k e : ℕ} → number_in s / 8 ≡ k → segment_end_in s ≡ e → EndOf (s ∷ t) k e
  earlier : {s u : List ℕ} {t : List (List ℕ)} {k e : ℕ} → version_in s ≡ version_in u → last_in s ≡ last_in u
      → (number_in s / 8 ≡ k → ⊥) → EndOf (u ∷ t) k e → EndOf (s ∷ u ∷ t) k e

-- of a schedule, the number has come since the last fresh start: with the last section taken; or before, unless that one is
-- of its segment and has another end than the segment had, since "A segment end that changes within one version empties
-- that segment"
pub data ComeInSegments : List (List ℕ) → ℕ → Type 0 where
  just : {s : List ℕ} {t : List (List ℕ)} {n : ℕ} → number_in s ≡ n → ComeInSegments (s ∷ t) n
  earlier : {s u : List ℕ} {t : List (List ℕ)} {n : ℕ} → version_in s ≡ version_in u → last_in s ≡ last_in u
      → (number_in s / 8 ≡ n / 8 → EndOf (u ∷ t) (n / 8) (segment_end_in s)) → ComeInSegments (u ∷ t) n
      → ComeInSegments (s ∷ u ∷ t) n

-- the answer where these were taken: "Other tables keep the old rule."
pub data Answered : List (List ℕ) → Says → Type 0 where
  nothing : Answered [] (missing 0)
  some : {s : List ℕ} {t : List (List ℕ)} {x : Says} → (Schedule (get_or s 0 0) → ⊥)
      → Answers (Come (s ∷ t)) (last_in s) x → Answered (s ∷ t) x
  in_segments : {s : List ℕ} {t : List (List ℕ)} {x : Says} → Schedule (get_or s 0 0)
      → AnswersInSegments (EndOf (s ∷ t)) (ComeInSegments (s ∷ t)) (last_in s) x → Answered (s ∷ t) x

-- sections of bytes, as any slice is
pub data AllBytes : List (List ℕ) → Type 0 where
  none : AllBytes []
  more : (s : List ℕ) {given : List (List ℕ)} → Bytes s → AllBytes given → AllBytes (s ∷ given)

-- what a roll keeps of the last section that it took
pub record Kept (s : List ℕ) (r : Roll) : Type 0 where
  pub begun : r.begun ≡ true
  pub ids : r.sub_table ≡ sub_table_of s
  pub version : r.version ≡ version_in s
  pub last : r.last ≡ last_in s
  pub whole : Whole r.marks

-- the roll's marks are the numbers that have come since the last fresh start, where these sections were taken; of a
-- schedule, its ends are those of the segments too
pub data Agrees : List (List ℕ) → Roll → Type 0 where
  empty : {r : Roll} → r.begun ≡ false → Agrees [] r
  begun : {s : List ℕ} {t : List (List ℕ)} {r : Roll} → Kept s r → (Schedule (get_or s 0 0) → ⊥)
      → ((n : ℕ) → has r.marks n ≡ true → Come (s ∷ t) n)
      → ((n : ℕ) → Come (s ∷ t) n → has r.marks n ≡ true) → Agrees (s ∷ t) r
  in_segments : {s : List ℕ} {t : List (List ℕ)} {r : Roll} → Kept s r → Schedule (get_or s 0 0)
      → ((k e : ℕ) → Known r.marks r.last k e ↔ EndOf (s ∷ t) k e)
      → ((n : ℕ) → CameIn r.marks r.last n ↔ ComeInSegments (s ∷ t) n) → Agrees (s ∷ t) r

-- one section more, where t were taken before: taken exactly if none of the refusals applies, and then the answer is
-- that of those taken; else refused with the first that applies, "itself unchanged"
pub data Next (t : List (List ℕ)) (r : Roll) (s : List ℕ) (o : Outcome) : Type 0 where
  took : unrefused t s ≡ true → Answered (s ∷ t) o.says → Next t r s o
  unchanged : unrefused t s ≡ false → (k p : ℕ) → FirstRefusal t s k p → o ≡ refusal r k p → Next t r s o

-- ---- calls, one after the other

-- a roll that was empty when these were given to it by calls, one after the other, each with the roll that the one
-- before gave
pub data Run (take : Roller) : List (List ℕ) → Roll → Type 0 where
  start : (r : Roll) → r.begun ≡ false → Run take [] r
  step : {given : List (List ℕ)} {r : Roll} → Run take given r → (s : List ℕ) → Bytes s → (o : Outcome) → take r s o
      → Run take (s ∷ given) o.roll

module _ (take : Roller) where
  -- after any sections, the marks are the numbers that have come since the last fresh start, of those taken
  abbrev pub MarksAre : Type 0
  MarksAre = (given : List (List ℕ)) (r : Roll) → Run take given r → Agrees (taken_of given) r

  -- and each section more fares by those taken before it
  abbrev pub EachFares : Type 0
  EachFares = (given : List (List ℕ)) (r : Roll) → Run take given r → (s : List ℕ) → Bytes s → (o : Outcome)
      → take r s o → Next (taken_of given) r s o

  -- asked without a section: complete exactly if all numbers from 0 to the last have come since the last fresh start,
  -- else the smallest that has not; of a schedule, by its segments
  abbrev pub AnswersAre : (Roll → Says → Type 0) → Type 0
  AnswersAre ask = (given : List (List ℕ)) (r : Roll) → Run take given r → (x : Says) → ask r x
      → Answered (taken_of given) x

  -- the two sentences on schedules by themselves, in terms of the sections alone
  abbrev pub CompleteExactlyIf : (Roll → Says → Type 0) → Type 0
  CompleteExactlyIf ask = (given : List (List ℕ)) (r : Roll) → Run take given r → (x : Says) → ask r x
      → (s : List ℕ) (t : List (List ℕ)) → taken_of given ≡ s ∷ t → Schedule (get_or s 0 0)
      → (x ≡ complete) ↔ EachSegment (EndOf (s ∷ t)) (ComeInSegments (s ∷ t)) (last_in s)

  abbrev pub MissingExactlyIf : (Roll → Says → Type 0) → Type 0
  MissingExactlyIf ask = (given : List (List ℕ)) (r : Roll) → Run take given r → (x : Says) → ask r x
      → (s : List ℕ) (t : List (List ℕ)) → taken_of given ≡ s ∷ t → Schedule (get_or s 0 0) → (n : ℕ)
      → (x ≡ missing n) ↔ SmallestPast (EndOf (s ∷ t)) (ComeInSegments (s ∷ t)) (last_in s) n
