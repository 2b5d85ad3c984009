-- The roll for C: each call of `lohitunga_roll_take` is, in numbers, one of `roll::take`, and so are whole sequences of
-- them.
use Rattle.std.specs.Prelude.{ℕ, ◌<◌, ◌≡◌, false, ◌↔◌, List, [], ◌∷◌, get_or, if◌then◌else◌, None, Some}
use Rattle.wire.specs.Bytes.{Bytes}
use Rattle.roll.specs.Answer.{Says, missing, complete, refusing}
use Rattle.roll.specs.Marks.{segment_at, has}
use Rattle.roll.specs.Roll as roll
use Rattle.roll.specs.Roll.{empty_roll, asked}
use Rattle.roll.specs.declared.Roll as of
use Rattle.sequence.specs.Promise as beneath
use Rattle.sequence.specs.Step.{Schedule, FirstFor, AfterTaking, AfterTakingInSegments, Asked, EachSegment, SmallestPast}
use Rattle.sequence.specs.Sequence as beneath-runs
use Rattle.sequence.specs.Sequence.{taken_of, EndOf, ComeInSegments, Answered, Next}
use Rattle.head.specs.Head.{last_in}
use Rattle.cabinet.specs.Table.{table}
use Rattle.cabinet.specs.Roll.{came_in, roll_in, roll_says, roll_answer, Outcome, rolling}
use Rattle.cabinet.specs.Numbers.{bit, is_set}
use Rattle.cabinet.specs.declared.rolls.Roll.{Roll}
use Rattle.cabinet.specs.declared.rolls.RollAnswer.{RollAnswer}

-- ---- a roll and its answers in numbers, field by field

-- the numbers stand for the roll
pub record Stands (r : Roll) (q : of.Roll) : Type 0 where
  -- 0 for an empty roll, any other number for one that is begun
  pub begun : (q.begun ≡ false) ↔ (r.begun ≡ 0)
  pub table : q.sub_table.table_id ≡ r.table_id
  pub extension : q.sub_table.extension ≡ r.extension
  pub transport : q.sub_table.transport_stream_id ≡ r.transport_stream_id
  pub network : q.sub_table.original_network_id ≡ r.original_network_id
  pub version : q.version ≡ r.version
  pub last : q.last ≡ r.last
  -- any number but 0 is a mark
  pub marks : (n : ℕ) → n < 256 → (has q.marks n ≡ false) ↔ (get_or r.came n 0 ≡ 0)
  -- any number but 0 says that the end is known, and which it is stands beside it
  pub unknown : (k : ℕ) → k < 32 → ((segment_at q.marks k).end ≡ None) ↔ (get_or r.known k 0 ≡ 0)
  pub ends : (k e : ℕ) → k < 32 → (segment_at q.marks k).end ≡ Some e → get_or r.end k 0 ≡ e

-- the answer tells what is said, and is 0 elsewhere: the smallest number missing; complete; or a refusal's number and
-- place
pub data Tells : Says → RollAnswer → Type 0 where
  least : {n : ℕ} {a : RollAnswer} → a.number ≡ 0 → a.place ≡ 0 → a.complete ≡ 0 → a.missing ≡ n
      → Tells (missing n) a
  all : {a : RollAnswer} → a.number ≡ 0 → a.place ≡ 0 → a.complete ≡ 1 → a.missing ≡ 0 → Tells complete a
  refusal : {k p : ℕ} {a : RollAnswer} → a.number ≡ k → a.place ≡ p → a.complete ≡ 0 → a.missing ≡ 0
      → Tells (refusing k p) a

-- ---- calls

-- what a roll for C may make of its numbers and a section
abbrev pub Roller : Type 1
Roller = Roll → List ℕ → Outcome → Type 0

-- what `lohitunga_roll_take` promises
abbrev pub Promised : Roller
Promised r s o = o ≡ rolling r s

-- what `lohitunga_roll_ask` promises
abbrev pub PromisedAsked : Roll → RollAnswer → Type 0
PromisedAsked r a = a ≡ roll_answer (asked (roll_in r))

-- what `lohitunga_roll_empty` promises
abbrev pub PromisedEmpty : Roll → Type 0
PromisedEmpty r = r ≡ roll_says empty_roll

-- the numbers that a call writes for the same roll: 1 for a flag or a mark that is any number but 0, and 0 for an end that is
-- not known
unfoldable pub settled : Roll → Roll
settled r = record {
  begun = bit (is_set r.begun);
  table_id = r.table_id;
  extension = r.extension;
  transport_stream_id = r.transport_stream_id;
  original_network_id = r.original_network_id;
  version = r.version;
  last = r.last;
  came = table 256 (λ n. bit (came_in r.came n));
  known = table 32 (λ k. bit (is_set (get_or r.known k 0)));
  end = table 32 (λ k. if is_set (get_or r.known k 0) then get_or r.end k 0 else 0);
}

-- the answer of any roll in numbers, without a section
abbrev pub AnswersAny : (Roll → RollAnswer → Type 0) → Type 0
AnswersAny ask = (r : Roll) (a : RollAnswer) → ask r a → (x : Says) × Tells x a × Asked (roll_in r) x

-- a roll in numbers that was empty when these were given to it by calls, the last one first
pub data Run (take : Roller) : List (List ℕ) → Roll → Type 0 where
  start : (r : Roll) → r.begun ≡ 0 → Run take [] r
  step : {given : List (List ℕ)} {r : Roll} → Run take given r → (s : List ℕ) → Bytes s → (o : Outcome) → take r s o
      → Run take (s ∷ given) o.roll

-- a call of `roll::take`, of which this is what is told in numbers
pub record Beneath (r : Roll) (s : List ℕ) (o : Outcome) : Type 0 where
  pub under : roll.Outcome
  pub call : beneath.Promised (roll_in r) s under
  pub roll_in_lem : roll_in o.roll ≡ under.roll
  pub tells : Tells under.says o.answer

module _ (take : Roller) where
  -- a call is one of `roll::take`
  abbrev pub CallsBeneath : Type 0
  CallsBeneath = (r : Roll) (s : List ℕ) (o : Outcome) → take r s o → Beneath r s o

  -- a run from an empty roll is a run of `roll::take` from an empty roll
  abbrev pub RollsBeneath : Type 0
  RollsBeneath = (given : List (List ℕ)) (r : Roll) → Run take given r
      → beneath-runs.Run beneath.Promised given (roll_in r)

  -- "refuses 1 to 10, then 83 .., 82 .., 81 .., itself unchanged"; "84, after 81"; for any numbers: number and place are
  -- those of the first refusal
  abbrev pub RefusesExactlyIf : Type 0
  RefusesExactlyIf = (r : Roll) (s : List ℕ) (o : Outcome) → take r s o → (k p : ℕ) → (k ≡ 0 → ⊥)
      → ((o.answer.number ≡ k) × (o.answer.place ≡ p)) ↔ FirstFor (roll_in r) s k p

  -- and every number stays
  abbrev pub RefusalKeeps : Type 0
  RefusalKeeps = (r : Roll) (s : List ℕ) (o : Outcome) → take r s o → (k p : ℕ) → FirstFor (roll_in r) s k p
      → o.roll ≡ r

  -- every other section is taken
  abbrev pub TakesElse : Type 0
  TakesElse = (r : Roll) (s : List ℕ) (o : Outcome) → take r s o → Bytes s
      → ((k p : ℕ) → FirstFor (roll_in r) s k p → ⊥) → (Schedule (get_or s 0 0) → ⊥)
      → (x : Says) × Tells x o.answer × AfterTaking (roll_in r) s (record { roll = roll_in o.roll; says = x })

  -- and so is one of a schedule
  abbrev pub TakesElseInSegments : Type 0
  TakesElseInSegments = (r : Roll) (s : List ℕ) (o : Outcome) → take r s o → Bytes s
      → ((k p : ℕ) → FirstFor (roll_in r) s k p → ⊥) → Schedule (get_or s 0 0)
      → (x : Says) × Tells x o.answer × AfterTakingInSegments (roll_in r) s (record { roll = roll_in o.roll; says = x })

  -- over whole sequences: each section fares by those taken before it
  abbrev pub EachFares : Type 0
  EachFares = (given : List (List ℕ)) (r : Roll) → Run take given r → (s : List ℕ) → Bytes s → (o : Outcome)
      → take r s o
      → (x : Says) × Tells x o.answer
      × Next (taken_of given) (roll_in r) s (record { roll = roll_in o.roll; says = x })

  -- and the answer is the smallest number missing, or complete; of a schedule, by its segments
  abbrev pub AnswersAre : (Roll → RollAnswer → Type 0) → Type 0
  AnswersAre ask = (given : List (List ℕ)) (r : Roll) → Run take given r → (a : RollAnswer) → ask r a
      → (x : Says) × Tells x a × Answered (taken_of given) x

  -- the two sentences on schedules by themselves, in terms of the sections alone: `complete` is told exactly if each segment
  -- has come
  abbrev pub CompleteExactlyIf : (Roll → RollAnswer → Type 0) → Type 0
  CompleteExactlyIf ask = (given : List (List ℕ)) (r : Roll) → Run take given r → (a : RollAnswer) → ask r a
      → (s : List ℕ) (t : List (List ℕ)) → taken_of given ≡ s ∷ t → Schedule (get_or s 0 0)
      → (a.complete ≡ 1) ↔ EachSegment (EndOf (s ∷ t)) (ComeInSegments (s ∷ t)) (last_in s)

  -- and else `missing` is the smallest number that has neither come nor been left out
  abbrev pub MissingExactlyIf : (Roll → RollAnswer → Type 0) → Type 0
  MissingExactlyIf ask = (given : List (List ℕ)) (r : Roll) → Run take given r → (a : RollAnswer) → ask r a
      → (s : List ℕ) (t : List (List ℕ)) → taken_of given ≡ s ∷ t → Schedule (get_or s 0 0) → (n : ℕ)
      → ((a.complete ≡ 0) × (a.missing ≡ n)) ↔ SmallestPast (EndOf (s ∷ t)) (ComeInSegments (s ∷ t)) (last_in s) n
