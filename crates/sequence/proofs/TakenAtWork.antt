-- What the statements ask can be met. Of one section: an empty roll and the network information table of version 21, for
-- which there is no refusal, and which is taken; an empty roll and a schedule; and a roll made by hand and a section that
-- changes the end of a segment. Of whole sequences: a schedule that is complete, and the same without its last section.
use Prim.Native.Nat.{ℕ, zero, suc, ◌/◌}
use mathlib.Core.Path.{◌≡◌, refl, sym, ap, ◌∙◌}
use mathlib.Core.Bool.{Bool, true, ◌&&◌}
use mathlib.Core.Logic.{◌↔◌}
use mathlib.Core.List.{List, [], ◌∷◌}
use native.Mathlib.Omega.{arith}
use lib.Dec.{ltb}
use lib.ListN.{length, get_or, get_or-replicate}
use borrow.Author.Tests.{ltb-true}
use Rattle.wire.specs.Bytes.{Bytes}
use Rattle.roll.specs.Answer.{Says, missing, complete, refusing}
use Rattle.roll.specs.Marks.{segment_at, has, Whole}
use Rattle.roll.specs.Roll.{empty_roll, taking}
use Rattle.roll.proofs.Ends.{at_once}
use Rattle.sequence.specs.Promise.{Promised}
use Rattle.sequence.specs.Step.{Schedule, FirstFor, AfterTaking, AfterTakingInSegments, GoesOn, EachSegment, SmallestPast}
use Rattle.sequence.specs.Sequence.{EndOf, ComeInSegments, AllBytes, none, more, Run, start, step}
use Rattle.sequence.proofs.MarkLaws.{unmarked_whole}
use Rattle.head.specs.Head.{last_in}
use Rattle.head.proofs.Ids.{and_left, and_right}
use Rattle.sequence.proofs.Exactly.{refuses_exactly_if, takes_else, takes_else_in_segments, change_empties}
use Rattle.sequence.proofs.AtWork.{at_work, higher, schedule-0, schedule-1, schedule-8, schedule-16, schedule-17, without-17, schedule, roll_behind, schedule-1-to-2, by_hand}
use Rattle.sequence.proofs.WholeSequence.{complete_exactly_if, missing_exactly_if}
use Rattle.roll.specs.declared.Roll.{Roll}
use Rattle.roll.specs.declared.Segment.{Segment}
use Rattle.std.specs.Prelude.{Some}

-- each element is a byte, by a test
small : List ℕ → Bool
small [] = true
small (b ∷ l) = ltb b 256 && small l

small_bytes : (l : List ℕ) → small l ≡ true → Bytes l
unfolding small
small_bytes [] e i = omega arith
small_bytes (b ∷ l) e zero = ltb-true b 256 (and_left (ltb b 256) (small l) e)
small_bytes (b ∷ l) e (suc i) = small_bytes l (and_right (ltb b 256) (small l) e) i

-- the first answer, if there is one
first : List Says → Says
first [] = complete
first (x ∷ l) = x

-- what answers that a number is missing refuses nothing
none_refuses : (r : Roll) (s : List ℕ) (n : ℕ) → (taking r s).says ≡ missing n → (k p : ℕ) → FirstFor r s k p → ⊥
none_refuses r s n answered k p f =
    let told = (refuses_exactly_if r s (taking r s) refl k p).1 f in
    let e : missing n ≡ refusing k p = sym answered ∙ told in
    let z : ◌≡◌ {A = ℕ} 0 1 = cc in
    omega arith

empty_whole : Whole empty_roll.marks
unfolding empty_roll
empty_whole = unmarked_whole

-- ---- a table that is no schedule

higher_bytes : Bytes higher
unfolding small higher
higher_bytes = small_bytes higher refl

higher_answered : (taking empty_roll higher).says ≡ missing 1
unfolding first
higher_answered = ap first at_work.1

not_schedule : Schedule (get_or higher 0 0) → ⊥
unfolding higher
not_schedule (a, b) = omega arith

pub higher_taken : AfterTaking empty_roll higher (taking empty_roll higher)
higher_taken =
    takes_else empty_roll higher (taking empty_roll higher) refl higher_bytes empty_whole
    (none_refuses empty_roll higher 1 higher_answered) not_schedule

-- ---- a schedule

schedule_bytes : Bytes schedule-0
unfolding small schedule-0
schedule_bytes = small_bytes schedule-0 refl

schedule_answered : (taking empty_roll schedule-0).says ≡ missing 1
unfolding first
schedule_answered = ap first at_work.4

is_schedule_lem : Schedule (get_or schedule-0 0 0)
unfolding schedule-0
is_schedule_lem = (omega arith, omega arith)

pub schedule_taken : AfterTakingInSegments empty_roll schedule-0 (taking empty_roll schedule-0)
schedule_taken =
    takes_else_in_segments empty_roll schedule-0 (taking empty_roll schedule-0) refl schedule_bytes empty_whole
    (none_refuses empty_roll schedule-0 1 schedule_answered) is_schedule_lem

-- ---- an end that changes, of a roll made by hand

abbrev hand : Roll
hand = by_hand 0x50 (Some 1) 17

hand_whole : Whole hand.marks
unfolding by_hand Whole segment_at
hand_whole = (refl, λ k h. ap (λ (g : Segment). length g.came) (get_or-replicate 32 k _ _ h))

change_bytes : Bytes schedule-1-to-2
unfolding small schedule-1-to-2
change_bytes = small_bytes schedule-1-to-2 refl

change_answered : (taking hand schedule-1-to-2).says ≡ missing 0
unfolding first
change_answered = ap first at_work.10

change_schedule : Schedule (get_or schedule-1-to-2 0 0)
unfolding schedule-1-to-2
change_schedule = (omega arith, omega arith)

goes_on : GoesOn hand schedule-1-to-2
unfolding by_hand schedule-1-to-2
goes_on = record {
  begun = refl;
  version = record { reserved = 3; byte = refl; five_bits = omega arith; one_bit = omega arith };
  last = refl;
}

changes : (segment_at hand.marks (get_or schedule-1-to-2 6 0 / 8)).end ≡ Some (get_or schedule-1-to-2 12 0) → ⊥
unfolding by_hand schedule-1-to-2 segment_at
changes e = let z = at_once e in omega arith

pub change_met :
    ((n : ℕ) → n / 8 ≡ get_or schedule-1-to-2 6 0 / 8
    → (has (taking hand schedule-1-to-2).roll.marks n ≡ true) ↔ (n ≡ get_or schedule-1-to-2 6 0))
    × ((k : ℕ) → (k ≡ get_or schedule-1-to-2 6 0 / 8 → ⊥)
    → segment_at (taking hand schedule-1-to-2).roll.marks k ≡ segment_at hand.marks k)
change_met =
    change_empties hand schedule-1-to-2 (taking hand schedule-1-to-2) refl change_bytes hand_whole
    (none_refuses hand schedule-1-to-2 0 change_answered) change_schedule goes_on changes

-- ---- whole sequences, of a schedule

without_17_bytes : AllBytes without-17
unfolding small schedule-0 schedule-1 schedule-8 schedule-16
without_17_bytes =
    more schedule-16 (small_bytes schedule-16 refl) (more schedule-8 (small_bytes schedule-8 refl)
    (more schedule-1 (small_bytes schedule-1 refl) (more schedule-0 (small_bytes schedule-0 refl) none)))

bytes-17 : Bytes schedule-17
unfolding small schedule-17
bytes-17 = small_bytes schedule-17 refl

run_behind : {given : List (List ℕ)} → AllBytes given → Run Promised given (roll_behind given)
unfolding empty_roll
run_behind none = start empty_roll refl
run_behind (more s {given} b g) = step (run_behind g) s b (taking (roll_behind given) s) refl

is-schedule-16 : Schedule (get_or schedule-16 0 0)
unfolding schedule-16
is-schedule-16 = (omega arith, omega arith)

is-schedule-17 : Schedule (get_or schedule-17 0 0)
unfolding schedule-17
is-schedule-17 = (omega arith, omega arith)

-- "every number from its first to its own segment_last_section_number has come"
pub each_segment_met : EachSegment (EndOf schedule) (ComeInSegments schedule) (last_in schedule-17)
each_segment_met =
    (complete_exactly_if schedule (roll_behind schedule) (run_behind (more schedule-17 bytes-17 without_17_bytes)) complete
    (sym at_work.11.3) schedule-17 without-17 at_work.11.2 is-schedule-17).0 refl

-- and without the last of them 17 is the smallest missing
pub smallest_past_met : SmallestPast (EndOf without-17) (ComeInSegments without-17) (last_in schedule-16) 17
smallest_past_met =
    (missing_exactly_if without-17 (roll_behind without-17) (run_behind without_17_bytes) (missing 17) (sym at_work.11.1)
    schedule-16 (schedule-8 ∷ schedule-1 ∷ schedule-0 ∷ []) at_work.11.0 is-schedule-16 17).0 refl
