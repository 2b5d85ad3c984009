-- A roll survives its numbers; and what `roll::take` promises of one section and of whole sequences holds for its
-- numbers.
use Prim.Native.Nat.{ℕ}
use mathlib.Core.Path.{◌≡◌, refl, sym, ap, ap₂, ◌∙◌, subst}
use mathlib.Core.Bool.{Bool, true, false, not, false≢true}
use mathlib.Core.Logic.{◌↔◌}
use mathlib.Core.List.{List, ◌∷◌}
use native.Mathlib.Omega.{arith}
use lib.ListN.{get_or}
use lib.Dec.{eqb}
use borrow.Author.Tests.{eqb-true}
use Rattle.roll.specs.Answer.{Says, missing, complete, refusing}
use Rattle.std.specs.Prelude.{if◌then◌else◌, None, Some}
use Rattle.roll.specs.Marks.{segment_at, has, Whole}
use Rattle.roll.proofs.Ends.{at_once, never_known}
use Rattle.roll.proofs.Outcomes.{asked_no_refusal}
use Rattle.roll.specs.declared.Marks.{Marks}
use Rattle.roll.specs.Roll as roll
use Rattle.roll.specs.Roll.{empty_roll, asked, taking, refusal}
use Rattle.roll.specs.declared.Roll as of
use Rattle.sequence.specs.Promise as beneath
use Rattle.sequence.specs.Step.{AfterTaking, AfterTakingInSegments}
use Rattle.sequence.specs.Sequence as beneath-runs
use Rattle.sequence.specs.Sequence.{taken_of, Next, AllBytes, none, more}
use Rattle.sequence.proofs.Exactly.{refuses_exactly_if, first_refuses, takes_else, takes_else_in_segments, taking_whole, answers_any}
use Rattle.sequence.proofs.WholeSequence.{each_fares, answers_are, complete_exactly_if, missing_exactly_if}
use Rattle.cabinet.specs.Numbers.{bit, is_set}
use Rattle.cabinet.specs.Table.{table}
use Rattle.cabinet.specs.Roll.{end_in, known_says, end_says, marks_by, came_in, ends_in, roll_in, roll_says, roll_answer, keeps, Outcome, rolling}
use Rattle.cabinet.proofs.TableLaws.{table_at, table_same}
use Rattle.cabinet.proofs.FlatMarks.{has_by, end_by, by_whole, marks_same, marks_by_lem, end_back}
use Rattle.calls.specs.Rolls.{Stands, Tells, least, all, Promised, PromisedAsked, PromisedEmpty, settled, Run, start, step, CallsBeneath, RollsBeneath, RefusesExactlyIf, RefusalKeeps, TakesElse, TakesElseInSegments, AnswersAny, EachFares, AnswersAre, CompleteExactlyIf, MissingExactlyIf}
use Rattle.cabinet.specs.declared.rolls.Roll.{Roll}
use Rattle.cabinet.specs.declared.rolls.RollAnswer.{RollAnswer}

-- ---- a roll in numbers

flag_back : (b : Bool) → is_set (bit b) ≡ b
flag_back true = refl
flag_back false = refl

-- a roll's numbers stand for that roll
pub roll_back : (r : of.Roll) → Whole r.marks → roll_in (roll_says r) ≡ r
unfolding roll_in roll_says
roll_back r w = rw (flag_back r.begun) (ap (λ (m : Marks). record {
  begun = r.begun;
  sub_table = r.sub_table;
  version = r.version;
  last = r.last;
  marks = m;
}) (back ∙ sym (marks_by_lem r.marks w)))
  where
    came : List ℕ
    came = table 256 (λ n. bit (has r.marks n))

    known : List ℕ
    known = table 32 (λ k. known_says (segment_at r.marks k).end)

    end : List ℕ
    end = table 32 (λ k. end_says (segment_at r.marks k).end)

    back : marks_by (came_in came) (ends_in known end) ≡ marks_by (has r.marks) (λ k. (segment_at r.marks k).end)
    back =
        marks_same (came_in came) (has r.marks) (ends_in known end) (λ k. (segment_at r.marks k).end)
        (λ n h. ap is_set (table_at 256 (λ n. bit (has r.marks n)) n 0 h) ∙ flag_back (has r.marks n))
        (λ k h.
        ap₂ end_in (table_at 32 (λ k. known_says (segment_at r.marks k).end) k 0 h)
        (table_at 32 (λ k. end_says (segment_at r.marks k).end) k 0 h)
        ∙ end_back (segment_at r.marks k).end)

-- what the numbers stand for is marks that a program can hold
in_whole : (r : Roll) → Whole (roll_in r).marks
unfolding roll_in
in_whole r = by_whole (came_in r.came) (ends_in r.known r.end)

-- what is told of an end
known_told : (known end : ℕ) → known_says (end_in known end) ≡ bit (is_set known)
unfolding end_in known_says
known_told known end = go (is_set known)
  where
    go : (b : Bool) → known_says (if b then Some end else None) ≡ bit b
    go true = refl
    go false = refl

end_told : (known end : ℕ) → end_says (end_in known end) ≡ (if is_set known then end else 0)
unfolding end_in end_says
end_told known end = go (is_set known)
  where
    go : (b : Bool) → end_says (if b then Some end else None) ≡ (if b then end else 0)
    go true = refl
    go false = refl

-- and the numbers of the roll that numbers stand for are those numbers, with 1 for each flag and mark that was not 0, and 0
-- for each end that is not known
pub roll_settled : (r : Roll) → roll_says (roll_in r) ≡ settled r
unfolding roll_in roll_says settled
roll_settled r =
    let came = came_in r.came in
    let ends = ends_in r.known r.end in
    rw (
      table_same 256 (λ n. bit (has (marks_by came ends) n)) (λ n. bit (came n)) (λ n h. ap bit (has_by came ends n h)),
      table_same 32 (λ k. known_says (segment_at (marks_by came ends) k).end) (λ k. bit (is_set (get_or r.known k 0)))
          (λ k h. ap known_says (end_by came ends k h) ∙ known_told (get_or r.known k 0) (get_or r.end k 0)),
      table_same 32 (λ k. end_says (segment_at (marks_by came ends) k).end)
          (λ k. if is_set (get_or r.known k 0) then get_or r.end k 0 else 0)
          (λ k h. ap end_says (end_by came ends k h) ∙ end_told (get_or r.known k 0) (get_or r.end k 0)),
    )

-- ---- field by field

not_set : (n : ℕ) → (is_set n ≡ false) ↔ (n ≡ 0)
not_set n = (λ h. go (eqb n 0) refl h, λ e. ap is_set e)
  where
    go : (b : Bool) → eqb n 0 ≡ b → not b ≡ false → n ≡ 0
    go true e h = eqb-true n 0 e
    go false e h = absurd (false≢true (sym h))

-- an end in numbers
end_unknown : (known end : ℕ) → (end_in known end ≡ None) ↔ (known ≡ 0)
unfolding end_in
end_unknown known end = (λ h. to (is_set known) refl h, λ e. rw e)
  where
    to : (b : Bool) → is_set known ≡ b → (if b then Some end else None) ≡ None → known ≡ 0
    to true p h = absurd (never_known (sym h))
    to false p h = (not_set known).0 p

end_known : (known end e : ℕ) → end_in known end ≡ Some e → end ≡ e
unfolding end_in
end_known known end e h = go (is_set known) h
  where
    go : (b : Bool) → (if b then Some end else None) ≡ Some e → end ≡ e
    go true h = at_once h
    go false h = absurd (never_known h)

pub stands : (r : Roll) → Stands r (roll_in r)
unfolding roll_in
stands r =
    let came = came_in r.came in
    let ends = ends_in r.known r.end in
    record {
      begun = not_set r.begun;
      table = refl;
      extension = refl;
      transport = refl;
      network = refl;
      version = refl;
      last = refl;
      marks = λ n h.
          let is = not_set (get_or r.came n 0) in
          (λ f. is.0 (sym (has_by came ends n h) ∙ f), λ e. has_by came ends n h ∙ is.1 e);
      unknown = λ k h.
          let is = end_unknown (get_or r.known k 0) (get_or r.end k 0) in
          (λ u. is.0 (sym (end_by came ends k h) ∙ u), λ z. end_by came ends k h ∙ is.1 z);
      ends = λ k e h at. end_known (get_or r.known k 0) (get_or r.end k 0) e (sym (end_by came ends k h) ∙ at);
    }

pub says_stand : (q : of.Roll) → Whole q.marks → Stands (roll_says q) q
says_stand q w = subst (Stands (roll_says q)) (roll_back q w) (stands (roll_says q))

pub answer_tells : (x : Says) → Tells x (roll_answer x)
answer_tells (missing n) = least refl refl refl refl
answer_tells complete = all refl refl refl refl
answer_tells (refusing k p) = Tells.refusal refl refl refl refl

pub empty_begins : (r : Roll) → PromisedEmpty r → r.begun ≡ 0
unfolding roll_says empty_roll
empty_begins r e = ap (λ (x : Roll). x.begun) e

-- ---- one call

kept_in : (r : Roll) (after : of.Roll) (x : Says) → Whole after.marks → ((k p : ℕ) → x ≡ refusing k p → after ≡ roll_in r)
    → roll_in (keeps r after x) ≡ after
kept_in r after (missing n) w h = roll_back after w
kept_in r after complete w h = roll_back after w
kept_in r after (refusing k p) w h = sym (h k p refl)

refused_stays : (r : of.Roll) (s : List ℕ) (k p : ℕ) → (taking r s).says ≡ refusing k p → (taking r s).roll ≡ r
refused_stays r s k p e =
    ap (λ (x : roll.Outcome). x.roll) (first_refuses r s ((refuses_exactly_if r s (taking r s) refl k p).0 e))

pub calls_beneath : CallsBeneath Promised
unfolding rolling
calls_beneath r s o is = record {
  under = taking (roll_in r) s;
  call = refl;
  roll_in_lem =
      ap (λ (x : Outcome). roll_in x.roll) is
      ∙ kept_in r (taking (roll_in r) s).roll (taking (roll_in r) s).says (taking_whole (roll_in r) s (in_whole r))
      (refused_stays (roll_in r) s);
  tells =
      subst (Tells (taking (roll_in r) s).says) (sym (ap (λ (x : Outcome). x.answer) is))
      (answer_tells (taking (roll_in r) s).says);
}

-- a number other than 0 is that of a refusal
number_says : {x : Says} {a : RollAnswer} (k p : ℕ) → (k ≡ 0 → ⊥) → Tells x a → a.number ≡ k → a.place ≡ p
    → x ≡ refusing k p
number_says k p n0 (least z q c m) e f = absurd (n0 (sym e ∙ z))
number_says k p n0 (all z q c m) e f = absurd (n0 (sym e ∙ z))
number_says k p n0 (Tells.refusal i j c m) e f = ap₂ refusing (sym i ∙ e) (sym j ∙ f)

refusal_told : {k p : ℕ} {a : RollAnswer} → Tells (refusing k p) a → (a.number ≡ k) × (a.place ≡ p)
refusal_told (Tells.refusal i j c m) = (i, j)

pub refuses_exactly : RefusesExactlyIf Promised
refuses_exactly r s o is k p n0 =
    let b = calls_beneath r s o is in
    let beneath = refuses_exactly_if (roll_in r) s b.under b.call k p in (
      λ e. beneath.0 (number_says k p n0 b.tells e.0 e.1),
      λ f. refusal_told (subst (λ x. Tells x o.answer) (beneath.1 f) b.tells),
    )

pub refusal_keeps : RefusalKeeps Promised
unfolding rolling
refusal_keeps r s o is k p f =
    ap (λ (x : Outcome). x.roll) is
    ∙ ap (λ (x : roll.Outcome). keeps r x.roll x.says) (first_refuses (roll_in r) s f)

pub takes_or_refuses : TakesElse Promised
takes_or_refuses r s o is b no-refusal plain =
    let call = calls_beneath r s o is in
    let took = takes_else (roll_in r) s call.under call.call b (in_whole r) no-refusal plain in (
      call.under.says,
      call.tells,
      subst (λ (q : of.Roll). AfterTaking (roll_in r) s (record { roll = q; says = call.under.says }))
          (sym call.roll_in_lem) took,
    )

pub takes_in_segments : TakesElseInSegments Promised
takes_in_segments r s o is b no-refusal schedule =
    let call = calls_beneath r s o is in
    let took = takes_else_in_segments (roll_in r) s call.under call.call b (in_whole r) no-refusal schedule in (
      call.under.says,
      call.tells,
      subst (λ (q : of.Roll). AfterTakingInSegments (roll_in r) s (record { roll = q; says = call.under.says }))
          (sym call.roll_in_lem) took,
    )

-- ---- answers that differ

zero_not_one : ◌≡◌ {A = ℕ} 0 1 → ⊥
zero_not_one e = omega arith

missing_not_complete : {n : ℕ} → missing n ≡ complete → ⊥
missing_not_complete e = zero_not_one (cc)

refusing_not_complete : {k p : ℕ} → refusing k p ≡ complete → ⊥
refusing_not_complete e = zero_not_one (cc)

missing_once : {n m : ℕ} → missing n ≡ missing m → n ≡ m
missing_once e = cc

-- ---- whole sequences

empty_in : (r : Roll) → r.begun ≡ 0 → (roll_in r).begun ≡ false
unfolding roll_in
empty_in r e = ap is_set e

run_beneath : {given : List (List ℕ)} {r : Roll} → Run Promised given r
    → beneath-runs.Run beneath.Promised given (roll_in r)
run_beneath (start r e) = beneath-runs.start (roll_in r) (empty_in r e)
run_beneath (step {given} {r} x s w o is) =
    let b = calls_beneath r s o is in
    subst (beneath-runs.Run beneath.Promised (s ∷ given)) (sym b.roll_in_lem)
    (beneath-runs.step (run_beneath x) s w b.under b.call)

pub rolls_beneath : RollsBeneath Promised
rolls_beneath given r x = run_beneath x

pub each_section_fares : EachFares Promised
each_section_fares given r x s w o is =
    let b = calls_beneath r s o is in
    let fares = each_fares given (roll_in r) (run_beneath x) s w b.under b.call in (
      b.under.says,
      b.tells,
      subst (λ (q : of.Roll). Next (taken_of given) (roll_in r) s (record { roll = q; says = b.under.says }))
          (sym b.roll_in_lem) fares,
    )

pub answers_any_asked : AnswersAny PromisedAsked
answers_any_asked r a is =
    let x = asked (roll_in r) in
    (x, subst (Tells x) (sym is) (answer_tells x), answers_any (roll_in r) x refl)

pub answers_asked : AnswersAre Promised PromisedAsked
answers_asked given r x a is = (
  asked (roll_in r),
  subst (Tells (asked (roll_in r))) (sym is) (answer_tells (asked (roll_in r))),
  answers_are given (roll_in r) (run_beneath x) (asked (roll_in r)) refl,
)

-- what is told is what is said, where it is no refusal
complete_told : {x : Says} {a : RollAnswer} → Tells x a → (a.complete ≡ 1) ↔ (x ≡ complete)
complete_told (least z q c m) = (λ h. absurd (zero_not_one (sym c ∙ h)), λ h. absurd (missing_not_complete h))
complete_told (all z q c m) = (λ _. refl, λ _. c)
complete_told (Tells.refusal i j c m) = (λ h. absurd (zero_not_one (sym c ∙ h)), λ h. absurd (refusing_not_complete h))

missing_told : {x : Says} {a : RollAnswer} → ((k p : ℕ) → x ≡ refusing k p → ⊥) → Tells x a → (n : ℕ)
    → ((a.complete ≡ 0) × (a.missing ≡ n)) ↔ (x ≡ missing n)
missing_told never (least z q c m) n = (λ h. ap missing (sym m ∙ h.1), λ h. (c, m ∙ missing_once h))
missing_told never (all z q c m) n = (λ h. absurd (zero_not_one (sym h.0 ∙ c)), λ h. absurd (missing_not_complete (sym h)))
missing_told never (Tells.refusal {k} {p} i j c m) n = absurd (never k p refl)

pub complete_exactly : CompleteExactlyIf Promised PromisedAsked
complete_exactly given r x a is s t e schedule =
    let told = complete_told (subst (Tells (asked (roll_in r))) (sym is) (answer_tells (asked (roll_in r)))) in
    let exactly = complete_exactly_if given (roll_in r) (run_beneath x) (asked (roll_in r)) refl s t e schedule in
    (λ h. exactly.0 (told.0 h), λ h. told.1 (exactly.1 h))

pub missing_exactly : MissingExactlyIf Promised PromisedAsked
missing_exactly given r x a is s t e schedule n =
    let told = missing_told (asked_no_refusal (roll_in r))
    (subst (Tells (asked (roll_in r))) (sym is) (answer_tells (asked (roll_in r)))) n in
    let exactly = missing_exactly_if given (roll_in r) (run_beneath x) (asked (roll_in r)) refl s t e schedule n in
    (λ h. exactly.0 (told.0 h), λ h. told.1 (exactly.1 h))

-- the premises can be met: any sections can be given to an empty roll, one after the other
pub runs : (r : Roll) → PromisedEmpty r → {given : List (List ℕ)} → AllBytes given → (q : Roll) × Run Promised given q
runs r e none = (r, start r (empty_begins r e))
runs r e (more s b g) = let x = runs r e g in ((rolling x.0 s).roll, step x.1 s b (rolling x.0 s) refl)
