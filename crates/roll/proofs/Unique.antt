-- Two answers that say the same are the same answer, and so two steps: each promise allows one outcome.
use mathlib.Core.Path.{◌≡◌, refl, sym, ◌∙◌, ap, ap₂}
use lib.Dec.{eqb}
use mathlib.Core.Bool.{Bool, false}
use native.Mathlib.Omega.{arith}
use Rattle.std.specs.Prelude.{ℕ, ◌<◌, Result, Ok, Err, Option, None, Some, IfSome, if◌then◌else◌}
use Rattle.verdict.specs.Verdict as verdict
use Rattle.verdict.specs.Verdict.{Verdict, number_of}
use Rattle.verdict.proofs.Unique.{verdict_of, verdict_back}
use Rattle.verdict.specs.declared.Refusal as judge
use Rattle.verdict.specs.declared.Refusal.TheVariants.{TooShort, UnknownTable, WrongSyntax, LengthOutside, SizeDiffers, CrcFails, NumberAboveLast, LoopPast, DescriptorPast, BytesLeft}
use Rattle.roll.specs.Answer.{Says, missing, complete, refusing, told_progress, told_refusal, told_answer}
use Rattle.roll.specs.Gaps.{told_gap}
use Rattle.roll.specs.Roll.{Outcome, heard, Goes, refuses, takes, told_course}
use Rattle.roll.specs.declared.Progress.{Progress}
use Rattle.roll.specs.declared.Progress.TheVariants.{Missing, Complete}
use Rattle.roll.specs.declared.Refusal.{Refusal}
use Rattle.roll.specs.declared.Refusal.TheVariants.{Judge, NotCurrent, AnotherSubTable, NoSubTable, SegmentEnd}
use Rattle.roll.specs.declared.Roll.{Roll}
use Rattle.roll.specs.declared.Step.{Step}

abbrev Answer : Type 0
Answer = Result Progress Refusal

-- of a verdict that refuses
by_verdict : Verdict → Answer
by_verdict (Ok x) = Ok Complete
by_verdict (Err r) = Err (Judge r)

-- the answer that says this
answer_of : Says → Answer
answer_of (missing n) = Ok (Missing n)
answer_of complete = Ok Complete
answer_of (refusing k p) =
    if eqb k 81 then Err NotCurrent
    else if eqb k 82 then Err AnotherSubTable
    else if eqb k 83 then Err NoSubTable
    else if eqb k 84 then Err SegmentEnd
    else by_verdict (verdict_of k p)

-- none of the judge's numbers is one of the roll's own
judges_number : (r : judge.Refusal) → let k = number_of (verdict.told_refusal r) in
    (eqb k 81 ≡ false) × (eqb k 82 ≡ false) × (eqb k 83 ≡ false) × (eqb k 84 ≡ false)
judges_number TooShort = (refl, refl, refl, refl)
judges_number UnknownTable = (refl, refl, refl, refl)
judges_number WrongSyntax = (refl, refl, refl, refl)
judges_number LengthOutside = (refl, refl, refl, refl)
judges_number SizeDiffers = (refl, refl, refl, refl)
judges_number CrcFails = (refl, refl, refl, refl)
judges_number NumberAboveLast = (refl, refl, refl, refl)
judges_number (LoopPast p) = (refl, refl, refl, refl)
judges_number (DescriptorPast p) = (refl, refl, refl, refl)
judges_number (BytesLeft p) = (refl, refl, refl, refl)

refusal_back : (r : Refusal) → answer_of (told_refusal r) ≡ Err r
unfolding answer_of by_verdict
refusal_back (Judge r) = let h = judges_number r in rw (h.0, h.1, h.2, h.3) (ap by_verdict (verdict_back (Err r)))
refusal_back NotCurrent = refl
refusal_back AnotherSubTable = refl
refusal_back NoSubTable = refl
refusal_back SegmentEnd = refl

answer_back : (a : Answer) → answer_of (told_answer a) ≡ a
unfolding answer_of
answer_back (Ok (Missing n)) = refl
answer_back (Ok Complete) = refl
answer_back (Err r) = refusal_back r

pub told_answer_once : (a b : Answer) → told_answer a ≡ told_answer b → a ≡ b
told_answer_once a b e = sym (answer_back a) ∙ ap answer_of e ∙ answer_back b

pub told_progress_once : (p q : Progress) → told_progress p ≡ told_progress q → p ≡ q
told_progress_once p q e = let same = told_answer_once (Ok p) (Ok q) e in cc

pub told_gap_once : (a b : Option ℕ) → IfSome a (λ g. g < 8) → IfSome b (λ g. g < 8) → told_gap a ≡ told_gap b → a ≡ b
told_gap_once None None h k e = refl
told_gap_once None (Some g) h k e = absurd (omega arith)
told_gap_once (Some f) None h k e = absurd (omega arith)
told_gap_once (Some f) (Some g) h k e = ap Some e

abbrev step : Roll → Answer → Step
step r a = record { roll = r; answer = a }

pub heard_once : (x y : Step) → heard x ≡ heard y → x ≡ y
heard_once x y e =
    ap₂ step (ap (λ (o : Outcome). o.roll) e) (told_answer_once x.answer y.answer (ap (λ (o : Outcome). o.says) e))

abbrev Course : Type 0
Course = Result Bool Refusal

-- the refusal of an answer that refuses
course_by : Answer → Course
course_by (Ok p) = Ok false
course_by (Err r) = Err r

-- what a section does, by what is told of it
course_back : Goes → Course
course_back (refuses x) = course_by (answer_of x)
course_back (takes on) = Ok on

course_back_lem : (x : Course) → course_back (told_course x) ≡ x
unfolding course_back course_by
course_back_lem (Ok on) = refl
course_back_lem (Err r) = ap course_by (refusal_back r)

pub told_course_once : (x y : Course) → told_course x ≡ told_course y → x ≡ y
told_course_once x y e = sym (course_back_lem x) ∙ ap course_back e ∙ course_back_lem y
