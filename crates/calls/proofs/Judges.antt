-- The number and place that C is told are those of the judge.
use Prim.Native.Nat.{ℕ}
use mathlib.Core.Path.{◌≡◌, refl, sym, ap, ap₂, ◌∙◌}
use mathlib.Core.List.{List}
use Rattle.verdict.specs.Verdict.{Said, accepted, refused, number_of, place_of}
use Rattle.section.specs.Reading.{judged}
use Rattle.section.proofs.Exactly.{accepted_exactly_if, refused_exactly_if}
use Rattle.cabinet.specs.Judge.{judge_says}
use Rattle.calls.specs.Judges.{Promised, AcceptsExactlyIf, RefusesExactlyIf}
use Rattle.calls.proofs.Refusals.{first_numbered}
use Rattle.cabinet.specs.declared.judge.JudgeAnswer.{JudgeAnswer}

told_number : (s : List ℕ) (a : JudgeAnswer) → Promised s a → a.number ≡ number_of (judged s)
unfolding judge_says
told_number s a is = ap (λ (u : JudgeAnswer). u.number) is

told_place_lem : (s : List ℕ) (a : JudgeAnswer) → Promised s a → a.place ≡ place_of (judged s)
unfolding judge_says
told_place_lem s a is = ap (λ (u : JudgeAnswer). u.place) is

zero_accepted : (s : List ℕ) (v : Said) → judged s ≡ v → number_of v ≡ 0 → v ≡ accepted
zero_accepted s accepted e z = refl
zero_accepted s (refused k p) e z = absurd (first_numbered ((refused_exactly_if s k p).0 e) z)

number_refused : (v : Said) (k p : ℕ) → (k ≡ 0 → ⊥) → number_of v ≡ k → place_of v ≡ p → v ≡ refused k p
number_refused accepted k p n e f = absurd (n (sym e))
number_refused (refused j q) k p n e f = ap₂ refused e f

pub accepts_exactly_if : AcceptsExactlyIf Promised
accepts_exactly_if s a is =
    let number = told_number s a is in
    let x = accepted_exactly_if s in
    (λ z. x.0 (zero_accepted s (judged s) refl (sym number ∙ z)), λ y. number ∙ ap number_of (x.1 y))

pub refuses_exactly_if : RefusesExactlyIf Promised
refuses_exactly_if s a is k p n =
    let number = told_number s a is in
    let place = told_place_lem s a is in
    let x = refused_exactly_if s k p in (
      λ h. x.0 (number_refused (judged s) k p n (sym number ∙ h.0) (sym place ∙ h.1)),
      λ f. (number ∙ ap number_of (x.1 f), place ∙ ap place_of (x.1 f)),
    )
