-- Demands 1 and 2 over the judge's call for C.
use Rattle.std.specs.Prelude.{ℕ, ◌≡◌, ◌↔◌, List}
use Rattle.loops.specs.Descriptors.{Placed}
use Rattle.section.specs.Reading.{judged}
use Rattle.section.specs.Grammar.{Section}
use Rattle.section.specs.Faults.{First}
use Rattle.cabinet.specs.Judge.{judge_says}
use Rattle.cabinet.specs.declared.judge.JudgeAnswer.{JudgeAnswer}

-- what `lohitunga_judge` promises
abbrev pub Promised : List ℕ → JudgeAnswer → Type 0
Promised s a = a ≡ judge_says (judged s)

module _ (judge : List ℕ → JudgeAnswer → Type 0) where
  -- "A section is accepted exactly if ..": the number 0
  abbrev pub AcceptsExactlyIf : Type 0
  AcceptsExactlyIf = (s : List ℕ) (a : JudgeAnswer) → judge s a
      → (a.number ≡ 0) ↔ ((loops : List (List Placed)) × Section s loops)

  -- "Input to which numbered refusals apply gets the first of them in document 01's order ..; no other input is
  -- refused."
  abbrev pub RefusesExactlyIf : Type 0
  RefusesExactlyIf = (s : List ℕ) (a : JudgeAnswer) → judge s a → (k p : ℕ) → (k ≡ 0 → ⊥)
      → ((a.number ≡ k) × (a.place ≡ p)) ↔ First s k p
