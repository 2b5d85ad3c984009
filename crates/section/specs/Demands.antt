-- Demand 2's first sentence and demand 1's second, as statements about any judge; and the wrong judges of document 01's last chapter.
use Rattle.std.specs.Prelude.{ℕ, ◌≡◌, ◌↔◌, List}
use Rattle.verdict.specs.Verdict.{Said, accepted, refused}
use Rattle.loops.specs.Descriptors.{Placed}
use Rattle.section.specs.Grammar.{Section}
use Rattle.section.specs.Faults.{First}

-- what a verdict claims of the bytes
abbrev pub Claims : List ℕ → Said → Type 0
Claims s accepted = (loops : List (List Placed)) × Section s loops
Claims s (refused k q) = First s k q

module _ (judge : List ℕ → Said) where
  -- "A section is accepted exactly if .."
  abbrev pub AcceptsExactlyIf : Type 0
  AcceptsExactlyIf = (s : List ℕ) → (judge s ≡ accepted) ↔ ((loops : List (List Placed)) × Section s loops)

  -- "Input to which numbered refusals apply gets the first of them in document 01's order ..; no other input is refused."
  abbrev pub RefusesExactlyIf : Type 0
  RefusesExactlyIf = (s : List ℕ) (k q : ℕ) → (judge s ≡ refused k q) ↔ First s k q

  -- "one that refuses everything"
  abbrev pub RefusesEverything : Type 0
  RefusesEverything = (s : List ℕ) → judge s ≡ accepted → ⊥

  -- "and one with a single answer"
  abbrev pub SingleAnswer : Type 0
  SingleAnswer = (s t : List ℕ) → judge s ≡ judge t
