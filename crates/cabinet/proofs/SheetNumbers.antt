-- A section that was refused, in numbers.
use mathlib.Core.Path.{◌≡◌, refl, sym, ap, ap₂, ◌∙◌}
use Prim.Native.Nat.{ℕ}
use Rattle.std.specs.Prelude.{Err}
use Rattle.verdict.specs.Verdict.{Said, accepted, refused, told_refusal, number_of, place_of}
use Rattle.verdict.specs.declared.Refusal.{Refusal}
use Rattle.turn.specs.Answers as turn
use Rattle.turn.specs.Answers.{toldRefusal, toldSheet}
use Rattle.turn.specs.declared.SheetRefusal.TheVariants.{Section}
use Rattle.cabinet.specs.Sheets.{sheet_says}
use Rattle.cabinet.specs.declared.sheets.SheetAnswer.{SheetAnswer}

abbrev numbers : ℕ → ℕ → SheetAnswer
numbers k p = record { number = k; place = p; size = 0 }

refusal_numbers : (s : Said) → numbers (number_of s) (place_of s) ≡ sheet_says (toldRefusal s)
refusal_numbers accepted = refl
refusal_numbers (refused k p) = refl

pub refused_numbers : {v : Refusal} {a : turn.SheetAnswer} {i j : ℕ} → a ≡ Err (Section v) → i ≡ number_of (told_refusal v)
    → j ≡ place_of (told_refusal v)
    → ◌≡◌ {A = SheetAnswer} (record { number = i; place = j; size = 0 }) (sheet_says (toldSheet a))
refused_numbers {v} e f g = ap₂ numbers f g ∙ refusal_numbers (told_refusal v) ∙ ap (λ x. sheet_says (toldSheet x)) (sym e)
