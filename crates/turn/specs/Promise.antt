-- What both functions promise: their `ensures`.
use Rattle.std.specs.Prelude.{◌≡◌, List, ℕ, length}
use Rattle.turn.specs.Turn.{to_section, to_sheet, answer, roomAfter}
use Rattle.turn.specs.Answers.{SectionAnswer, SheetAnswer, toldSection, toldSheet}

-- what `to_section` promises of a call with a room o: the answer, and the room after it
abbrev pub ToSection : List ℕ → List ℕ → SectionAnswer → List ℕ → Type 0
ToSection s o r o' = (toldSection r ≡ answer (to_section (length o) s)) × (o' ≡ roomAfter o (to_section (length o) s))

-- what `to_sheet` promises
abbrev pub ToSheet : List ℕ → List ℕ → SheetAnswer → List ℕ → Type 0
ToSheet s o r o' = (toldSheet r ≡ answer (to_sheet (length o) s)) × (o' ≡ roomAfter o (to_sheet (length o) s))
