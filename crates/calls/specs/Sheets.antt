-- Demand 2's last sentence over the calls for C: what both calls promise, and what that comes to when one is called
-- after the other.
use Rattle.std.specs.Prelude.{ℕ, ◌<◌, ◌≤◌, ◌≡◌, ◌↔◌, List, length, take}
use Rattle.wire.specs.Bytes.{Bytes}
use Rattle.verdict.specs.Verdict.{accepted}
use Rattle.section.specs.Reading.{judged}
use Rattle.section.specs.Faults.{First}
use Rattle.turn.specs.Turn.{to_section, to_sheet, answer, roomAfter}
use Rattle.contents.specs.Ones.{ReservedWereOnes}
use Rattle.cabinet.specs.Sheets.{section_says, sheet_says}
use Rattle.cabinet.specs.declared.sheets.SectionAnswer.{SectionAnswer}
use Rattle.cabinet.specs.declared.sheets.SheetAnswer.{SheetAnswer}

-- what `lohitunga_to_section` promises of a sheet s and a room o: the answer, and the room after it
abbrev pub ToSection : List ℕ → List ℕ → SectionAnswer → List ℕ → Type 0
ToSection s o a o' = (a ≡ section_says (answer (to_section (length o) s))) × (o' ≡ roomAfter o (to_section (length o) s))

-- what `lohitunga_to_sheet` promises of a section
abbrev pub ToSheet : List ℕ → List ℕ → SheetAnswer → List ℕ → Type 0
ToSheet s o a o' = (a ≡ sheet_says (answer (to_sheet (length o) s))) × (o' ≡ roomAfter o (to_sheet (length o) s))

-- "An accepted sheet made into a section and back is the same bytes"; and the section is accepted. The number 0 is no
-- refusal's.
abbrev pub SheetAndBack : Type 0
SheetAndBack = (s o o' p p' : List ℕ) (a : SectionAnswer) (b : SheetAnswer) → Bytes s → ToSection s o a o'
    → a.number ≡ 0 → 5120 ≤ length p
    → ToSheet (take a.size o') p b p'
    → (judged (take a.size o') ≡ accepted) × (b.number ≡ 0) × (b.size ≡ length s) × (take (length s) p' ≡ s)

-- "an accepted section made into a sheet and back is too, if its reserved bits were ones"
abbrev pub SectionAndBack : Type 0
SectionAndBack = (s o o' p p' : List ℕ) (a : SheetAnswer) (b : SectionAnswer) → Bytes s → ReservedWereOnes s
    → ToSheet s o a o' → a.number ≡ 0 → 4096 ≤ length p
    → ToSection (take a.size o') p b p'
    → (b.number ≡ 0) × (b.size ≡ length s) × (take (length s) p' ≡ s)

-- "the record and all lent room unaltered": a call that gives a number writes nothing
abbrev pub RefusalLeaves : Type 0
RefusalLeaves =
    ((s o o' : List ℕ) (a : SectionAnswer) → ToSection s o a o' → (a.number ≡ 0 → ⊥) → o' ≡ o)
    × ((s o o' : List ℕ) (a : SheetAnswer) → ToSheet s o a o' → (a.number ≡ 0 → ⊥) → o' ≡ o)

-- "21 room under 5,120 (for a sheet) or 4,096 (for a section)", whatever stands in section or sheet
abbrev pub RoomFirst : Type 0
RoomFirst =
    ((s o o' : List ℕ) (a : SectionAnswer) → ToSection s o a o' → length o < 4096 → a.number ≡ 21)
    × ((s o o' : List ℕ) (a : SheetAnswer) → ToSheet s o a o' → length o < 5120 → (a.number ≡ 21) × (a.place ≡ 0))

-- "Section to sheet: 21, then 1 to 10.": number and place are those of the first refusal
abbrev pub SheetRefusesExactlyIf : Type 0
SheetRefusesExactlyIf = (s o o' : List ℕ) (a : SheetAnswer) → ToSheet s o a o' → 5120 ≤ length o → (k p : ℕ)
    → (k ≡ 0 → ⊥)
    → ((a.number ≡ k) × (a.place ≡ p)) ↔ First s k p
