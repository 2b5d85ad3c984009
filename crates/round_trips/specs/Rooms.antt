-- What a call does to the room: "Success writes the first n bytes and tells n; later bytes stay.", and demand 1's
-- "all lent room unaltered".
use Rattle.std.specs.Prelude.{ℕ, ◌≤◌, ◌≡◌, List, length, take, drop, Ok}
use Rattle.wire.specs.Bytes.{Bytes}
use Rattle.wire.specs.Reading.{value}
use Rattle.verdict.specs.Verdict.{accepted}
use Rattle.section.specs.Reading.{judged}
use Rattle.sheet.specs.Content.{Content}
use Rattle.sheet.specs.Sheet.{SheetOk, sheet_of}
use Rattle.sheet.specs.Section.{section_of, content_of}
use Rattle.turn.specs.Turn.{refused_with}
use Rattle.turn.specs.Answers.{SectionAnswer, SheetAnswer, toldSection, toldSheet}
use Rattle.turn.specs.Promise.{ToSection, ToSheet}

-- n bytes were told, at most so many: the room begins with the bytes t, of which there are n, and ends as before
pub record Written (most n : ℕ) (t o o' : List ℕ) : Type 0 where
  pub size : length t ≡ n
  pub small : n ≤ most
  pub first : take n o' ≡ t
  pub later : drop n o' ≡ drop n o
  pub same_length : length o' ≡ length o

-- a section was written: that of the content of which s is the sheet
abbrev pub SectionIsWritten : Type 0
SectionIsWritten = (s o o' : List ℕ) (n : ℕ) → Bytes s → ToSection s o (Ok n) o'
    → (c : Content) × SheetOk c × (s ≡ sheet_of c) × Written 4096 n (section_of c) o o'

-- a sheet was written: that of the content which s has, an accepted section
abbrev pub SheetIsWritten : Type 0
SheetIsWritten = (s o o' : List ℕ) (n : ℕ) → Bytes s → ToSheet s o (Ok n) o'
    → (judged s ≡ accepted)
    × ((c : Content) × (section_of c ≡ s) × (content_of s ≡ value c) × Written 5120 n (sheet_of c) o o')

-- a refusal alters nothing
abbrev pub RefusedSectionUnaltered : Type 0
RefusedSectionUnaltered = (s o o' : List ℕ) (r : SectionAnswer) (k q : ℕ) → ToSection s o r o'
    → toldSection r ≡ refused_with k q → o' ≡ o

-- the same for a sheet
abbrev pub RefusedSheetUnaltered : Type 0
RefusedSheetUnaltered = (s o o' : List ℕ) (r : SheetAnswer) (k q : ℕ) → ToSheet s o r o'
    → toldSheet r ≡ refused_with k q → o' ≡ o
