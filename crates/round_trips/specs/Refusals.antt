-- Demand 1, of both turns: "Input to which numbered refusals apply gets the first of them in document 01's order, ..
-- no other input is refused."
use Rattle.std.specs.Prelude.{ℕ, ◌+◌, ◌<◌, ◌≤◌, ◌≡◌, ◌↔◌, List, length, Ok, Err}
use Rattle.wire.specs.Bytes.{Bytes}
use Rattle.loops.specs.Descriptors.{Placed}
use Rattle.section.specs.Grammar.{Section}
use Rattle.section.specs.Faults.{First}
use Rattle.sheet.specs.Faults.{SheetFault, AcceptedSheet}
use Rattle.turn.specs.Turn.{refused_with}
use Rattle.turn.specs.Answers.{SectionAnswer, SheetAnswer, toldSection, toldSheet}
use Rattle.turn.specs.Promise.{ToSection, ToSheet}
use Rattle.turn.specs.declared.SectionRefusal.TheVariants as section
use Rattle.turn.specs.declared.SheetRefusal.TheVariants as sheet

-- number and place of what is wrong with a sheet s and a room of n bytes: "21 comes first, then 22 to 24 as read left
-- to right, 25, 26."
pub data SectionRefusal (n : ℕ) (s : List ℕ) : ℕ → ℕ → Type 0 where
  -- "21 room under .. 4,096 (for a section)", whatever the sheet
  small : n < 4096 → SectionRefusal n s 21 0
  faulty : {k : ℕ} → 4096 ≤ n → SheetFault s k → SectionRefusal n s k 0

-- number and place of what is wrong with a section s and a room of n bytes: "Section to sheet: 21, then 1 to 10."
pub data SheetRefusal (n : ℕ) (s : List ℕ) : ℕ → ℕ → Type 0 where
  -- "21 room under 5,120 (for a sheet)", whatever the section
  small : n < 5120 → SheetRefusal n s 21 0
  faulty : {k q : ℕ} → 5120 ≤ n → First s k q → SheetRefusal n s k q

-- a call of `to_section` refuses exactly if
abbrev pub SectionRefusedExactlyIf : Type 0
SectionRefusedExactlyIf = (s o o' : List ℕ) (r : SectionAnswer) → Bytes s → ToSection s o r o'
    → (k q : ℕ) → (toldSection r ≡ refused_with k q) ↔ SectionRefusal (length o) s k q

-- an accepted sheet and a room of 4,096 bytes give a section: 3 bytes and its section_length; nothing else does
abbrev pub SectionMadeExactlyIf : Type 0
SectionMadeExactlyIf = (s o o' : List ℕ) (r : SectionAnswer) → Bytes s → ToSection s o r o'
    → (m : ℕ) → (r ≡ Ok m) ↔ ((4096 ≤ length o) × ((n : ℕ) × AcceptedSheet s n × (m ≡ 3 + n)))

-- a call of `to_sheet` refuses exactly if
abbrev pub SheetRefusedExactlyIf : Type 0
SheetRefusedExactlyIf = (s o o' : List ℕ) (r : SheetAnswer) → Bytes s → ToSheet s o r o'
    → (k q : ℕ) → (toldSheet r ≡ refused_with k q) ↔ SheetRefusal (length o) s k q

-- an accepted section and a room of 5,120 bytes give a sheet; nothing else does
abbrev pub SheetMadeExactlyIf : Type 0
SheetMadeExactlyIf = (s o o' : List ℕ) (r : SheetAnswer) → Bytes s → ToSheet s o r o'
    → ((n : ℕ) × (r ≡ Ok n)) ↔ ((5120 ≤ length o) × ((loops : List (List Placed)) × Section s loops))

-- "21 comes first": 21 exactly if the room is short, whatever it is to be made of
abbrev pub SectionRoomFirst : Type 0
SectionRoomFirst = (s o o' : List ℕ) (r : SectionAnswer) → Bytes s → ToSection s o r o'
    → (r ≡ Err section.Room) ↔ (length o < 4096)

-- the same for a sheet
abbrev pub SheetRoomFirst : Type 0
SheetRoomFirst = (s o o' : List ℕ) (r : SheetAnswer) → Bytes s → ToSheet s o r o'
    → (r ≡ Err sheet.Room) ↔ (length o < 5120)
