-- What the functions that turn whole tables promise each other.
use Rattle.std.specs.Prelude.{ℕ, ◌/◌, ◌%◌, ◌≤◌, ◌≡◌, List, [], ◌∷◌, Bool, not, length, take, eqb, if◌then◌else◌}
use Rattle.wire.specs.Reading.{value}
use Rattle.verdict.specs.Verdict as verdict
use Rattle.section.specs.Reading.{judged}
use Rattle.crc.specs.Crc.{crc}
use Rattle.forms.specs.Form.{Form, ◌then◌}
use Rattle.forms.specs.Room.{put, sum}
use Rattle.sheet.specs.Content.{Body, Content, row_in, head_of, shape_of}
use Rattle.sheet.specs.Sheet.{sheet_top, sheet_of}
use Rattle.sheet.specs.Section.{section_top, section_length, section_of, content_of, read_sheet}
use Rattle.turn.specs.Inner.Ways.{from, items_from, entries_from, TurnedTo, put_number}
use Rattle.forms.specs.declared.Place.{Place}

-- the body that is read: head, top loop, entries
abbrev pub body_from : Bool → ℕ → Form Body
body_from b row = items_from b (head_of row) then from b (sheet_top row) (section_top row) then entries_from b (shape_of row) row

-- it is turned, and ends in the section at the place `end`
abbrev pub BodyTurned : Bool → ℕ → List ℕ → Place → ℕ → List ℕ → Place → List ℕ → Type 0
BodyTurned b row = TurnedTo b (body_from b row) (body_from (not b) row)

-- the bytes of a CRC_32, where the table has one
abbrev pub crc_size : ℕ → ℕ
crc_size bit = if eqb bit 1 then 4 else 0

-- the syntax bit and the reserved bits before section_length, in two bytes
abbrev pub leading_of : ℕ → ℕ
leading_of syntax = if eqb syntax 1 then 0xF000 else 0x7000

-- a section's first three bytes, written
abbrev pub begun : List ℕ → ℕ → ℕ → ℕ → List ℕ
begun o id syntax n = put_number (put o 0 (id ∷ [])) 1 (sum (leading_of syntax) n)

-- the CRC_32 of what stands before the place `end`, written there, where the table has one
abbrev pub sealed : List ℕ → ℕ → ℕ → List ℕ
sealed o end bit =
    if eqb bit 1 then put_number (put_number o end (crc (take end o) / 65536)) (sum end 2) (crc (take end o) % 65536) else o

-- a section is made of a sheet's content, at the room's start
pub record SectionWritten (s : List ℕ) (n row : ℕ) (o o' : List ℕ) : Type 0 where
  pub written : (c : Content) → read_sheet s ≡ value c → n ≡ section_length c → row ≡ row_in c → 4096 ≤ length o
      → o' ≡ put o 0 (section_of c)

-- a sheet is made of a section's content, at the room's start; r is its length
pub record SheetWritten (s : List ℕ) (row : ℕ) (o : List ℕ) (r : ℕ) (o' : List ℕ) : Type 0 where
  pub written : (c : Content) → judged s ≡ verdict.accepted → content_of s ≡ value c → row ≡ row_in c → 5120 ≤ length o
      → (o' ≡ put o 0 (sheet_of c)) × (r ≡ length (sheet_of c))
