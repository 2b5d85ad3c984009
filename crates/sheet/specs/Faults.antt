-- What is wrong with bytes that are no sheet, by what stands there and not by how they are read: "21 comes first,
-- then 22 to 24 as read left to right, 25, 26." A whole sheet is what `sheet_of` shows of a content that a sheet can
-- have; `SheetOk` has the limits of document 01's refusal 24.
use Rattle.std.specs.Prelude.{ℕ, ◌+◌, ◌<◌, ◌≤◌, ◌≡◌, ◌↔◌, List, ◌++◌, length, get_or}
use Rattle.wire.specs.Bytes.{Bytes}
use Rattle.wire.specs.Reading.{value, refused}
use Rattle.tables.specs.Tables.{row_at, InRow}
use Rattle.sheet.specs.Content.{Content, row_in}
use Rattle.forms.specs.Form.{Form}
use Rattle.forms.specs.Fields.{Field, sheet_field}
use Rattle.sheet.specs.Sheet.{shown_for, OkFor}
use Rattle.sheet.specs.Section.{section_of}
use Rattle.sheet.specs.Reads.{judged_for}

-- by how a field is shown
module _ (field : Field → Form ℕ) where
  -- refusals 22 to 26, of which at most one is true of s
  pub data FaultFor (s : List ℕ) : ℕ → Type 0 where
    -- "22 sheet ends early": bytes are missing, and with them it would be a whole sheet
    early : (c : Content) (missing : List ℕ) → OkFor field c → 0 < length missing → s ++ missing ≡ shown_for field c → FaultFor s 22
    -- "23 table_id unknown": there is a first byte, and no row has it
    unknown : 0 < length s → ((i : ℕ) → i < 6 → InRow i (get_or s 0 0) → ⊥) → FaultFor s 23
    -- "24 version above 31, ..": the table_id is known, and no whole sheet begins as s does, whatever more bytes follow
    wide : (i : ℕ) → 0 < length s → i < 6 → InRow i (get_or s 0 0)
        → ((c : Content) (more rest : List ℕ) → OkFor field c → s ++ more ≡ shown_for field c ++ rest → ⊥)
        → FaultFor s 24
    -- "25 bytes after the sheet"
    after : (c : Content) (rest : List ℕ) → OkFor field c → 0 < length rest → s ≡ shown_for field c ++ rest → FaultFor s 25
    -- "26 section_length would pass its row": it is the number of the section's bytes less 3
    long : (c : Content) → OkFor field c → s ≡ shown_for field c → (row_at (row_in c)).most + 3 < length (section_of c) → FaultFor s 26

  -- a whole sheet with nothing behind it, whose section has a section_length of n, which its row allows
  pub record AcceptedFor (s : List ℕ) (n : ℕ) : Type 0 where
    pub content : Content
    pub ok : OkFor field content
    pub is : s ≡ shown_for field content
    pub size : length (section_of content) ≡ 3 + n
    pub most : n ≤ (row_at (row_in content)).most

  -- each of 22 to 26 is given exactly if it is true of the sheet, and no other number is
  abbrev pub RefusedExactlyFor : Type 0
  RefusedExactlyFor = (s : List ℕ) → Bytes s → (k : ℕ) → (judged_for field s ≡ refused k) ↔ FaultFor s k

  -- "no other input is refused"
  abbrev pub AcceptedExactlyFor : Type 0
  AcceptedExactlyFor = (s : List ℕ) → Bytes s → (n : ℕ) → (judged_for field s ≡ value n) ↔ AcceptedFor s n

-- ---- of document 01's sheets

-- what is wrong with bytes that are none
abbrev pub SheetFault : List ℕ → ℕ → Type 0
SheetFault = FaultFor sheet_field

-- bytes that are one
abbrev pub AcceptedSheet : List ℕ → ℕ → Type 0
AcceptedSheet = AcceptedFor sheet_field

-- each of 22 to 26 is given exactly if it is true of the sheet
abbrev pub RefusedExactlyIf : Type 0
RefusedExactlyIf = RefusedExactlyFor sheet_field

-- "no other input is refused"
abbrev pub AcceptedExactlyIf : Type 0
AcceptedExactlyIf = AcceptedExactlyFor sheet_field
