-- Content sheets: document 01, "Our desks exchange sheets, big-endian, a fixed order, each list after the two-byte number of its items."
use Rattle.std.specs.Prelude.{ℕ, ◌<◌, List, [], ◌∷◌, Bool, length, get_or, ltb, leb, if◌then◌else◌}
use Rattle.wire.specs.Reading.{value, ◌>>=◌}
use Rattle.tables.specs.Tables.{UNKNOWN, row_of}
use Rattle.forms.specs.Form.{Front, Form, mute, raw_read, raw, ◌then◌, such, each}
use Rattle.forms.specs.Fields.{Field, sheet_field}
use Rattle.forms.specs.Lists.{counted}
use Rattle.sheet.specs.Content.{Item, plain, numbers, packed, bare, frame, head_of, entry_of, TableShape, shape_of, has_top, has_entries, side_of, Descriptor, Loop, Entry, Entries, Body, Content, table_of, row_in}
use Rattle.wire.specs.If.{choose◌then◌else◌}

-- "24 .. section number above last"
abbrev pub inOrder : List ℕ → Bool
inOrder l = leb (get_or l 0 0) (get_or l 1 0)

-- "descriptors as broadcast"
unfoldable pub descriptor_read : List ℕ → Front Descriptor
descriptor_read s = raw_read 2 s >>= λ h. raw_read (get_or h.0 1 0) h.1 >>= λ b. value (record { tag = get_or h.0 0 0; body = b.0 }, b.1)

-- a descriptor: tag, length, body
abbrev pub descriptor : Form Descriptor
descriptor = record {
  read = descriptor_read;
  show = λ d. d.tag ∷ length d.body ∷ d.body;
  Ok = λ d. length d.body < 256;
}

-- ---- by how a field is shown: in this the kinds of sheets differ, and in nothing else

module _ (field : Field → Form ℕ) where
  -- an item of a head or an entry in a sheet
  abbrev pub item_for : Item → Form (List ℕ)
  item_for (plain n) = raw n
  item_for numbers = such (raw 2) 24 inOrder
  item_for (packed fs) = each field fs

  -- what stands beside the loop, and "count, descriptors"
  abbrev pub loop_for : List Field → Form Loop
  loop_for fs = each field fs then counted descriptor

  -- "An entry is ..; then count, descriptors."
  abbrev pub entry_for : ℕ → Form Entry
  entry_for row = each item_for (entry_of row) then loop_for (side_of row)

  -- "NIT, BAT, TOT: count, descriptors as broadcast."
  abbrev pub top_for_by : TableShape → Form Loop
  top_for_by x = choose has_top x then loop_for bare else mute ([], [])

  -- that of a row
  abbrev pub top_for : ℕ → Form Loop
  top_for row = top_for_by (shape_of row)

  -- "NIT, BAT, SDT, EIT: count, entries."; the four bits before the second length of NIT and BAT are reserved
  abbrev pub entries_for_by : TableShape → ℕ → Form Entries
  entries_for_by x row =
      choose has_entries x then each field (if has_top x then bare else []) then counted (entry_for row) else mute ([], [])

  -- those of a row
  abbrev pub entries_for : ℕ → Form Entries
  entries_for row = entries_for_by (shape_of row) row

  -- head, top loop, entries
  abbrev pub body_for : ℕ → Form Body
  body_for row = each item_for (head_of row) then top_for row then entries_for row

  -- all behind the table_id
  abbrev pub behind_for : ℕ → Form (List ℕ × Body)
  behind_for row = each field frame then body_for row

  -- "23 table_id unknown"
  unfoldable pub read_for : List ℕ → Front Content
  read_for s =
      (such (raw 1) 23 (λ id. ltb (row_of (get_or id 0 0)) UNKNOWN)).read s >>= λ id.
      (behind_for (row_of (get_or id.0 0 0))).read id.1 >>= λ c.
      value ((get_or id.0 0 0, c.0), c.1)

  -- the sheet of a content
  unfoldable pub shown_for : Content → List ℕ
  shown_for c = table_of c ∷ (behind_for (row_in c)).show c.1

  -- a content that a sheet can show
  unfoldable pub OkFor : Content → Type 0
  OkFor c = (row_in c < UNKNOWN) × (behind_for (row_in c)).Ok c.1

  -- the form of sheets
  abbrev pub sheet_for : Form Content
  sheet_for = record { read = read_for; show = shown_for; Ok = OkFor }

-- ---- document 01's sheets: no reserved field is shown

-- an item
abbrev pub sheet_item : Item → Form (List ℕ)
sheet_item = item_for sheet_field

-- a loop
abbrev pub sheet_loop : List Field → Form Loop
sheet_loop = loop_for sheet_field

-- an entry
abbrev pub sheet_entry : ℕ → Form Entry
sheet_entry = entry_for sheet_field

-- the top loop
abbrev pub sheet_top : ℕ → Form Loop
sheet_top = top_for sheet_field

-- the entries
abbrev pub sheet_entries : ℕ → Form Entries
sheet_entries = entries_for sheet_field

-- head, top loop, entries
abbrev pub sheet_body : ℕ → Form Body
sheet_body = body_for sheet_field

-- all behind the table_id
abbrev pub behind_id : ℕ → Form (List ℕ × Body)
behind_id = behind_for sheet_field

-- how it is read
abbrev pub sheet_read : List ℕ → Front Content
sheet_read = read_for sheet_field

-- the sheet of a content
abbrev pub sheet_of : Content → List ℕ
sheet_of = shown_for sheet_field

-- a content that it can show
abbrev pub SheetOk : Content → Type 0
SheetOk = OkFor sheet_field

-- the form of sheets
abbrev pub sheet : Form Content
sheet = sheet_for sheet_field
