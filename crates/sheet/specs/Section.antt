-- Sections, as a form of what a table contains: EN 300 468, clause 5.2.
use Rattle.std.specs.Prelude.{ℕ, ◌+◌, ◌-◌, ◌*◌, ◌/◌, ◌%◌, List, [], ◌∷◌, ◌++◌, length, get_or, take, drop, ltb, eqb, if◌then◌else◌}
use Rattle.wire.specs.Reading.{Reading, value, refused, ◌>>=◌}
use Rattle.crc.specs.Crc.{crc, bytes_of}
use Rattle.tables.specs.Tables.{row_of, row_at}
use Rattle.forms.specs.Form.{Form, mute, raw, ◌then◌, such, each}
use Rattle.forms.specs.Fields.{Field, sheet_field, pack, unpack, byte_of}
use Rattle.forms.specs.Lists.{loop, filling}
use Rattle.sheet.specs.Content.{Item, plain, numbers, packed, bare, frame, head_of, entry_of, TableShape, shape_of, has_top, has_entries, side_of, Loop, Entry, Entries, Body, Content, table_of, frame_of, body_of, row_in}
use Rattle.sheet.specs.Sheet.{inOrder, descriptor, sheet_for}
use Rattle.wire.specs.If.{choose◌then◌else◌}

-- an item of a head or an entry in a section; 7 is the section's refusal of a section_number above the last
abbrev pub section_item : Item → Form (List ℕ)
section_item (plain n) = raw n
section_item numbers = such (raw 2) 7 inOrder
section_item (packed fs) = byte_of fs

-- "A loop is a 12-bit length in the low bits of two bytes, then descriptors"
abbrev pub section_loop : List Field → Form Loop
section_loop fs = loop descriptor fs

-- "An entry's fixed bytes end in its own loop length."
abbrev pub section_entry : ℕ → Form Entry
section_entry row = each section_item (entry_of row) then section_loop (side_of row)

-- the top loop, where the table has one
abbrev pub section_top_by : TableShape → Form Loop
section_top_by x = choose has_top x then section_loop bare else mute ([], [])

-- that of a row
abbrev pub section_top : ℕ → Form Loop
section_top row = section_top_by (shape_of row)

-- entries after a length of their own (NIT, BAT), or in the n bytes up to the CRC_32 (SDT, EIT)
abbrev pub section_entries_by : TableShape → ℕ → ℕ → Form Entries
section_entries_by x row n =
    choose has_entries x then (choose has_top x then loop (section_entry row) bare else mute [] then filling (section_entry row) n) else mute ([], [])

-- those of a row
abbrev pub section_entries : ℕ → ℕ → Form Entries
section_entries row n = section_entries_by (shape_of row) row n

-- what stands behind section_length; n bytes follow the head
abbrev pub section_body : ℕ → ℕ → Form Body
section_body row n = each section_item (head_of row) then section_top row then section_entries row n

-- ---- to a section

-- the bytes behind section_length, up to the CRC_32
abbrev pub bodyBytes : Content → List ℕ
bodyBytes c = (section_body (row_in c) 0).show (body_of c)

-- section_length: those bytes, and four where a CRC_32 follows
unfoldable pub section_length : Content → ℕ
section_length c = length (bodyBytes c) + 4 * (row_at (row_in c)).crc

-- all but the CRC_32
unfoldable pub front : Content → List ℕ
front c =
    table_of c
    ∷ ((row_at (row_in c)).syntax * 128 + pack frame (frame_of c) * 16 + section_length c / 256)
    ∷ (section_length c % 256)
    ∷ bodyBytes c

-- "All but TDT end in CRC_32"
unfoldable pub seal : Content → List ℕ
seal c = if eqb (row_at (row_in c)).crc 1 then bytes_of (crc (front c)) else []

-- the whole section
unfoldable pub section_of : Content → List ℕ
section_of c = front c ++ seal c

-- ---- from a section

-- the bytes behind section_length and before the CRC_32
abbrev pub middle : List ℕ → List ℕ
middle s = drop 3 (take (length s - 4 * (row_at (row_of (get_or s 0 0))).crc) s)

-- the content of a section, row by row; the judge says before whether it is one
unfoldable pub content_of : List ℕ → Reading Content
content_of s =
    (section_body (row_of (get_or s 0 0)) (3 + length (middle s) - (row_at (row_of (get_or s 0 0))).before)).read (middle s) >>= λ b.
    value (get_or s 0 0, (unpack frame (get_or s 1 0 / 16 % 8), b.0))

-- ---- a sheet's content, or the first of refusals 22 to 26

-- "25 bytes after the sheet"; "26 section_length would pass its row"
unfoldable pub read_sheet_for : (Field → Form ℕ) → List ℕ → Reading Content
read_sheet_for field s =
    (sheet_for field).read s >>= λ c.
    if ltb 0 (length c.1) then refused 25
    else if ltb (row_at (row_in c.0)).most (section_length c.0) then refused 26
    else value c.0

-- of document 01's sheets
abbrev pub read_sheet : List ℕ → Reading Content
read_sheet = read_sheet_for sheet_field
