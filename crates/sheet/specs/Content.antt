-- What a table contains: the fields of its head, the descriptors of its top loop, its entries with their descriptors. One description, row by row,
-- of which section and sheet are two forms.
use Rattle.std.specs.Prelude.{ℕ, List, [], ◌∷◌, Bool, true, false, get_or, eqb, if◌then◌else◌}
use Rattle.tables.specs.Tables.{row_of, row_at}
use Rattle.forms.specs.Fields.{Field, kept, reserved}

-- what stands in a head, or in an entry before its loop
pub data Item : Type 0 where
  -- bytes that are the same in both forms
  plain : ℕ → Item
  -- section_number, last_section_number
  numbers : Item
  -- a byte of fields
  packed : List Field → Item

-- reserved, version_number, current_next_indicator
abbrev pub version : Item
version = packed (reserved 2 ∷ kept 5 ∷ kept 1 ∷ [])

-- reserved_future_use, EIT_schedule_flag, EIT_present_following_flag
abbrev pub flags : Item
flags = packed (reserved 6 ∷ kept 1 ∷ kept 1 ∷ [])

-- reserved_future_use
abbrev pub filler : Item
filler = packed (reserved 8 ∷ [])

-- the four bits before a loop's length, reserved
abbrev pub bare : List Field
bare = reserved 4 ∷ []

-- running_status, free_CA_mode, in their place
abbrev pub status : List Field
status = kept 3 ∷ kept 1 ∷ []

-- before section_length: the bit that EN 300 468 calls reserved_future_use, and reserved
abbrev pub frame : List Field
frame = reserved 1 ∷ reserved 2 ∷ []

-- "NIT, BAT, SDT, EIT: extension id 2, version 1, current 1, section number 1, last 1."
abbrev pub common : List Item → List Item
common more = plain 2 ∷ version ∷ numbers ∷ more

-- "SDT adds original_network_id 2. EIT adds transport_stream_id 2, original_network_id 2, segment_last_section_number 1, last_table_id 1.
-- TDT, TOT: time 5."
abbrev pub heads : List (List Item)
heads =
    common []
    ∷ common (plain 2 ∷ filler ∷ [])
    ∷ common []
    ∷ common (plain 6 ∷ [])
    ∷ (plain 5 ∷ [])
    ∷ (plain 5 ∷ [])
    ∷ []

-- "An entry is NIT/BAT: transport_stream_id 2, original_network_id 2; SDT: service_id 2, schedule flag 1, present/following flag 1, ..;
-- EIT: event_id 2, start 5, duration 3, .."
abbrev pub entry_items : List (List Item)
entry_items =
    (plain 4 ∷ [])
    ∷ (plain 2 ∷ flags ∷ [])
    ∷ (plain 4 ∷ [])
    ∷ (plain 10 ∷ [])
    ∷ []

-- the row's head
unfoldable pub head_of : ℕ → List Item
head_of row = get_or heads row []

-- the row's entry, up to its loop
unfoldable pub entry_of : ℕ → List Item
entry_of row = get_or entry_items row []

-- the four shapes of a table: neither a top loop nor entries (TDT), a top loop (TOT), entries (SDT, EIT), both (NIT, BAT)
pub data TableShape : Type 0 where
  neither : TableShape
  top_only : TableShape
  entries_only : TableShape
  both : TableShape

-- by whether there is a top loop, and whether there are no entries
abbrev pub shape_by : Bool → Bool → TableShape
shape_by false true = neither
shape_by true true = top_only
shape_by false false = entries_only
shape_by true false = both

-- a row's, by its columns
unfoldable pub shape_of : ℕ → TableShape
shape_of row = shape_by (eqb (row_at row).top 1) (eqb (row_at row).fixed 0)

-- it has a top loop
abbrev pub has_top : TableShape → Bool
has_top neither = false
has_top top_only = true
has_top entries_only = false
has_top both = true

-- it has entries
abbrev pub has_entries : TableShape → Bool
has_entries neither = false
has_entries top_only = false
has_entries entries_only = true
has_entries both = true

-- "SDT: .. running_status 1, free_CA_mode 1; EIT: .. running_status 1, free_CA_mode 1": those without a top loop
unfoldable pub side_of : ℕ → List Field
side_of row = if has_top (shape_of row) then bare else status

-- the values of fields, a list for each item
abbrev pub Fields : Type 0
Fields = List (List ℕ)

-- "descriptors (tag, length, body)"
pub record Descriptor : Type 0 where
  pub tag : ℕ
  pub body : List ℕ

-- the fields beside a loop's length, and its descriptors
abbrev pub Loop : Type 0
Loop = List ℕ × List Descriptor

-- the fields of an entry, and its loop
abbrev pub Entry : Type 0
Entry = Fields × Loop

-- an entry's fields before its loop
abbrev pub fields_in : Entry → Fields
fields_in e = e.0

-- those beside its loop's length
abbrev pub beside_in : Entry → List ℕ
beside_in e = e.1.0

-- the fields beside the length over the entries, and the entries
abbrev pub Entries : Type 0
Entries = List ℕ × List Entry

-- what stands behind section_length: head, top loop, entries
abbrev pub Body : Type 0
Body = Fields × (Loop × Entries)

-- a table's id, the fields of its frame, and its body
abbrev pub Content : Type 0
Content = ℕ × (List ℕ × Body)

-- table_id
abbrev pub table_of : Content → ℕ
table_of c = c.0

-- the values of the fields before section_length
abbrev pub frame_of : Content → List ℕ
frame_of c = c.1.0

-- what stands behind section_length
abbrev pub body_of : Content → Body
body_of c = c.1.1

-- the fields of its head
abbrev pub head_in : Content → Fields
head_in c = (body_of c).0

-- its top loop
abbrev pub top_in : Content → Loop
top_in c = (body_of c).1.0

-- what stands behind that: the entries, and the fields beside the length over them
abbrev pub rest_in : Content → Entries
rest_in c = (body_of c).1.1

-- the fields beside the length over its entries
abbrev pub second_in : Content → List ℕ
second_in c = (rest_in c).0

-- its entries
abbrev pub entries_in : Content → List Entry
entries_in c = (rest_in c).1

-- the row of its table
abbrev pub row_in : Content → ℕ
row_in c = row_of (table_of c)
