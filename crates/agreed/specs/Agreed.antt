-- A section's head and its sheet: each field that `head` reads in a section's bits stands in the sheet in bytes of its
-- own. Document 01, "Content sheets", behind the table_id's one byte: "NIT, BAT, SDT, EIT: extension id 2, version 1,
-- current 1, section number 1, last 1. SDT adds original_network_id 2. EIT adds transport_stream_id 2,
-- original_network_id 2, .."
use Rattle.std.specs.Prelude.{ℕ, ◌≡◌, List, false, get_or, eqb, if◌then◌else◌}
use Rattle.wire.specs.Bytes.{Bytes}
use Rattle.wire.specs.Number.{number_at}
use Rattle.head.specs.Head.{extension_in, version_in, is_current, number_in, last_in, has_no_sub_table}
use Rattle.head.specs.SubTable.{is_sdt, ids_that_count, sub_table_of}
use Rattle.head.specs.declared.SubTable.{SubTable}
use Rattle.turn.specs.Turn.{gives, to_section, to_sheet}

-- the sub-table of a sheet: an SDT's original_network_id stands where an EIT has its transport_stream_id
unfoldable pub sheet_sub_table : List ℕ → SubTable
sheet_sub_table s =
    ids_that_count (get_or s 0 0) (number_at 2 s 1) (number_at 2 s 7)
    (if is_sdt (get_or s 0 0) then number_at 2 s 7 else number_at 2 s 9)

-- a sheet shows what the head of a section has
pub record Shows (sheet section : List ℕ) : Type 0 where
  pub table : get_or section 0 0 ≡ get_or sheet 0 0
  pub extension : extension_in section ≡ number_at 2 sheet 1
  pub version : version_in section ≡ get_or sheet 3 0
  pub current : is_current section ≡ eqb (get_or sheet 4 0) 1
  pub number : number_in section ≡ get_or sheet 5 0
  pub last : last_in section ≡ get_or sheet 6 0
  pub sub-table : sub_table_of section ≡ sheet_sub_table sheet

-- the section that a sheet is made into, where its table has a sub-table
abbrev pub SectionShown : Type 0
SectionShown = (n : ℕ) (sheet section : List ℕ) → Bytes sheet → to_section n sheet ≡ gives section
    → has_no_sub_table section ≡ false → Shows sheet section

-- the sheet that a section is made into, likewise
abbrev pub SheetShown : Type 0
SheetShown = (n : ℕ) (section sheet : List ℕ) → Bytes section → to_sheet n section ≡ gives sheet
    → has_no_sub_table section ≡ false → Shows sheet section
