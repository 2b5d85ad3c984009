-- The fields of a section's head that NIT, SDT, BAT and EIT have: EN 300 468, clause 5.2. A byte that is not there reads
-- as 0.
use Rattle.std.specs.Prelude.{ℕ, ◌/◌, ◌%◌, List, Bool, not, get_or, eqb}
use Rattle.wire.specs.Number.{number_at}
use Rattle.tables.specs.Tables.{is_numbered, row_of}

-- the extension id: network_id of NIT, bouquet_id of BAT, transport_stream_id of SDT, service_id of EIT
abbrev pub extension_in : List ℕ → ℕ
extension_in s = number_at 2 s 3

-- version_number: the five bits above the lowest of byte 5
unfoldable pub version_in : List ℕ → ℕ
version_in s = get_or s 5 0 / 2 % 32

-- current_next_indicator 1: the lowest bit of byte 5
unfoldable pub is_current : List ℕ → Bool
is_current s = eqb (get_or s 5 0 % 2) 1

-- section_number
abbrev pub number_in : List ℕ → ℕ
number_in s = get_or s 6 0

-- last_section_number
abbrev pub last_in : List ℕ → ℕ
last_in s = get_or s 7 0

-- TDT and TOT, and a table that is not known: no extension, no version, no numbers, and so no sub-table
unfoldable pub has_no_sub_table : List ℕ → Bool
has_no_sub_table s = not (is_numbered (row_of (get_or s 0 0)))
