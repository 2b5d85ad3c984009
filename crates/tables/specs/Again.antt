-- The rows told a second time, and not as a table: by each table_id, and by what a section of the table is made of, as document 01's sheets list it.
use Rattle.std.specs.Prelude.{ℕ, ◌+◌, ◌-◌, ◌*◌, List, [], ◌∷◌, get_or, ltb, if◌then◌else◌}
use Rattle.tables.specs.declared.Row.{Row}

-- the table_ids from 0x40 to 0x77, eight to a line: the row of each, 6 for none
abbrev pub id_rows : List ℕ
id_rows =
    0 ∷ 0 ∷ 1 ∷ 6 ∷ 6 ∷ 6 ∷ 1 ∷ 6
    ∷ 6 ∷ 6 ∷ 2 ∷ 6 ∷ 6 ∷ 6 ∷ 3 ∷ 3
    ∷ 3 ∷ 3 ∷ 3 ∷ 3 ∷ 3 ∷ 3 ∷ 3 ∷ 3
    ∷ 3 ∷ 3 ∷ 3 ∷ 3 ∷ 3 ∷ 3 ∷ 3 ∷ 3
    ∷ 3 ∷ 3 ∷ 3 ∷ 3 ∷ 3 ∷ 3 ∷ 3 ∷ 3
    ∷ 3 ∷ 3 ∷ 3 ∷ 3 ∷ 3 ∷ 3 ∷ 3 ∷ 3
    ∷ 4 ∷ 6 ∷ 6 ∷ 5 ∷ 6 ∷ 6 ∷ 6 ∷ 6 ∷ []

-- the row of a table_id; no other id has one
abbrev pub row_by_id : ℕ → ℕ
row_by_id id = if ltb id 0x40 then 6 else get_or id_rows (id - 0x40) 6

-- the six tables
pub data Table : Type 0 where
  NIT : Table
  SDT : Table
  BAT : Table
  EIT : Table
  TDT : Table
  TOT : Table

-- whether a section has extension id, version and section numbers, 2 + 1 + 1 + 1 bytes, and then the syntax bit; else it has a time, 5 bytes too
abbrev pub numbered : Table → ℕ
numbered NIT = 1
numbered SDT = 1
numbered BAT = 1
numbered EIT = 1
numbered TDT = 0
numbered TOT = 0

-- bytes behind those. "SDT adds original_network_id 2", and a reserved byte; "EIT adds transport_stream_id 2, original_network_id 2,
-- segment_last_section_number 1, last_table_id 1"
abbrev pub added : Table → ℕ
added NIT = 0
added SDT = 2 + 1
added BAT = 0
added EIT = 2 + 2 + 1 + 1
added TDT = 0
added TOT = 0

-- 12-bit lengths outside of entries: "NIT and BAT have a second length after the top loop"
abbrev pub lengths : Table → ℕ
lengths NIT = 2
lengths SDT = 0
lengths BAT = 2
lengths EIT = 0
lengths TDT = 0
lengths TOT = 1

-- an entry's fixed bytes, its loop length the last two: NIT and BAT two ids; SDT an id and a byte of flags; EIT an id, a start of 5 and a duration of 3
abbrev pub entry : Table → ℕ
entry NIT = 2 + 2 + 2
entry SDT = 2 + 1 + 2
entry BAT = 2 + 2 + 2
entry EIT = 2 + 5 + 3 + 2
entry TDT = 0
entry TOT = 0

-- "All but TDT end in CRC_32"
abbrev pub closed : Table → ℕ
closed NIT = 1
closed SDT = 1
closed BAT = 1
closed EIT = 1
closed TDT = 0
closed TOT = 1

-- section_length of a section without a descriptor and without an entry
abbrev pub shortest : Table → ℕ
shortest t = 5 + added t + 2 * lengths t + 4 * closed t

-- a section has at most 1,024 bytes, of an EIT 4,096; a TDT is of one size
abbrev pub longest : Table → ℕ
longest NIT = 1024 - 3
longest SDT = 1024 - 3
longest BAT = 1024 - 3
longest EIT = 4096 - 3
longest TDT = shortest TDT
longest TOT = 1024 - 3

-- the row that this comes to
abbrev pub rowTold : Table → Row
rowTold t =
    record {
      syntax = numbered t;
      least = shortest t;
      most = longest t;
      before = 3 + 5 + added t;
      fixed = entry t;
      top = if ltb 0 (lengths t) then 1 else 0;
      crc = closed t;
    }

-- the tables in the order of their rows
abbrev pub tables : List Table
tables = NIT ∷ SDT ∷ BAT ∷ EIT ∷ TDT ∷ TOT ∷ []
