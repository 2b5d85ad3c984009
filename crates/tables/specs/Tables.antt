-- Document 01, "Tables that are known": the rows, and the row that a table_id has.
use Rattle.std.specs.Prelude.{ℕ, zero, suc, ◌+◌, ◌≤◌, ◌≡◌, ◌⊎◌, List, [], ◌∷◌, Bool, ◌&&◌, ◌||◌, get_or, leb, ltb, if◌then◌else◌}
use Rattle.std.specs.Prelude.{Option, Some, None}
use Rattle.tables.specs.declared.Row.{Row}
use Rattle.tables.specs.declared.Table.{Table}
use Rattle.tables.specs.declared.Table.TheVariants.{Nit, Sdt, Bat, Eit, Tdt, Tot}

-- ---- the rows by name

abbrev pub NIT : ℕ
NIT = 0

abbrev pub SDT : ℕ
SDT = 1

abbrev pub BAT : ℕ
BAT = 2

abbrev pub EIT : ℕ
EIT = 3

abbrev pub TDT : ℕ
TDT = 4

abbrev pub TOT : ℕ
TOT = 5

-- in the place of a row, where none has the table_id
abbrev pub UNKNOWN : ℕ
UNKNOWN = 6

-- the place of a table's row
abbrev pub place : Table → ℕ
place Nit = NIT
place Sdt = SDT
place Bat = BAT
place Eit = EIT
place Tdt = TDT
place Tot = TOT

-- and UNKNOWN, where there is none
abbrev pub place_or_unknown : Option Table → ℕ
place_or_unknown None = UNKNOWN
place_or_unknown (Some t) = place t

-- "NIT, BAT, SDT, EIT: extension id 2, version 1, current 1, section number 1, last 1.": the rows before that of TDT
abbrev pub is_numbered : ℕ → Bool
is_numbered row = ltb row TDT

-- ---- the rows

-- NIT, SDT, BAT, EIT, TDT, TOT: table_id from and to, a second table_id from and to; syntax bit; least and greatest section_length; bytes before
-- the first loop or entry; entry's fixed bytes, 0 for none; 1 where a top loop follows; 1 where the table ends in a CRC_32
abbrev pub rows : List (List ℕ)
rows =
    (0x40 ∷ 0x40 ∷ 0x41 ∷ 0x41 ∷ 1 ∷ 13 ∷ 1021 ∷ 8 ∷ 6 ∷ 1 ∷ 1 ∷ [])
    ∷ (0x42 ∷ 0x42 ∷ 0x46 ∷ 0x46 ∷ 1 ∷ 12 ∷ 1021 ∷ 11 ∷ 5 ∷ 0 ∷ 1 ∷ [])
    ∷ (0x4A ∷ 0x4A ∷ 0x4A ∷ 0x4A ∷ 1 ∷ 13 ∷ 1021 ∷ 8 ∷ 6 ∷ 1 ∷ 1 ∷ [])
    ∷ (0x4E ∷ 0x6F ∷ 0x4E ∷ 0x6F ∷ 1 ∷ 15 ∷ 4093 ∷ 14 ∷ 12 ∷ 0 ∷ 1 ∷ [])
    ∷ (0x70 ∷ 0x70 ∷ 0x70 ∷ 0x70 ∷ 0 ∷ 5 ∷ 5 ∷ 8 ∷ 0 ∷ 0 ∷ 0 ∷ [])
    ∷ (0x73 ∷ 0x73 ∷ 0x73 ∷ 0x73 ∷ 0 ∷ 11 ∷ 1021 ∷ 8 ∷ 0 ∷ 1 ∷ 1 ∷ [])
    ∷ []

-- what stands in a column of a row; 0 outside the table
unfoldable pub cell : ℕ → ℕ → ℕ
cell i j = get_or (get_or rows i []) j 0

-- an entry's fixed bytes, where there are entries, hold its loop length
abbrev pub FixedTwo : ℕ → Type 0
FixedTwo fixed = (fixed ≡ 0 → ⊥) → 2 ≤ fixed

-- what a row says beside its ids, by its columns
abbrev pub beside_ids : (ℕ → ℕ) → Row
beside_ids column =
    record {
      syntax = column 4;
      least = column 5;
      most = column 6;
      before = column 7;
      fixed = column 8;
      top = column 9;
      crc = column 10;
    }

-- a row without its ids
abbrev pub row_at : ℕ → Row
row_at i = beside_ids (cell i)

-- low ≤ x ≤ high
abbrev pub between : ℕ → ℕ → ℕ → Bool
between low x high = leb low x && leb x high

-- the id lies in one of the row's two ranges
unfoldable pub holds : List ℕ → ℕ → Bool
holds row id = between (get_or row 0 0) id (get_or row 1 0) || between (get_or row 2 0) id (get_or row 3 0)

-- the first of k numbers from i on at which p holds, else the number after them
unfoldable pub first : ℕ → ℕ → (ℕ → Bool) → ℕ
first zero i p = i
first (suc k) i p = if p i then i else first k (i + 1) p

-- the row of a table_id; UNKNOWN where none has it
unfoldable pub row_of : ℕ → ℕ
row_of id = first UNKNOWN 0 (λ i. holds (get_or rows i []) id)

-- a row's ids
abbrev pub InRow : ℕ → ℕ → Type 0
InRow i id = ((cell i 0 ≤ id) × (id ≤ cell i 1)) ⊎ ((cell i 2 ≤ id) × (id ≤ cell i 3))
