-- "A sub-table is table_id and extension, for SDT also original_network_id, for EIT also both transport ids."
use Rattle.std.specs.Prelude.{ℕ, List, Bool, ◌&&◌, get_or, eqb, if◌then◌else◌}
use Rattle.wire.specs.Number.{number_at}
use Rattle.tables.specs.Tables.{SDT, EIT, row_of}
use Rattle.head.specs.Head.{extension_in}
use Rattle.head.specs.declared.SubTable.{SubTable}

-- the row of SDT
abbrev pub is_sdt : ℕ → Bool
is_sdt id = eqb (row_of id) SDT

-- the row of EIT
abbrev pub is_eit : ℕ → Bool
is_eit id = eqb (row_of id) EIT

-- table_id, extension and those transport ids that count for the table; 0 in the place of the others
unfoldable pub ids_that_count : ℕ → ℕ → ℕ → ℕ → SubTable
ids_that_count id extension transport network =
    if is_sdt id then of 0 network
    else if is_eit id then of transport network
    else of 0 0
  where
    of : ℕ → ℕ → SubTable
    of t n = record { table_id = id; extension = extension; transport_stream_id = t; original_network_id = n }

-- original_network_id: bytes 8 and 9 of SDT, 10 and 11 of EIT
unfoldable pub network_in : List ℕ → ℕ
network_in s = if is_sdt (get_or s 0 0) then number_at 2 s 8 else number_at 2 s 10

-- the sub-table of a section: EIT's transport_stream_id stands in bytes 8 and 9
unfoldable pub sub_table_of : List ℕ → SubTable
sub_table_of s = ids_that_count (get_or s 0 0) (extension_in s) (number_at 2 s 8) (network_in s)

-- what a roll keeps, as it is compared: what stands in an id that does not count means nothing
unfoldable pub compared : SubTable → SubTable
compared k = ids_that_count k.table_id k.extension k.transport_stream_id k.original_network_id

-- the same sub-table
unfoldable pub same_ids : SubTable → SubTable → Bool
same_ids a b =
    eqb a.table_id b.table_id && (eqb a.extension b.extension
    && (eqb a.transport_stream_id b.transport_stream_id && eqb a.original_network_id b.original_network_id))
