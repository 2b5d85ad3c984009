-- What stands in a section's head, by its bytes and table_ids alone: EN 300 468, clause 5.2.
use Rattle.std.specs.Prelude.{ℕ, ◌+◌, ◌*◌, ◌<◌, ◌≤◌, ◌≡◌, ◌⊎◌, List, get_or}
use Rattle.head.specs.declared.SubTable.{SubTable}

-- two bytes, the high one first
abbrev pub pair : List ℕ → ℕ → ℕ
pair s i = get_or s i 0 * 256 + get_or s (i + 1) 0

-- reserved 2 bits, version_number 5, current_next_indicator 1
pub record Versioned (s : List ℕ) (version current : ℕ) : Type 0 where
  pub reserved : ℕ
  pub byte : get_or s 5 0 ≡ reserved * 64 + version * 2 + current
  pub five_bits : version < 32
  pub one_bit : current < 2

-- "A sub-table is table_id and extension, for SDT also original_network_id, for EIT also both transport ids."
pub record OfSubTable (k : SubTable) (s : List ℕ) : Type 0 where
  pub table : k.table_id ≡ get_or s 0 0
  pub extension : k.extension ≡ pair s 3
  pub sdt : (get_or s 0 0 ≡ 0x42) ⊎ (get_or s 0 0 ≡ 0x46) → k.original_network_id ≡ pair s 8
  pub eit : (0x4E ≤ get_or s 0 0) × (get_or s 0 0 ≤ 0x6F)
      → (k.transport_stream_id ≡ pair s 8) × (k.original_network_id ≡ pair s 10)
