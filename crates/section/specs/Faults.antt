-- The first thing that is wrong with bytes that are no section: document 01, "Checked in this order", "8 to 10 go to the first fault in reading order."
-- What stands before the fault is in the grammar, so that no fault can stand before it.
use Rattle.std.specs.Prelude.{ℕ, ◌+◌, ◌-◌, ◌/◌, ◌<◌, ◌≤◌, ◌≡◌, List, ◌∷◌, ◌++◌, length, get_or}
use Rattle.wire.specs.Bytes.{len12, len12_at}
use Rattle.crc.specs.Crc.{crc}
use Rattle.tables.specs.Tables.{row_at, InRow}
use Rattle.loops.specs.Descriptors.{Placed}
use Rattle.loops.specs.Grammar.{Descriptors, DescriptorFault}
use Rattle.section.specs.Grammar.{Head, Cut}
use Rattle.tables.specs.declared.Row.{Row}

-- number and place of the first fault among entries
pub data EntryFault (fixed : ℕ) : ℕ → List ℕ → ℕ → ℕ → Type 0 where
  -- "fewer bytes left than an entry's fixed part .. place of the first of them"
  short : {p : ℕ} {l : List ℕ} → 0 < length l → length l < fixed → EntryFault fixed p l 10 p
  -- "a loop reaches past its container; place of its length"
  past : {p : ℕ} (head l : List ℕ) → length head ≡ fixed → length l < len12_at head (fixed - 2)
      → EntryFault fixed p (head ++ l) 8 (p + (fixed - 2))
  -- in the loop of this entry
  own : {p q : ℕ} (head body l : List ℕ) → Head fixed head body → DescriptorFault (p + fixed) body q
      → EntryFault fixed p (head ++ (body ++ l)) 9 q
  -- behind this entry
  later : {p k q : ℕ} (head body : List ℕ) {l : List ℕ} {ds : List Placed} → Head fixed head body → Descriptors (p + fixed) body ds
      → EntryFault fixed (p + fixed + length body) l k q → EntryFault fixed p (head ++ (body ++ l)) k q

-- a loop that has to fill m: "8 if beyond, 10 if short"
pub data FillFault (p : ℕ) (m : List ℕ) : ℕ → ℕ → Type 0 where
  beyond : length m < 2 + len12_at m 0 → FillFault p m 8 p
  short : 2 + len12_at m 0 < length m → FillFault p m 10 (p + (2 + len12_at m 0))

-- the first fault between head and CRC
pub data InsideFault (row : Row) (p : ℕ) : List ℕ → ℕ → ℕ → Type 0 where
  -- TOT: "judged before what they hold"
  filling : row.top ≡ 1 → row.fixed ≡ 0 → {m : List ℕ} {k q : ℕ} → FillFault p m k q → InsideFault row p m k q
  loop : row.top ≡ 1 → row.fixed ≡ 0 → (high low : ℕ) {l : List ℕ} {q : ℕ} → len12 high low ≡ length l → DescriptorFault (p + 2) l q
      → InsideFault row p (high ∷ low ∷ l) 9 q
  -- NIT, BAT: "The top loop .. must leave room for the second length."
  no_room : row.top ≡ 1 → (row.fixed ≡ 0 → ⊥) → {m : List ℕ} → length m < 2 + len12_at m 0 + 2 → InsideFault row p m 8 p
  top : row.top ≡ 1 → (row.fixed ≡ 0 → ⊥) → (high low : ℕ) (body l : List ℕ) {q : ℕ} → len12 high low ≡ length body → 2 ≤ length l
      → DescriptorFault (p + 2) body q → InsideFault row p (high ∷ low ∷ (body ++ l)) 9 q
  second : row.top ≡ 1 → (row.fixed ≡ 0 → ⊥) → (high low : ℕ) (body : List ℕ) {l : List ℕ} {ds : List Placed} {k q : ℕ} → len12 high low ≡ length body
      → 2 ≤ length l → Descriptors (p + 2) body ds → FillFault (p + (2 + length body)) l k q → InsideFault row p (high ∷ low ∷ (body ++ l)) k q
  behind : row.top ≡ 1 → (row.fixed ≡ 0 → ⊥) → (high low : ℕ) (body : List ℕ) {ds : List Placed} → len12 high low ≡ length body
      → Descriptors (p + 2) body ds → (high' low' : ℕ) {l : List ℕ} {k q : ℕ} → len12 high' low' ≡ length l
      → EntryFault row.fixed (p + (2 + length body) + 2) l k q → InsideFault row p (high ∷ low ∷ (body ++ (high' ∷ low' ∷ l))) k q
  -- SDT, EIT
  entries : (row.top ≡ 1 → ⊥) → (row.fixed ≡ 0 → ⊥) → {m : List ℕ} {k q : ℕ} → EntryFault row.fixed p m k q → InsideFault row p m k q

-- refusals 1 to 7, each by itself; i is the row of the table
pub data Applies (s : List ℕ) : ℕ → Type 0 where
  -- "fewer than 3 bytes"
  too_short : length s < 3 → Applies s 1
  -- "table_id not in the table"
  unknown : ((i : ℕ) → i < 6 → InRow i (get_or s 0 0) → ⊥) → Applies s 2
  -- "wrong syntax bit"
  syntax : (i : ℕ) → i < 6 → InRow i (get_or s 0 0) → (get_or s 1 0 / 128 ≡ (row_at i).syntax → ⊥) → Applies s 3
  -- "section_length outside its row"
  below : (i : ℕ) → i < 6 → InRow i (get_or s 0 0) → len12_at s 1 < (row_at i).least → Applies s 4
  above : (i : ℕ) → i < 6 → InRow i (get_or s 0 0) → (row_at i).most < len12_at s 1 → Applies s 4
  -- "bytes given are not 3 + section_length"
  size : (length s ≡ 3 + len12_at s 1 → ⊥) → Applies s 5
  -- "CRC register not zero"
  register : (i : ℕ) → i < 6 → InRow i (get_or s 0 0) → (row_at i).crc ≡ 1 → (crc s ≡ 0 → ⊥) → Applies s 6
  -- "section_number above last_section_number (NIT, SDT, BAT, EIT)"
  numbers : (i : ℕ) → i < 6 → InRow i (get_or s 0 0) → (row_at i).syntax ≡ 1 → get_or s 7 0 < get_or s 6 0 → Applies s 7

-- the number and place of the first refusal that applies: of 1 to 7 the lowest; where none of these does, the first fault in reading order
pub data First (s : List ℕ) : ℕ → ℕ → Type 0 where
  lowest : {k : ℕ} → Applies s k → ((j : ℕ) → j < k → Applies s j → ⊥) → First s k 0
  inside : {k q : ℕ} → ((j : ℕ) → Applies s j → ⊥) → (i : ℕ) (middle : List ℕ) → Cut i s middle
      → InsideFault (row_at i) (row_at i).before middle k q → First s k q
