-- What a section is: demand 2, "its header is legal, its loops, entries and descriptors fill their declared lengths to the last byte, and its CRC,
-- where the table has one, holds". Places appear only to say where each descriptor stands.
use Rattle.std.specs.Prelude.{ℕ, ◌+◌, ◌-◌, ◌*◌, ◌/◌, ◌<◌, ◌≤◌, ◌≡◌, List, [], ◌∷◌, ◌++◌, length, get_or}
use Rattle.wire.specs.Bytes.{len12, len12_at}
use Rattle.crc.specs.Crc.{crc}
use Rattle.tables.specs.Tables.{row_at, InRow}
use Rattle.loops.specs.Descriptors.{Placed}
use Rattle.loops.specs.Grammar.{Descriptors}
use Rattle.tables.specs.declared.Row.{Row}

-- "An entry's fixed bytes end in its own loop length."
pub record Head (fixed : ℕ) (head body : List ℕ) : Type 0 where
  pub size : length head ≡ fixed
  pub says : len12_at head (fixed - 2) ≡ length body

-- entries, each its fixed bytes and its loop
pub data Entries (fixed : ℕ) : ℕ → List ℕ → List (List Placed) → Type 0 where
  none : {p : ℕ} → Entries fixed p [] []
  one : {p : ℕ} (head body : List ℕ) {l : List ℕ} {ds : List Placed} {loops : List (List Placed)} → Head fixed head body
      → Descriptors (p + fixed) body ds → Entries fixed (p + fixed + length body) l loops
      → Entries fixed p (head ++ (body ++ l)) (ds ∷ loops)

-- what stands between head and CRC: nothing (TDT), a loop (TOT), a loop and a length over entries (NIT, BAT), entries (SDT, EIT)
pub data Inside (row : Row) (p : ℕ) : List ℕ → List (List Placed) → Type 0 where
  nothing : (row.top ≡ 1 → ⊥) → row.fixed ≡ 0 → Inside row p [] []
  loop : row.top ≡ 1 → row.fixed ≡ 0 → (high low : ℕ) {l : List ℕ} {ds : List Placed} → len12 high low ≡ length l
      → Descriptors (p + 2) l ds → Inside row p (high ∷ low ∷ l) (ds ∷ [])
  loops : row.top ≡ 1 → (row.fixed ≡ 0 → ⊥) → (high low : ℕ) (top : List ℕ) {ds : List Placed} → len12 high low ≡ length top
      → Descriptors (p + 2) top ds → (high' low' : ℕ) {l : List ℕ} {rest : List (List Placed)} → len12 high' low' ≡ length l
      → Entries row.fixed (p + (2 + length top) + 2) l rest → Inside row p (high ∷ low ∷ (top ++ (high' ∷ low' ∷ l))) (ds ∷ rest)
  entries : (row.top ≡ 1 → ⊥) → (row.fixed ≡ 0 → ⊥) → {l : List ℕ} {rest : List (List Placed)} → Entries row.fixed p l rest
      → Inside row p l ([] ∷ rest)

-- bytes cut into a row's head, what stands inside, and a CRC_32 where the table has one
pub record Cut (i : ℕ) (s middle : List ℕ) : Type 0 where
  pub known : i < 6
  pub table : InRow i (get_or s 0 0)
  pub head : List ℕ
  pub tail : List ℕ
  pub whole : s ≡ head ++ (middle ++ tail)
  pub before : length head ≡ (row_at i).before
  pub last : length tail ≡ 4 * (row_at i).crc

-- the header is legal for the row
pub record Header (row : Row) (s : List ℕ) : Type 0 where
  pub syntax : get_or s 1 0 / 128 ≡ row.syntax
  pub least : row.least ≤ len12_at s 1
  pub most : len12_at s 1 ≤ row.most
  pub size : length s ≡ 3 + len12_at s 1
  pub numbers : row.syntax ≡ 1 → get_or s 6 0 ≤ get_or s 7 0

-- a section s, and the descriptors of its loops in reading order: the top loop's, then each entry's
pub record Section (s : List ℕ) (loops : List (List Placed)) : Type 0 where
  pub row : ℕ
  pub middle : List ℕ
  pub cut : Cut row s middle
  pub header : Header (row_at row) s
  pub holds : (row_at row).crc ≡ 1 → crc s ≡ 0
  pub inside : Inside (row_at row) (row_at row).before middle loops
