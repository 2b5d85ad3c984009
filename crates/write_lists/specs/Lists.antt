-- Lists, written: items of one size, each of a row of k numbers.
use Rattle.std.specs.Prelude.{◌≡◌, ◌⊎◌, ◌↔◌, List, ℕ, ◌+◌, ◌*◌, ◌/◌, ◌%◌, ◌<◌, ℤ, length, take, drop}
use Rattle.wire.specs.Bytes.{Bytes}
use Rattle.wire.specs.Reading.{Reading, value, refused, ◌>>=◌}
use Rattle.forms.specs.Fields.{Field}
use Rattle.clock.specs.Fault.{Answered}
use Rattle.layout.specs.Shapes.{joined}
use Rattle.layout.specs.Widths.{size}
use Rattle.writing.specs.Fill.{ones, ReservedIn}
use Rattle.writing.specs.Rows.{items_of, items_from, together}
use Rattle.writing.specs.Written.{headed}

-- the tag, the length, and the items; `piece` makes the bytes of one of the numbers that a list begins with
abbrev pub list_of : ℕ → ℕ → (List ℤ → Reading (List ℕ)) → List ℤ → Reading (List ℕ)
list_of tag k piece zs = items_of k piece zs >>= λ l. headed tag (joined l)

-- what a descriptor is read as: the rows of its items, by their number and by the reading of one
abbrev pub rows_read : {A : Type 0} → (A → List ℤ) → Answered ℕ → (ℕ → Answered A) → Answered (List ℤ)
rows_read row count read = count >>= λ n. items_from read 0 n >>= λ l. value (together row l)

-- the bytes of the item of an index, of a descriptor whose items have a layout
abbrev pub item_at : List Field → List ℕ → ℕ → List ℕ
item_at fs s i = take (size fs) (drop (2 + size fs * i) s)

-- a property of each item's bytes
abbrev pub EachItem : (List ℕ → Type 0) → List Field → List ℕ → Type 0
EachItem P fs s = (i : ℕ) → i < length (drop 2 s) / size fs → P (item_at fs s i)

-- "reserved bits were ones", in each item
abbrev pub UsualItems : List Field → List ℕ → Type 0
UsualItems fs s = EachItem (ReservedIn ones fs) fs s

-- ---- which lists are refused

-- some descriptor has an item of this row; `read` is the reading of an item, by its index
abbrev pub Item : {A : Type 0} → (List ℕ → ℕ → Answered A) → (A → List ℤ) → List ℤ → Type 0
Item read row r = (s : List ℕ) × (j : ℕ) × (a : _) × Bytes s × (read s j ≡ value a) × (row a ≡ r)

-- the row of an index, of k numbers
abbrev pub row_at : ℕ → List ℤ → ℕ → List ℤ
row_at k zs i = take k (drop (k * i) zs)

-- "112 a field outside its layout": exactly if numbers are left that are no row, or one row by itself is such that no descriptor has it
abbrev pub ItemExactly : {A : Type 0} → ℕ → (List ℕ → ℕ → Answered A) → (A → List ℤ) → (List ℤ → Reading (List ℕ)) → Type 0
ItemExactly k read row write =
    (zs : List ℤ) → write zs ≡ refused 112
    ↔ ((length zs % k ≡ 0 → ⊥) ⊎ ((i : ℕ) × (i < length zs / k) × (Item read row (row_at k zs i) → ⊥)))

-- "113 body over 255 bytes": exactly if each row is such as some descriptor has, and they are more than 255 bytes; an item has n
abbrev pub LongExactly : {A : Type 0} → ℕ → ℕ → (List ℕ → ℕ → Answered A) → (A → List ℤ) → (List ℤ → Reading (List ℕ)) → Type 0
LongExactly k n read row write =
    (zs : List ℤ) → write zs ≡ refused 113
    ↔ (length zs % k ≡ 0) × ((i : ℕ) → i < length zs / k → Item read row (row_at k zs i)) × (255 < n * (length zs / k))
