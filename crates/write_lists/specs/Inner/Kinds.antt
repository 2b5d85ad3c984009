-- The four lists, one beside the other.
use Prim.{Unit, tt}
use Rattle.std.specs.Prelude.{◌≡◌, Bool, true, false, List, [], ◌∷◌, ◌++◌, ℕ, ◌*◌, ◌≤◌, ℤ, pos, length, get_or, Option, Some, None, Result, Ok, Err}
use Rattle.wire.specs.Reading.{Reading, value, refused, ◌>>=◌}
use Rattle.layout.specs.Shapes.{joined}
use Rattle.writing.specs.Number.{ofNumber}
use Rattle.writing.specs.Rows.{natural, rows}
use Rattle.write_lists.specs.Inner.Numbers.{joint}
use Rattle.write_lists.specs.Lists.{list_of}
use Rattle.write_lists.specs.ServiceList as services
use Rattle.write_lists.specs.Content as contents
use Rattle.write_lists.specs.ParentalRating as ratings
use Rattle.write_lists.specs.LocalTimeOffset as offsets
use Rattle.write_lists.specs.declared.kinds.Kind.{Kind}
use Rattle.write_lists.specs.declared.kinds.Kind.TheVariants.{ServiceList, Content, ParentalRating, LocalTimeOffset}
use Rattle.write_lists.specs.declared.kinds.Piece.{Piece}
use Rattle.writing.specs.declared.Refusal.{Refusal}
use Rattle.writing.specs.declared.Refusal.TheVariants.{Room, Field, Long}

abbrev pub tag_of : Kind → ℕ
tag_of ServiceList = 0x41
tag_of Content = 0x54
tag_of ParentalRating = 0x55
tag_of LocalTimeOffset = 0x58

-- the numbers of a row
abbrev pub row_size : Kind → ℕ
row_size ServiceList = 2
row_size Content = 3
row_size ParentalRating = 2
row_size LocalTimeOffset = 9

-- the bytes of an item
abbrev pub item_size : Kind → ℕ
item_size ServiceList = 3
item_size Content = 2
item_size ParentalRating = 4
item_size LocalTimeOffset = 13

-- of its high number, and of its low one
abbrev pub high_size : Kind → ℕ
high_size ServiceList = 0
high_size Content = 0
high_size ParentalRating = 0
high_size LocalTimeOffset = 6

abbrev pub low_size : Kind → ℕ
low_size ServiceList = 3
low_size Content = 2
low_size ParentalRating = 4
low_size LocalTimeOffset = 7

abbrev pub piece_of : Kind → List ℤ → Reading (List ℕ)
piece_of ServiceList = services.piece
piece_of Content = contents.piece
piece_of ParentalRating = ratings.piece
piece_of LocalTimeOffset = offsets.piece

unfoldable pub list_written : Kind → List ℤ → Reading (List ℕ)
list_written k zs = list_of (tag_of k) (row_size k) (piece_of k) zs

-- ---- the items whose numbers are their fields, as bits

abbrev pub service_bits : List ℤ → Reading ℕ
service_bits zs = joint (natural 0x1_0000 (get_or zs 0 (pos 0))) 256 (natural 256 (get_or zs 1 (pos 0)))

abbrev pub content_bits : List ℤ → Reading ℕ
content_bits zs =
    joint (joint (natural 16 (get_or zs 0 (pos 0))) 16 (natural 16 (get_or zs 1 (pos 0)))) 256 (natural 256 (get_or zs 2 (pos 0)))

abbrev pub rating_bits : List ℤ → Reading ℕ
rating_bits zs = joint (natural 0x100_0000 (get_or zs 0 (pos 0))) 256 (natural 256 (get_or zs 1 (pos 0)))

-- ---- items

-- an item of two numbers, the one behind the other
unfoldable pub item_of : Kind → Reading ℕ → Reading ℕ → Reading (List ℕ)
item_of k high low = high >>= λ h. low >>= λ l. value (ofNumber (high_size k) h ++ ofNumber (low_size k) l)

-- what an answer tells
abbrev pub told_piece : Kind → Option Piece → Reading (List ℕ)
told_piece k (Some p) = value (ofNumber (high_size k) p.high ++ ofNumber (low_size k) p.low)
told_piece k None = refused 112

-- that something is read, or its refusal
unfoldable pub judged : {A : Type 0} → Reading A → Reading (Unit {0})
judged r = r >>= λ a. value tt

abbrev pub Judged : {A : Type 0} → Reading A → Type 0
Judged r = judged r ≡ value tt

-- the same of an answer
abbrev pub passed : Bool → Reading (Unit {0})
passed true = value tt
passed false = refused 112

-- the bytes of an item, or none
abbrev pub bytes_or : Reading (List ℕ) → List ℕ
bytes_or (value b) = b
bytes_or (refused k) = []

-- of items, one behind the other
abbrev pub joined_rows : Reading (List (List ℕ)) → List ℕ
joined_rows (value l) = joined l
joined_rows (refused k) = []

-- ---- a descriptor

-- of n rows: the tag, the length, and the items
abbrev pub list_bytes : Kind → ℕ → List ℤ → List ℕ
list_bytes k n zs = tag_of k ∷ item_size k * n ∷ joined_rows (rows (row_size k) (piece_of k) n zs)

-- n rows can be written
pub record Ready (k : Kind) (zs : List ℤ) (n : ℕ) : Type 0 where
  pub enough : row_size k * n ≤ length zs
  pub are : Judged (rows (row_size k) (piece_of k) n zs)
  pub short : item_size k * n ≤ 255
  pub is : list_written k zs ≡ value (list_bytes k n zs)

-- what a count says
abbrev pub Counted : Kind → List ℤ → Result ℕ Refusal → Type 0
Counted k zs (Ok n) = Ready k zs n
Counted k zs (Err Field) = list_written k zs ≡ refused 112
Counted k zs (Err Long) = list_written k zs ≡ refused 113
Counted k zs (Err Room) = ⊥
