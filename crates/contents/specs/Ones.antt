-- "if its reserved bits were ones"
use Prim.{Unit}
use Rattle.std.specs.Prelude.{ℕ, ◌-◌, ◌^◌, ◌≡◌, List, [], ◌∷◌, if◌then◌else◌}
use Rattle.wire.specs.Reading.{Reading, value, refused}
use Rattle.forms.specs.Fields.{Field, kept, reserved}
use Rattle.sheet.specs.Content.{Item, plain, numbers, packed, bare, frame, head_of, entry_of, TableShape, shape_of, has_top, side_of, Entry, Content, fields_in, beside_in, frame_of, head_in, top_in, second_in, entries_in, row_in}
use Rattle.sheet.specs.Section.{content_of}

-- R of each value and what it is the value of
abbrev pub Pairwise : {A B : Type 0} → (A → B → Type 0) → List A → List B → Type 0
Pairwise R [] l = Unit {0}
Pairwise R (x ∷ xs) [] = Unit {0}
Pairwise R (x ∷ xs) (a ∷ l) = R x a × Pairwise R xs l

-- O of each one of a list
abbrev pub Each : {A : Type 0} → (A → Type 0) → List A → Type 0
Each O [] = Unit {0}
Each O (a ∷ l) = O a × Each O l

-- before the length of the top loop, and before that over the entries
abbrev pub length_bits_by : TableShape → List Field
length_bits_by x = if has_top x then bare else []

-- those of a row
abbrev pub length_bits : ℕ → List Field
length_bits row = length_bits_by (shape_of row)

-- O of every field of a table and its value
module _ (O : Field → ℕ → Type 0) where
  -- of one item
  abbrev pub OfItem : Item → List ℕ → Type 0
  OfItem (plain n) vs = Unit {0}
  OfItem numbers vs = Unit {0}
  OfItem (packed fs) vs = Pairwise O fs vs

  -- of an entry: its items, and the bits beside its loop's length
  abbrev pub OfEntry : ℕ → Entry → Type 0
  OfEntry row e = Pairwise OfItem (entry_of row) (fields_in e) × Pairwise O (side_of row) (beside_in e)

  -- of a whole table
  pub record OfFields (c : Content) : Type 0 where
    pub in_frame : Pairwise O frame (frame_of c)
    pub in_head : Pairwise OfItem (head_of (row_in c)) (head_in c)
    pub in_top : Pairwise O (length_bits (row_in c)) (top_in c).0
    pub in_second : Pairwise O (length_bits (row_in c)) (second_in c)
    pub in_entries : Each (OfEntry (row_in c)) (entries_in c)

-- a reserved field is ones, bit for bit
abbrev pub Ones : Field → ℕ → Type 0
Ones (kept w) v = Unit {0}
Ones (reserved w) v = v ≡ 2 ^ w - 1

-- every reserved field of a table
abbrev pub ReservedOnes : Content → Type 0
ReservedOnes = OfFields Ones

-- where the bytes have a content
abbrev pub OnesIn : Reading Content → Type 0
OnesIn (value c) = ReservedOnes c
OnesIn (refused k) = ⊥

-- "its reserved bits were ones", of an accepted section
abbrev pub ReservedWereOnes : List ℕ → Type 0
ReservedWereOnes s = OnesIn (content_of s)
