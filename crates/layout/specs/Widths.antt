-- A layout: the fields of a body or an item in the order of their table, kept or reserved, each by its bits. Where a field stands follows from
-- the widths in front of it: the first bit is the highest of the first byte.
use Rattle.std.specs.Prelude.{ℕ, zero, suc, ◌-◌, ◌*◌, ◌/◌, ◌%◌, ◌<◌, ◌≡◌, Bool, true, false, List, [], ◌∷◌, length, get_or, take}
use Rattle.wire.specs.Number.{number, number_at, bits_at}
use Rattle.forms.specs.Fields.{Field, kept, reserved, width, unpack}
pub use Rattle.forms.specs.Fields.{bits}
use Rattle.clock.specs.Fault.{Answered}
use Rattle.layout.specs.Field.{digits_at}
use Rattle.layout.specs.Shapes.{Framed, Itemed, Texted}
use Rattle.layout.specs.declared.texts.TwoTexts.{TwoTexts}

-- the bytes that they fill
abbrev pub size : List Field → ℕ
size fs = bits fs / 8

-- the bits in front of the field of an index counted from 0
abbrev pub before : List Field → ℕ → ℕ
before fs i = bits (take i fs)

-- its own bits
abbrev pub width_of : List Field → ℕ → ℕ
width_of [] i = 0
width_of (f ∷ fs) zero = width f
width_of (f ∷ fs) (suc i) = width_of fs i

-- the byte in which it begins
abbrev pub place : List Field → ℕ → ℕ
place fs i = before fs i / 8

-- a field of some bits of one byte
abbrev pub bits_of : List Field → ℕ → List ℕ → ℕ
bits_of fs i b = bits_at b (place fs i) (7 - before fs i % 8) (8 - before fs i % 8 - width_of fs i)

-- a field that is one byte
abbrev pub byte_of : List Field → ℕ → List ℕ → ℕ
byte_of fs i b = get_or b (place fs i) 0

-- a field of whole bytes
abbrev pub number_of : List Field → ℕ → List ℕ → ℕ
number_of fs i b = number_at (width_of fs i / 8) b (place fs i)

-- a field of BCD digits, the first of them the high half of a byte
abbrev pub digits_of : List Field → ℕ → List ℕ → Answered ℕ
digits_of fs i b = digits_at b (place fs i) (width_of fs i / 4)

-- the values of the fields that are kept
abbrev pub kept_of : List Field → List ℕ → List ℕ
kept_of [] vs = []
kept_of (f ∷ fs) [] = []
kept_of (kept w ∷ fs) (v ∷ vs) = v ∷ kept_of fs vs
kept_of (reserved w ∷ fs) (v ∷ vs) = kept_of fs vs

-- what a body or an item has in the fields that its layout keeps, in the table's order
unfoldable pub keptIn : List Field → List ℕ → List ℕ
keptIn fs b = kept_of fs (unpack fs (number b))

-- a flag of one bit
abbrev pub bit : Bool → ℕ
bit true = 1
bit false = 0

-- s is a tag, a length, and a body that the layout fills and in which the fields that it keeps have these values
pub record Holds (tag : ℕ) (fs : List Field) (s : List ℕ) (values : List ℕ) : Type 0 where
  pub body : List ℕ
  pub framed : Framed tag s body
  pub filled : bits fs ≡ 8 * length body
  pub fields : keptIn fs body ≡ values

-- s is a tag, a length, and items that the layout fills, and in the item of an index the fields that it keeps have these values
pub record HoldsItem (tag : ℕ) (fs : List Field) (s : List ℕ) (index : ℕ) (values : List ℕ) : Type 0 where
  pub items : List (List ℕ)
  pub itemed : Itemed (size fs) tag s items
  pub there : index < length items
  pub fields : keptIn fs (get_or items index []) ≡ values

-- s is a tag, a length, bytes that the layout fills and in which the fields that it keeps have these values, and the two texts t
pub record HoldsTexts (tag : ℕ) (fs : List Field) (s : List ℕ) (values : List ℕ) (t : TwoTexts) : Type 0 where
  pub body : List ℕ
  pub framed : Framed tag s body
  pub texted : Texted (size fs) body t
  pub fields : keptIn fs texted.head ≡ values
