-- Fields of some bits each, packed into a byte or half a byte as a section has them, and in a byte each as a sheet has them.
use Rattle.std.specs.Prelude.{ℕ, ◌+◌, ◌-◌, ◌*◌, ◌/◌, ◌%◌, ◌^◌, ◌<◌, List, [], ◌∷◌, get_or, ltb, if◌then◌else◌}
use Rattle.wire.specs.Reading.{value, refused, ◌>>=◌}
use Rattle.forms.specs.Form.{Front, Form, mute, raw_read, each, EachOk}

-- a field of so many bits; a reserved one is in no sheet
pub data Field : Type 0 where
  kept : ℕ → Field
  reserved : ℕ → Field

-- its bits
abbrev pub width : Field → ℕ
width (kept w) = w
width (reserved w) = w

-- the bits of all fields
abbrev pub bits : List Field → ℕ
bits [] = 0
bits (f ∷ fs) = width f + bits fs

-- ---- in a sheet

-- a byte that has to be below n. "24 version above 31, current, flag or free_CA_mode above 1, running_status above 7"
unfoldable pub below_read : ℕ → List ℕ → Front ℕ
below_read n s = raw_read 1 s >>= λ a. if ltb (get_or a.0 0 0) n then value (get_or a.0 0 0, a.1) else refused 24

-- the form of such a byte
abbrev pub below : ℕ → Form ℕ
below n = record { read = below_read n; show = λ v. v ∷ []; Ok = λ v. v < n }

-- a kept field is a byte; a reserved one is none. "Reserved bits are written as ones."
abbrev pub sheet_field : Field → Form ℕ
sheet_field (kept w) = below (2 ^ w)
sheet_field (reserved w) = mute (2 ^ w - 1)

-- fields in a sheet, one behind the other
abbrev pub sheet_fields : List Field → Form (List ℕ)
sheet_fields = each sheet_field

-- ---- in a section

-- one number more than the fields can make
unfoldable pub room : List Field → ℕ
room [] = 1
room (f ∷ fs) = 2 ^ width f * room fs

-- the first field is the highest
unfoldable pub pack : List Field → List ℕ → ℕ
pack [] vs = 0
pack (f ∷ fs) [] = 0
pack (f ∷ fs) (v ∷ vs) = v * room fs + pack fs vs

-- the fields of a number
unfoldable pub unpack : List Field → ℕ → List ℕ
unpack [] x = []
unpack (f ∷ fs) x = x / room fs ∷ unpack fs (x % room fs)

-- each value fits its field
abbrev pub Fit : List Field → List ℕ → Type 0
Fit = EachOk (λ f. below (2 ^ width f))

-- one byte is read, and its fields are taken apart
unfoldable pub byte_read : List Field → List ℕ → Front (List ℕ)
byte_read fs s = raw_read 1 s >>= λ a. value (unpack fs (get_or a.0 0 0), a.1)

-- a whole byte of fields
abbrev pub byte_of : List Field → Form (List ℕ)
byte_of fs = record { read = byte_read fs; show = λ vs. pack fs vs ∷ []; Ok = Fit fs }
