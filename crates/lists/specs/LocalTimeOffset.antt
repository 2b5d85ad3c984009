-- 0x58 local time offset: EN 300 468, clause 6.2.20.
use Rattle.std.specs.Prelude.{◌≡◌, Bool, List, [], ◌∷◌, ◌++◌, ℕ, ◌+◌, ◌*◌, ◌<◌, ℤ, nat_abs, eqb, get_or}
use Rattle.wire.specs.Reading.{value, ◌>>=◌}
use Rattle.wire.specs.Number.{number_at}
use Rattle.forms.specs.Fields.{Field, kept, reserved}
use Rattle.clock.specs.Fault.{Answered}
use Rattle.clock.specs.Reported.{Checked, offset_fields, time_fields}
use Rattle.clock.specs.Offset.{signed, offset_at, offset_shown}
use Rattle.clock.specs.Time.{Moment, time_at, Defined, time_shown}
use Rattle.layout.specs.Items.{item, count}
use Rattle.layout.specs.Widths.{size, place, bits_of, number_of, bit}
use Rattle.lists.specs.declared.local_time_offset.Item.{Item}

-- an item, in the order of the table
abbrev pub layout : List Field
layout =
    kept 24  -- 0 country_code
    ∷ kept 6  -- 1 country_region_id
    ∷ reserved 1
    ∷ kept 1  -- 3 local_time_offset_polarity
    ∷ kept 16  -- 4 local_time_offset, 4 BCD digits
    ∷ kept 40  -- 5 time_of_change
    ∷ kept 16  -- 6 next_time_offset, 4 BCD digits
    ∷ []

-- an offset of 16 bits at a place of the item: hour and minute in BCD, and the polarity that serves both offsets
unfoldable pub offset_in : List ℕ → ℕ → ℕ → Answered ℤ
offset_in b from at = offset_at (from + at) (eqb (bits_of layout 3 b) 1) (get_or b at 0) (get_or b (at + 1) 0)

-- a time of 40 bits at a place of the item: MJD 16, then hour, minute and second in BCD
unfoldable pub time_in : List ℕ → ℕ → ℕ → Answered Moment
time_in b from at = time_at (from + at) (number_at 2 b at) (get_or b (at + 2) 0) (get_or b (at + 3) 0) (get_or b (at + 4) 0)

-- each field by its index in the layout; the item stands at the place `from` of the body
unfoldable pub fields : ℕ → List ℕ → Answered Item
fields from b = do
  local ← offset_in b from (place layout 4)
  change ← time_in b from (place layout 5)
  next ← offset_in b from (place layout 6)
  value (record {
    country_code = number_of layout 0 b;
    country_region_id = bits_of layout 1 b;
    local_time_offset = local;
    time_of_change = change;
    next_time_offset = next;
  })

-- the item of an index, of a body of items of the layout's 13 bytes behind the tag 0x58
unfoldable pub localTimeOffset : List ℕ → ℕ → Answered Item
localTimeOffset s index = item s 0x58 (size layout) index >>= fields (size layout * index)

-- how many there are
abbrev pub offset_count : List ℕ → Answered ℕ
offset_count s = count s 0x58 (size layout)

-- the fields of the item at the place `from` that can be refused, by their places in the body b
abbrev pub checked : List ℕ → ℕ → List Checked
checked b from = offset_fields (from + 4) ++ (time_fields b (from + 6) ++ offset_fields (from + 11))

-- the values that its kept fields have, in the layout's order; one polarity serves both offsets
abbrev pub shown : Bool → Item → List ℕ
shown behind i =
    i.country_code
    ∷ i.country_region_id
    ∷ bit behind
    ∷ offset_shown i.local_time_offset
    ∷ time_shown i.time_of_change
    ∷ offset_shown i.next_time_offset
    ∷ []

-- "polarity 1 is behind UTC": an offset of less than a day, with the sign that the polarity gives it
abbrev pub Signed : Bool → ℤ → Type 0
Signed behind z = (z ≡ signed behind (nat_abs z)) × (nat_abs z < 1440)

-- the values of an item in range
pub record Right (behind : Bool) (i : Item) : Type 0 where
  pub local : Signed behind i.local_time_offset
  pub change : Defined i.time_of_change
  pub next : Signed behind i.next_time_offset
