-- 0x55 parental rating: EN 300 468, clause 6.2.28.
use Rattle.std.specs.Prelude.{List, [], ◌∷◌, ℕ}
use Rattle.wire.specs.Reading.{value, ◌>>=◌}
use Rattle.forms.specs.Fields.{Field, kept}
use Rattle.clock.specs.Fault.{Answered}
use Rattle.layout.specs.Items.{item, count}
use Rattle.layout.specs.Widths.{size, byte_of, number_of}
use Rattle.lists.specs.declared.parental_rating.Item.{Item}

-- an item, in the order of the table
abbrev pub layout : List Field
layout =
    kept 24  -- 0 country_code
    ∷ kept 8  -- 1 rating
    ∷ []

-- each field by its index in the layout
abbrev pub fields : List ℕ → Item
fields b = record { country_code = number_of layout 0 b; rating = byte_of layout 1 b }

-- the item of an index, of a body of items of the layout's 4 bytes behind the tag 0x55
unfoldable pub parental_rating : List ℕ → ℕ → Answered Item
parental_rating s index = item s 0x55 (size layout) index >>= λ b. value (fields b)

-- how many there are
abbrev pub rating_count : List ℕ → Answered ℕ
rating_count s = count s 0x55 (size layout)

-- the values that its fields have, in the layout's order
abbrev pub shown : Item → List ℕ
shown i = i.country_code ∷ i.rating ∷ []
