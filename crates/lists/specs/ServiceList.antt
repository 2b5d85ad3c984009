-- 0x41 service list: EN 300 468, clause 6.2.35.
use Rattle.std.specs.Prelude.{List, [], ◌∷◌, ℕ}
use Rattle.wire.specs.Reading.{value, ◌>>=◌}
use Rattle.forms.specs.Fields.{Field, kept}
use Rattle.clock.specs.Fault.{Answered}
use Rattle.layout.specs.Items.{item, count}
use Rattle.layout.specs.Widths.{size, byte_of, number_of}
use Rattle.lists.specs.declared.service_list.Item.{Item}

-- an item, in the order of the table
abbrev pub layout : List Field
layout =
    kept 16  -- 0 service_id
    ∷ kept 8  -- 1 service_type
    ∷ []

-- each field by its index in the layout
abbrev pub fields : List ℕ → Item
fields b = record { service_id = number_of layout 0 b; service_type = byte_of layout 1 b }

-- the item of an index, of a body of items of the layout's 3 bytes behind the tag 0x41
unfoldable pub service_list : List ℕ → ℕ → Answered Item
service_list s index = item s 0x41 (size layout) index >>= λ b. value (fields b)

-- how many there are
abbrev pub service_count : List ℕ → Answered ℕ
service_count s = count s 0x41 (size layout)

-- the values that its fields have, in the layout's order
abbrev pub shown : Item → List ℕ
shown i = i.service_id ∷ i.service_type ∷ []
