-- 0x54 content: EN 300 468, clause 6.2.9.
use Rattle.std.specs.Prelude.{List, [], ◌∷◌, ℕ}
use Rattle.wire.specs.Reading.{value, ◌>>=◌}
use Rattle.forms.specs.Fields.{Field, kept}
use Rattle.clock.specs.Fault.{Answered}
use Rattle.layout.specs.Items.{item, count}
use Rattle.layout.specs.Widths.{size, bits_of, byte_of}
use Rattle.lists.specs.declared.content.Item.{Item}

-- an item, in the order of the table
abbrev pub layout : List Field
layout =
    kept 4  -- 0 content_nibble_level_1
    ∷ kept 4  -- 1 content_nibble_level_2
    ∷ kept 8  -- 2 user_byte
    ∷ []

-- each field by its index in the layout
abbrev pub fields : List ℕ → Item
fields b = record { content_nibble_level_1 = bits_of layout 0 b; content_nibble_level_2 = bits_of layout 1 b; user_byte = byte_of layout 2 b }

-- the item of an index, of a body of items of the layout's 2 bytes behind the tag 0x54
unfoldable pub content : List ℕ → ℕ → Answered Item
content s index = item s 0x54 (size layout) index >>= λ b. value (fields b)

-- how many there are
abbrev pub content_count : List ℕ → Answered ℕ
content_count s = count s 0x54 (size layout)

-- the values that its fields have, in the layout's order
abbrev pub shown : Item → List ℕ
shown i = i.content_nibble_level_1 ∷ i.content_nibble_level_2 ∷ i.user_byte ∷ []
