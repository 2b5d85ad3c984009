-- 0x54 content, written: EN 300 468, clause 6.2.9. The layout is that of the reading.
use Rattle.std.specs.Prelude.{List, [], ◌∷◌, ℕ, ◌^◌, ℤ, pos, get_or}
use Rattle.wire.specs.Reading.{Reading, value, ◌>>=◌}
use Rattle.clock.specs.Fault.{Answered}
use Rattle.lists.specs.Content.{layout, shown, content, content_count}
use Rattle.lists.specs.declared.content.Item.{Item}
use Rattle.writing.specs.Fill.{ones, made}
use Rattle.writing.specs.Rows.{natural}
use Rattle.write_lists.specs.Lists.{list_of, rows_read}

-- an item of the three numbers that a list begins with
unfoldable pub item : List ℤ → Reading Item
item zs = do
  first ← natural (2 ^ 4) (get_or zs 0 (pos 0))
  second ← natural (2 ^ 4) (get_or zs 1 (pos 0))
  user ← natural (2 ^ 8) (get_or zs 2 (pos 0))
  value (record { content_nibble_level_1 = first; content_nibble_level_2 = second; user_byte = user })

-- its numbers
abbrev pub row : Item → List ℤ
row i = pos i.content_nibble_level_1 ∷ pos i.content_nibble_level_2 ∷ pos i.user_byte ∷ []

-- its bytes
unfoldable pub piece : List ℤ → Reading (List ℕ)
piece zs = item zs >>= λ i. value (made ones layout (shown i))

-- the tag 0x54, the length, and the items
unfoldable pub content_written : List ℤ → Reading (List ℕ)
content_written zs = list_of 0x54 3 piece zs

-- what a descriptor is read as
unfoldable pub content_read : List ℕ → Answered (List ℤ)
content_read s = rows_read row (content_count s) (content s)
