-- 0x41 service list, written: EN 300 468, clause 6.2.35. The layout is that of the reading.
use Rattle.std.specs.Prelude.{List, [], ◌∷◌, ℕ, ◌^◌, ℤ, pos, get_or}
use Rattle.wire.specs.Reading.{Reading, value, ◌>>=◌}
use Rattle.clock.specs.Fault.{Answered}
use Rattle.lists.specs.ServiceList.{layout, shown, service_list, service_count}
use Rattle.lists.specs.declared.service_list.Item.{Item}
use Rattle.writing.specs.Fill.{ones, made}
use Rattle.writing.specs.Rows.{natural}
use Rattle.write_lists.specs.Lists.{list_of, rows_read}

-- an item of the two numbers that a list begins with
unfoldable pub item : List ℤ → Reading Item
item zs = do
  id ← natural (2 ^ 16) (get_or zs 0 (pos 0))
  type ← natural (2 ^ 8) (get_or zs 1 (pos 0))
  value (record { service_id = id; service_type = type })

-- its numbers
abbrev pub row : Item → List ℤ
row i = pos i.service_id ∷ pos i.service_type ∷ []

-- its bytes
unfoldable pub piece : List ℤ → Reading (List ℕ)
piece zs = item zs >>= λ i. value (made ones layout (shown i))

-- the tag 0x41, the length, and the items
unfoldable pub service_list_written : List ℤ → Reading (List ℕ)
service_list_written zs = list_of 0x41 2 piece zs

-- what a descriptor is read as
unfoldable pub service_list_read : List ℕ → Answered (List ℤ)
service_list_read s = rows_read row (service_count s) (service_list s)
