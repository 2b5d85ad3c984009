-- 0x55 parental rating, written: EN 300 468, clause 6.2.28. The layout is that of the reading.
use Rattle.std.specs.Prelude.{List, [], ◌∷◌, ℕ, ◌^◌, ℤ, pos, get_or}
use Rattle.wire.specs.Reading.{Reading, value, ◌>>=◌}
use Rattle.clock.specs.Fault.{Answered}
use Rattle.lists.specs.ParentalRating.{layout, shown, parental_rating, rating_count}
use Rattle.lists.specs.declared.parental_rating.Item.{Item}
use Rattle.writing.specs.Fill.{ones, made}
use Rattle.writing.specs.Rows.{natural}
use Rattle.write_lists.specs.Lists.{list_of, rows_read}

-- an item of the two numbers that a list begins with
unfoldable pub item : List ℤ → Reading Item
item zs = do
  country ← natural (2 ^ 24) (get_or zs 0 (pos 0))
  rating ← natural (2 ^ 8) (get_or zs 1 (pos 0))
  value (record { country_code = country; rating = rating })

-- its numbers
abbrev pub row : Item → List ℤ
row i = pos i.country_code ∷ pos i.rating ∷ []

-- its bytes
unfoldable pub piece : List ℤ → Reading (List ℕ)
piece zs = item zs >>= λ i. value (made ones layout (shown i))

-- the tag 0x55, the length, and the items
unfoldable pub parental_rating_written : List ℤ → Reading (List ℕ)
parental_rating_written zs = list_of 0x55 2 piece zs

-- what a descriptor is read as
unfoldable pub parental_rating_read : List ℕ → Answered (List ℤ)
parental_rating_read s = rows_read row (rating_count s) (parental_rating s)
