-- section_length from a sheet's length and the number of its entries, as the judge computes it. That it is the length
-- of the section is proved.
use Rattle.std.specs.Prelude.{ℕ, ◌+◌, ◌-◌, ◌*◌, List, [], ◌∷◌, length, get_or, ltb, if◌then◌else◌}
use Rattle.wire.specs.Number.{number_at}
use Rattle.wire.specs.Reading.{Reading, value, refused}
use Rattle.forms.specs.Room.{sum}

-- in each entry the sheet has so many bytes more than the section: SDT's flags and both tables' running_status and
-- free_CA_mode
unfoldable pub cut : ℕ → ℕ
cut row = get_or (0 ∷ 3 ∷ 0 ∷ 2 ∷ 0 ∷ 0 ∷ []) row 0

-- section_length, with the bytes cut from the entries and the table_id, passes the sheet's length by so many bytes
unfoldable pub gain : ℕ → ℕ
gain row = get_or (3 ∷ 2 ∷ 3 ∷ 1 ∷ 0 ∷ 4 ∷ []) row 0

-- where the number of the entries stands, in the tables that have no top loop
unfoldable pub count_at : ℕ → ℕ
count_at row = get_or (0 ∷ 9 ∷ 0 ∷ 13 ∷ 0 ∷ 0 ∷ []) row 0

-- the bytes of a sheet that its section does not have behind section_length: in the entries, and the table_id
unfoldable pub spare : ℕ → List ℕ → ℕ
spare row s = cut row * number_at 2 s (count_at row) + 1

-- section_length, from the sheet's length
unfoldable pub length_by : ℕ → List ℕ → ℕ
length_by row s = sum (length s) (gain row) - spare row s

-- "26 section_length would pass its row"
unfoldable pub judged_length : ℕ → ℕ → Reading ℕ
judged_length most n = if ltb most n then refused 26 else value n
