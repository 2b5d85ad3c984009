-- Fields as the functions that turn them have them. All that a table has are a value below `span` and a flag, with reserved bits before
-- them, or reserved bits alone; the span is 0 then.
use Rattle.std.specs.Prelude.{ℕ, ◌+◌, ◌-◌, ◌*◌, ◌/◌, ◌%◌, ◌≤◌, ◌≡◌, List, [], ◌∷◌, length, get_or, eqb, if◌then◌else◌}
use Rattle.forms.specs.Fields.{Field, kept, reserved}
use Rattle.forms.specs.Room.{put, sum}
use Rattle.sheet.specs.Content.{bare, status}

-- the fields, their span, and one number more than they can make: 256 for a byte, 16 for what stands beside a length
pub data Shape : List Field → ℕ → ℕ → Type 0 where
  versioned : Shape (reserved 2 ∷ kept 5 ∷ kept 1 ∷ []) 32 256
  flagged : Shape (reserved 6 ∷ kept 1 ∷ kept 1 ∷ []) 2 256
  filled : Shape (reserved 8 ∷ []) 0 256
  running : Shape status 8 16
  bared : Shape bare 0 16

-- the bytes that they are in a sheet
abbrev pub kept_size : ℕ → ℕ
kept_size span = if eqb span 0 then 0 else 2

-- a number with the fields in its low bits and ones above them
abbrev pub joined_of : ℕ → ℕ → ℕ → ℕ
joined_of span a b = if eqb span 0 then 255 else 512 - 2 * span + a * 2 + b

-- made of the bytes that a sheet has at a place
abbrev pub joined_at : ℕ → List ℕ → ℕ → ℕ
joined_at span s at = joined_of span (get_or s at 0) (get_or s (sum at 1) 0)

-- what a sheet has of the fields that are the number x in a section
abbrev pub parted_of : ℕ → ℕ → List ℕ
parted_of span x = if eqb span 0 then [] else x / 2 % span ∷ x % 2 ∷ []

-- they are put there, where there is room
abbrev pub Parted : ℕ → ℕ → List ℕ → ℕ → List ℕ → Type 0
Parted span x o to o' = to + kept_size span ≤ length o → o' ≡ put o to (parted_of span x)
