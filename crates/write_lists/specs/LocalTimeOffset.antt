-- 0x58 local time offset, written: EN 300 468, clause 6.2.20. The layout is that of the reading.
use Rattle.std.specs.Prelude.{◌≡◌, Bool, true, false, not, List, [], ◌∷◌, ℕ, zero, suc, ◌^◌, eqb, ltb, ℤ, pos, negsuc, nat_abs, get_or, drop, if◌then◌else◌, None, Some}
use Rattle.wire.specs.Reading.{Reading, value, refused, ◌>>=◌}
use Rattle.clock.specs.Fault.{Answered}
use Rattle.clock.specs.Time.{Moment}
use Rattle.layout.specs.Widths.{bits_of, number_of}
use Rattle.lists.specs.LocalTimeOffset.{layout, shown, localTimeOffset, offset_count}
use Rattle.lists.specs.declared.local_time_offset.Item.{Item}
use Rattle.writing.specs.Fill.{ones, made, below}
use Rattle.writing.specs.Rows.{belowZero, natural}
use Rattle.write_lists.specs.Lists.{list_of, rows_read, EachItem, UsualItems}

-- a number of a row
abbrev pub at : List ℤ → ℕ → ℤ
at zs i = get_or zs i (pos 0)

-- ---- the offsets

abbrev pub above_zero : ℤ → Bool
above_zero (pos zero) = false
above_zero (pos (suc n)) = true
above_zero (negsuc n) = false

-- "Two offsets of opposite sign"
abbrev pub opposite : ℤ → ℤ → Bool
opposite l n = if belowZero l then above_zero n else if above_zero l then belowZero n else false

-- each is less than a day; two "of opposite sign in one entry have no layout"
unfoldable pub are_offsets : ℤ → ℤ → Bool
are_offsets l n = if ltb (nat_abs l) 1440 then (if ltb (nat_abs n) 1440 then not (opposite l n) else false) else false

-- the polarity that serves both: one of them is below zero
unfoldable pub behind : ℤ → ℤ → Bool
behind l n = if belowZero l then true else belowZero n

-- ---- the time of change, by mjd, hour, minute, second, undefined

-- where `undefined` is 1 no other number stands beside it
unfoldable pub no_moment : List ℤ → Reading Moment
no_moment zs =
    if below (nat_abs (at zs 0) ∷ nat_abs (at zs 1) ∷ nat_abs (at zs 2) ∷ nat_abs (at zs 3) ∷ []) (1 ∷ 1 ∷ 1 ∷ 1 ∷ []) then value None
    else refused 112

-- a day from 15,079 on, and a time of that day
unfoldable pub some_moment : List ℤ → Reading Moment
some_moment zs = do
  mjd ← natural (2 ^ 16) (at zs 0)
  day ← if ltb mjd 15079 then refused 112 else value mjd
  hour ← natural 24 (at zs 1)
  minute ← natural 60 (at zs 2)
  second ← natural 60 (at zs 3)
  value (Some (record { mjd = day; clock = record { hour = hour; minute = minute; second = second } }))

unfoldable pub moment : List ℤ → Reading Moment
moment zs = natural 2 (at zs 4) >>= λ undefined. if eqb undefined 1 then no_moment zs else some_moment zs

-- its numbers
abbrev pub moment_row : Moment → List ℤ → List ℤ
moment_row None zs = pos 0 ∷ pos 0 ∷ pos 0 ∷ pos 0 ∷ pos 1 ∷ zs
moment_row (Some t) zs = pos t.mjd ∷ pos t.clock.hour ∷ pos t.clock.minute ∷ pos t.clock.second ∷ pos 0 ∷ zs

-- ---- an item

-- of the nine numbers that a list begins with
unfoldable pub item : List ℤ → Reading Item
item zs = do
  country ← natural (2 ^ 24) (at zs 0)
  region ← natural (2 ^ 6) (at zs 1)
  change ← moment (drop 3 zs)
  if are_offsets (at zs 2) (at zs 8) then value (record {
    country_code = country;
    country_region_id = region;
    local_time_offset = at zs 2;
    time_of_change = change;
    next_time_offset = at zs 8;
  }) else refused 112

-- its numbers
abbrev pub row : Item → List ℤ
row i =
    pos i.country_code ∷ pos i.country_region_id ∷ i.local_time_offset
    ∷ moment_row i.time_of_change (i.next_time_offset ∷ [])

-- its bytes
unfoldable pub piece : List ℤ → Reading (List ℕ)
piece zs = item zs >>= λ i. value (made ones layout (shown (behind i.local_time_offset i.next_time_offset) i))

-- the tag 0x58, the length, and the items
unfoldable pub local_time_offset_written : List ℤ → Reading (List ℕ)
local_time_offset_written zs = list_of 0x58 9 piece zs

-- what a descriptor is read as
unfoldable pub local_time_offset_read : List ℕ → Answered (List ℤ)
local_time_offset_read s = rows_read row (offset_count s) (localTimeOffset s)

-- "no polarity 1 stood over two zero offsets": of an item's bits, the polarity and the eight digits
abbrev pub NoIdlePolarity : List ℕ → Type 0
NoIdlePolarity b = bits_of layout 3 b ≡ 1 → number_of layout 4 b ≡ 0 → number_of layout 6 b ≡ 0 → ⊥

-- "reserved bits were ones .. and no polarity 1 stood over two zero offsets"
abbrev pub Usual : List ℕ → Type 0
Usual s = UsualItems layout s × EachItem NoIdlePolarity layout s
