-- The writers of lists at work: the descriptors that `descriptor/Examples` reads, and rows that are refused.
use mathlib.Core.Path.{◌≡◌, refl}
use mathlib.Core.List.{List, [], ◌∷◌}
use Prim.Native.Nat.{ℕ}
use native.Mathlib.Omega.{arith}
use lib.IntN.{ℤ, pos, negsuc}
use Rattle.wire.specs.Reading.{value, refused}
use Rattle.wire.specs.Number.{number_at, bits_at}
use Rattle.wire.specs.Digits.{bcd_show}
use Rattle.forms.specs.Fields.{room, pack}
use Rattle.writing.specs.Number.{ofNumber}
use Rattle.writing.specs.Fill.{filled, made, below}
use Rattle.writing.specs.Rows.{natural, rows, items_of}
use Rattle.write_lists.specs.ServiceList as services
use Rattle.write_lists.specs.Content as contents
use Rattle.write_lists.specs.ParentalRating as ratings
use Rattle.write_lists.specs.LocalTimeOffset as offsets

-- two services: 0x1020 of type 0x01 and 0x1038 of type 0x02
pub services_at_work : services.service_list_written (pos 0x1020 ∷ pos 1 ∷ pos 0x1038 ∷ pos 2 ∷ [])
    ≡ value (0x41 ∷ 0x06 ∷ 0x10 ∷ 0x20 ∷ 0x01 ∷ 0x10 ∷ 0x38 ∷ 0x02 ∷ [])
unfolding services.service_list_written services.piece services.item items_of rows natural made filled pack room ofNumber
services_at_work = refl

-- no item; half a row; a number below zero
pub services_edges : (services.service_list_written [] ≡ value (0x41 ∷ 0x00 ∷ []))
    × (services.service_list_written (pos 1 ∷ []) ≡ refused 112)
    × (services.service_list_written (pos 1 ∷ negsuc 0 ∷ []) ≡ refused 112)
unfolding services.service_list_written services.piece services.item items_of rows natural made filled pack room ofNumber
services_edges = (refl, refl, refl)

pub contents_at_work : contents.content_written (pos 1 ∷ pos 2 ∷ pos 0x34 ∷ pos 5 ∷ pos 6 ∷ pos 0x78 ∷ [])
    ≡ value (0x54 ∷ 0x04 ∷ 0x12 ∷ 0x34 ∷ 0x56 ∷ 0x78 ∷ [])
unfolding contents.content_written contents.piece contents.item items_of rows natural made filled pack room ofNumber
contents_at_work = refl

-- GBR, at least 7 years
pub ratings_at_work : ratings.parental_rating_written (pos 0x474252 ∷ pos 4 ∷ [])
    ≡ value (0x55 ∷ 0x04 ∷ 0x47 ∷ 0x42 ∷ 0x52 ∷ 0x04 ∷ [])
unfolding ratings.parental_rating_written ratings.piece ratings.item items_of rows natural made filled pack room ofNumber
ratings_at_work = refl

-- ---- GBR, region 5; 1993-10-13 12:45:00

abbrev row : ℤ → ℤ → List ℤ
row l n = pos 0x474252 ∷ pos 5 ∷ l ∷ pos 0xC079 ∷ pos 12 ∷ pos 45 ∷ pos 0 ∷ pos 0 ∷ n ∷ []

abbrev bytes : ℕ → ℕ → ℕ → ℕ → ℕ → List ℕ
bytes b h m i j =
    0x58 ∷ 0x0D ∷ 0x47 ∷ 0x42 ∷ 0x52 ∷ b ∷ h ∷ m ∷ 0xC0 ∷ 0x79 ∷ 0x12 ∷ 0x45 ∷ 0x00 ∷ i ∷ j ∷ []

-- 03:30 behind UTC, then 02:15; an hour ahead; and zero beside an hour behind, under polarity 1
pub offsets_at_work : (offsets.local_time_offset_written (row (negsuc 209) (negsuc 134)) ≡ value (bytes 0x17 0x03 0x30 0x02 0x15))
    × (offsets.local_time_offset_written (row (pos 60) (pos 0)) ≡ value (bytes 0x16 0x01 0x00 0x00 0x00))
    × (offsets.local_time_offset_written (row (pos 0) (negsuc 59)) ≡ value (bytes 0x17 0x00 0x00 0x01 0x00))
unfolding offsets.local_time_offset_written offsets.piece offsets.item offsets.moment offsets.some_moment offsets.are_offsets
    offsets.behind items_of rows natural below made filled pack room ofNumber bcd_show
offsets_at_work = (refl, refl, refl)

-- "Two offsets of opposite sign in one entry have no layout"; a whole day
pub offsets_outside : (offsets.local_time_offset_written (row (pos 60) (negsuc 59)) ≡ refused 112)
    × (offsets.local_time_offset_written (row (pos 1440) (pos 0)) ≡ refused 112)
unfolding offsets.local_time_offset_written offsets.piece offsets.item offsets.moment offsets.some_moment offsets.are_offsets
    items_of rows natural
offsets_outside = (refl, refl)

-- forty ones, and no number beside them
pub undefined_at_work : (offsets.local_time_offset_written
    (pos 0x474252 ∷ pos 5 ∷ pos 60 ∷ pos 0 ∷ pos 0 ∷ pos 0 ∷ pos 0 ∷ pos 1 ∷ pos 0 ∷ [])
    ≡ value (0x58 ∷ 0x0D ∷ 0x47 ∷ 0x42 ∷ 0x52 ∷ 0x16 ∷ 0x01 ∷ 0x00 ∷ 0xFF ∷ 0xFF ∷ 0xFF ∷ 0xFF ∷ 0xFF ∷ 0x00 ∷ 0x00 ∷ []))
    × (offsets.local_time_offset_written
    (pos 0x474252 ∷ pos 5 ∷ pos 60 ∷ pos 0 ∷ pos 12 ∷ pos 0 ∷ pos 0 ∷ pos 1 ∷ pos 0 ∷ []) ≡ refused 112)
unfolding offsets.local_time_offset_written offsets.piece offsets.item offsets.moment offsets.no_moment offsets.are_offsets
    offsets.behind items_of rows natural below made filled pack room ofNumber bcd_show
undefined_at_work = (refl, refl)

-- "no polarity 1 stood over two zero offsets": it can be met, and missed
pub idle_polarity : (offsets.NoIdlePolarity
    (0x47 ∷ 0x42 ∷ 0x52 ∷ 0x16 ∷ 0x00 ∷ 0x00 ∷ 0xC0 ∷ 0x79 ∷ 0x12 ∷ 0x45 ∷ 0x00 ∷ 0x00 ∷ 0x00 ∷ []))
    × (offsets.NoIdlePolarity (0x47 ∷ 0x42 ∷ 0x52 ∷ 0x17 ∷ 0x00 ∷ 0x00 ∷ 0xC0 ∷ 0x79 ∷ 0x12 ∷ 0x45 ∷ 0x00 ∷ 0x00 ∷ 0x00 ∷ []) → ⊥)
unfolding number_at bits_at
idle_polarity = ((λ e _ _. let z : ◌≡◌ {A = ℕ} 0 1 = e in omega arith), λ h. h refl refl refl)
