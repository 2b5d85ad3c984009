-- Which lists are refused: 112 exactly if a row by itself is in no descriptor, 113 exactly if each is in one and they
-- are too many.
use mathlib.Core.Path.{◌≡◌, sym, ap, ap₂, ◌∙◌}
use mathlib.Core.Logic.{inr}
use mathlib.Core.Bool.{true, false}
use mathlib.Core.List.{List}
use Prim.Native.Nat.{ℕ, ◌+◌, ◌*◌, ◌/◌, ◌<◌}
use native.Mathlib.Omega.{arith}
use lib.IntN.{ℤ, pos, nat_abs}
use lib.ListN.{length, drop}
use lib.Seq.{get_or-drop, get_or-take}
use Rattle.wire.specs.Bytes.{Bytes}
use Rattle.wire.specs.Reading.{value, refused}
use Rattle.wire.proofs.IfLaws.{true_not_false}
use Rattle.lists.specs.ServiceList.{service_list}
use Rattle.lists.specs.Content.{content}
use Rattle.lists.specs.ParentalRating.{parental_rating}
use Rattle.lists.specs.LocalTimeOffset.{localTimeOffset}
use Rattle.lists.specs.declared.local_time_offset.Item.{Item as Offset}
use Rattle.lists.proofs.Layouts.{offsets_exactly}
use Rattle.write_lists.specs.Lists.{row_at, ItemExactly, LongExactly}
use Rattle.write_lists.specs.ServiceList as services
use Rattle.write_lists.specs.Content as contents
use Rattle.write_lists.specs.ParentalRating as ratings
use Rattle.write_lists.specs.LocalTimeOffset as offsets
use Rattle.write_lists.specs.LocalTimeOffset.{at, opposite}
use Rattle.write_lists.proofs.ItemLists.{Most, item_exactly, long_exactly, most_pass}
use Rattle.write_lists.proofs.PlainItems.{service_rows, content_rows, rating_rows}
use Rattle.write_lists.proofs.OffsetItems.{one_sign, sixth, offset_rows}

-- ---- "112 a field outside its layout"

pub services_item_exactly : ItemExactly 2 service_list services.row services.service_list_written
unfolding services.service_list_written services.piece
services_item_exactly = item_exactly service_rows

pub contents_item_exactly : ItemExactly 3 content contents.row contents.content_written
unfolding contents.content_written contents.piece
contents_item_exactly = item_exactly content_rows

pub ratings_item_exactly : ItemExactly 2 parental_rating ratings.row ratings.parental_rating_written
unfolding ratings.parental_rating_written ratings.piece
ratings_item_exactly = item_exactly rating_rows

pub offsets_item_exactly : ItemExactly 9 localTimeOffset offsets.row offsets.local_time_offset_written
unfolding offsets.local_time_offset_written offsets.piece
offsets_item_exactly = item_exactly offset_rows

-- ---- "113 body over 255 bytes"

pub services_long_exactly : LongExactly 2 3 service_list services.row services.service_list_written
unfolding services.service_list_written services.piece
services_long_exactly = long_exactly service_rows

pub contents_long_exactly : LongExactly 3 2 content contents.row contents.content_written
unfolding contents.content_written contents.piece
contents_long_exactly = long_exactly content_rows

pub ratings_long_exactly : LongExactly 2 4 parental_rating ratings.row ratings.parental_rating_written
unfolding ratings.parental_rating_written ratings.piece
ratings_long_exactly = long_exactly rating_rows

pub offsets_long_exactly : LongExactly 9 13 localTimeOffset offsets.row offsets.local_time_offset_written
unfolding offsets.local_time_offset_written offsets.piece
offsets_long_exactly = long_exactly offset_rows

-- ---- the most that pass

pub services_most : Most 2 3 85 service_list services.row services.service_list_written
unfolding services.service_list_written services.piece
services_most = most_pass service_rows 85 (omega arith) (omega arith)

pub contents_most : Most 3 2 127 content contents.row contents.content_written
unfolding contents.content_written contents.piece
contents_most = most_pass content_rows 127 (omega arith) (omega arith)

pub ratings_most : Most 2 4 63 parental_rating ratings.row ratings.parental_rating_written
unfolding ratings.parental_rating_written ratings.piece
ratings_most = most_pass rating_rows 63 (omega arith) (omega arith)

pub offsets_most : Most 9 13 19 localTimeOffset offsets.row offsets.local_time_offset_written
unfolding offsets.local_time_offset_written offsets.piece
offsets_most = most_pass offset_rows 19 (omega arith) (omega arith)

-- ---- "Two offsets of opposite sign in one entry have no layout"

pub opposite_unread : (s : List ℕ) → Bytes s → (i : ℕ) (x : Offset) → localTimeOffset s i ≡ value x
    → opposite x.local_time_offset x.next_time_offset ≡ false
opposite_unread s bytes i x e =
    let (p, r, h) = (offsets_exactly s bytes i x).0 e in
    ap₂ opposite r.local.0 r.next.0
    ∙ one_sign p (nat_abs x.local_time_offset) (nat_abs x.next_time_offset)

-- one such row is refused, whatever else stands in the list
pub opposite_refused : (zs : List ℤ) (i : ℕ) → i < length zs / 9
    → opposite (at zs (9 * i + 2)) (at zs (9 * i + 8)) ≡ true → offsets.local_time_offset_written zs ≡ refused 112
opposite_refused zs i h e =
    (offsets_item_exactly zs).1 (inr (
      i,
      h,
      λ (s, j, x, bytes, q, r).
          true_not_false (sym e ∙ ap₂ opposite (sym (number 2 (omega arith)) ∙ ap (λ l. at l 2) (sym r))
          (sym (number 8 (omega arith)) ∙ ap (λ l. at l 8) (sym r) ∙ sixth x.time_of_change _)
          ∙ opposite_unread s bytes j x q),
    ))
  where
    number : (n : ℕ) → n < 9 → at (row_at 9 zs i) n ≡ at zs (9 * i + n)
    number n l = get_or-take 9 (drop (9 * i) zs) n (pos 0) l ∙ get_or-drop (9 * i) zs n (pos 0)
