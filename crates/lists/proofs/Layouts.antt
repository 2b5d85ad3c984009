-- An item is read exactly if the bytes are the tag, the length and items, and the fields of that item, in the order of
-- the table, have its values.
use Prim.Native.Nat.{ℕ, ◌+◌, ◌*◌, ◌<◌}
use mathlib.Core.Path.{◌≡◌, refl, sym, ap, ◌∙◌, subst}
use mathlib.Core.Logic.{◌↔◌}
use mathlib.Core.Bool.{Bool}
use mathlib.Core.List.{List}
use native.Mathlib.Omega.{arith}
use lib.Dec.{eqb}
use lib.ListN.{get_or}
use Rattle.wire.specs.Bytes.{Bytes}
use Rattle.wire.specs.Reading.{value, ◌>>=◌}
use Rattle.wire.specs.Number.{number_at, bits_at}
use Rattle.wire.proofs.NumberBits.{number_at_below}
use Rattle.wire.proofs.ReadingLaws.{value_is, through}
use Rattle.forms.specs.Fields.{Field}
use Rattle.clock.proofs.Exactly.{offset_at_exactly, time_at_exactly}
use Rattle.layout.specs.Items.{item}
use Rattle.layout.specs.Widths.{bits, kept_of, bit, HoldsItem}
use Rattle.layout.proofs.WidthLaws.{spans, whole_span, flag, bit_read, given_bytes, holds_item, held_item, ◌also◌}
use Rattle.lists.specs.Content as content
use Rattle.lists.specs.ServiceList as services
use Rattle.lists.specs.ParentalRating as ratings
use Rattle.lists.specs.LocalTimeOffset as offsets
use Rattle.lists.specs.declared.content.Item.{Item as Content}
use Rattle.lists.specs.declared.service_list.Item.{Item as Service}
use Rattle.lists.specs.declared.parental_rating.Item.{Item as Rating}
use Rattle.lists.specs.declared.local_time_offset.Item.{Item as Offset}

-- the layouts fill whole bytes
pub content_fills : bits content.layout ≡ 8 * 2
content_fills = refl

pub services_fill : bits services.layout ≡ 8 * 3
services_fill = refl

pub ratings_fill : bits ratings.layout ≡ 8 * 4
ratings_fill = refl

pub offsets_fill : bits offsets.layout ≡ 8 * 13
offsets_fill = refl

-- ---- items whose fields are read as they stand

content_places : (b : List ℕ) → Bytes b
    → kept_of content.layout (spans 0 content.layout b) ≡ content.shown (content.fields b)
unfolding number_at bits_at
content_places b bytes = refl also refl also whole_span b bytes 1 1 also refl

services_places : (b : List ℕ) → Bytes b
    → kept_of services.layout (spans 0 services.layout b) ≡ services.shown (services.fields b)
unfolding number_at
services_places b bytes = whole_span b bytes 2 0 also whole_span b bytes 1 2 also refl

ratings_places : (b : List ℕ) → Bytes b
    → kept_of ratings.layout (spans 0 ratings.layout b) ≡ ratings.shown (ratings.fields b)
unfolding number_at
ratings_places b bytes = whole_span b bytes 3 0 also whole_span b bytes 1 3 also refl

-- one law for the three
module _ {A : Type 0} (tag n i : ℕ) (some : 0 < n) (s : List ℕ) (bytes : Bytes s) (fs : List Field)
    (fills : bits fs ≡ 8 * n)
    (fields : List ℕ → A) (shown : A → List ℕ)
    (places : (b : List ℕ) → Bytes b → kept_of fs (spans 0 fs b) ≡ shown (fields b))
    (once : (x y : A) → shown x ≡ shown y → x ≡ y) (x : A) where
  plain_exactly : (item s tag n i >>= λ b. value (fields b)) ≡ value x ↔ HoldsItem tag fs s i (shown x)
  plain_exactly = (
    λ e.
        let t = through (item s tag n i) (λ b. value (fields b)) x e in
        holds_item tag n i some s bytes fs fills t.0 (shown x) t.1
        (places t.0 (given_bytes tag n i some s bytes fs fills t.0 t.1) ∙ ap shown (value_is t.2)),
    λ h.
        let y = held_item tag n i some s bytes fs fills (shown x) h in
        ap (λ r. r >>= λ b. value (fields b)) y.1
        ∙ ap value (once (fields y.0) x (sym (places y.0 y.2) ∙ y.3)),
  )

content_once : (x y : Content) → content.shown x ≡ content.shown y → x ≡ y
content_once x y e =
    ap (λ l.
    record {
      content_nibble_level_1 = get_or l 0 0;
      content_nibble_level_2 = get_or l 1 0;
      user_byte = get_or l 2 0;
    })
    e

services_once : (x y : Service) → services.shown x ≡ services.shown y → x ≡ y
services_once x y e = ap (λ l. record { service_id = get_or l 0 0; service_type = get_or l 1 0 }) e

ratings_once : (x y : Rating) → ratings.shown x ≡ ratings.shown y → x ≡ y
ratings_once x y e = ap (λ l. record { country_code = get_or l 0 0; rating = get_or l 1 0 }) e

module _ (s : List ℕ) (bytes : Bytes s) (i : ℕ) where
  pub content_exactly : (x : Content)
      → content.content s i ≡ value x ↔ HoldsItem 0x54 content.layout s i (content.shown x)
  unfolding content.content
  content_exactly =
      plain_exactly 0x54 2 i (omega arith) s bytes content.layout refl content.fields content.shown content_places
      content_once

  pub services_exactly : (x : Service)
      → services.service_list s i ≡ value x ↔ HoldsItem 0x41 services.layout s i (services.shown x)
  unfolding services.service_list
  services_exactly =
      plain_exactly 0x41 3 i (omega arith) s bytes services.layout refl services.fields services.shown services_places
      services_once

  pub ratings_exactly : (x : Rating)
      → ratings.parental_rating s i ≡ value x ↔ HoldsItem 0x55 ratings.layout s i (ratings.shown x)
  unfolding ratings.parental_rating
  ratings_exactly =
      plain_exactly 0x55 4 i (omega arith) s bytes ratings.layout refl ratings.fields ratings.shown ratings_places
      ratings_once

-- ---- local time offsets

module _ (from : ℕ) (b : List ℕ) (bytes : Bytes b) (x : Offset) where
  abbrev Polarity : Bool
  Polarity = eqb (bits_at b 3 0 0) 1

  abbrev Placed : Bool → Offset → Type 0
  Placed behind y = offsets.Right behind y × (kept_of offsets.layout (spans 0 offsets.layout b) ≡ offsets.shown behind y)

  offsets_places : offsets.fields from b ≡ value x → Placed Polarity x
  unfolding offsets.fields offsets.offset_in offsets.time_in number_at bits_at
  offsets_places e =
      let t = through (offsets.offset_in b from 4) _ x e in
      let u = through (offsets.time_in b from 6) _ x t.2 in
      let v = through (offsets.offset_in b from 11) _ x u.2 in
      let local = (offset_at_exactly Polarity (get_or b 4 0) (get_or b 5 0) (bytes 4) (bytes 5) t.0 (from + 4)).0 t.1 in
      let change = (time_at_exactly (number_at 2 b 6) (get_or b 8 0) (get_or b 9 0) (get_or b 10 0)
      (number_at_below 2 b 6 bytes) (bytes 8) (bytes 9) (bytes 10) (from + 6) u.0).0 u.1 in
      let next = (offset_at_exactly Polarity (get_or b 11 0) (get_or b 12 0) (bytes 11) (bytes 12) v.0 (from + 11)).0 v.1 in
      subst (Placed Polarity) (value_is v.2) (
        record { local = (local.0, local.1); change = change.0; next = (next.0, next.1) },
        whole_span b bytes 3 0 also refl also flag _ also whole_span b bytes 2 4
            ∙ local.2 also whole_span b bytes 5 6
            ∙ change.1
            also whole_span b bytes 2 11 ∙ next.2 also refl,
      )

  offsets_read : (behind : Bool) → Placed behind x → offsets.fields from b ≡ value x
  unfolding offsets.fields offsets.offset_in offsets.time_in number_at bits_at
  offsets_read behind (right, e) =
      let of : ℕ → List ℕ → ℕ = λ i vs. get_or vs i 0 in
      let country : number_at 3 b 0 ≡ x.country_code = sym (whole_span b bytes 3 0) ∙ ap (of 0) e in
      let region : bits_at b 3 7 2 ≡ x.country_region_id = ap (of 1) e in
      let bit_is : bits_at b 3 0 0 ≡ bit behind = ap (of 2) e in
      let polarity : eqb (bits_at b 3 0 0) 1 ≡ behind = ap (λ n. eqb n 1) bit_is ∙ bit_read behind in
      let local = sym (whole_span b bytes 2 4) ∙ ap (of 3) e in
      let change = sym (whole_span b bytes 5 6) ∙ ap (of 4) e in
      let next = sym (whole_span b bytes 2 11) ∙ ap (of 5) e in
      rw (
        polarity,
        (offset_at_exactly behind (get_or b 4 0) (get_or b 5 0) (bytes 4) (bytes 5) x.local_time_offset (from + 4)).1
            (right.local.0, right.local.1, local),
        (time_at_exactly (number_at 2 b 6) (get_or b 8 0) (get_or b 9 0) (get_or b 10 0) (number_at_below 2 b 6 bytes) (bytes 8)
            (bytes 9) (bytes 10) (from + 6) x.time_of_change).1 (right.change, change),
        (offset_at_exactly behind (get_or b 11 0) (get_or b 12 0) (bytes 11) (bytes 12) x.next_time_offset (from + 11)).1
            (right.next.0, right.next.1, next),
        country,
        region,
      )

pub offsets_exactly : (s : List ℕ) → Bytes s → (i : ℕ) (x : Offset)
    → offsets.localTimeOffset s i ≡ value x
    ↔ ((behind : Bool) × offsets.Right behind x × HoldsItem 0x58 offsets.layout s i (offsets.shown behind x))
unfolding offsets.localTimeOffset
offsets_exactly s bytes i x = (
  λ e.
      let t = through (item s 0x58 13 i) (offsets.fields (13 * i)) x e in
      let given = given_bytes 0x58 13 i (omega arith) s bytes offsets.layout refl t.0 t.1 in
      let p = offsets_places (13 * i) t.0 given x t.2 in
      (_, p.0, holds_item 0x58 13 i (omega arith) s bytes offsets.layout refl t.0 _ t.1 p.1),
  λ h.
      let y = held_item 0x58 13 i (omega arith) s bytes offsets.layout refl (offsets.shown h.0 x) h.2 in
      ap (λ r. r >>= offsets.fields (13 * i)) y.1 ∙ offsets_read (13 * i) y.0 y.2 x h.0 (h.1, y.3),
)
