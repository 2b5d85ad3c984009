-- Items whose row are their fields as they stand, each below what its bits can hold: services, contents, ratings.
use Prim.{Unit, tt}
use mathlib.Core.Path.{◌≡◌, refl, sym, ap, ap₂, ◌∙◌, subst}
use mathlib.Core.Logic.{◌↔◌}
use mathlib.Core.Bool.{true}
use mathlib.Core.List.{List, [], ◌∷◌, ◌++◌, map}
use Prim.Native.Nat.{ℕ, suc, ◌*◌, ◌^◌, ◌<◌, ◌≤◌}
use native.Mathlib.Omega.{arith}
use lib.IntN.{ℤ, pos, nat_abs}
use lib.ListN.{length, get_or, drop, length-append, length-map}
use lib.Seq.{take_at}
use Rattle.wire.specs.Bytes.{Bytes}
use Rattle.wire.specs.Reading.{Reading, value, ◌>>=◌}
use Rattle.wire.proofs.IfLaws.{true_not_false}
use Rattle.wire.proofs.ReadingLaws.{value_is}
use Rattle.forms.specs.Fields.{Field, kept}
use Rattle.clock.specs.Fault.{Answered}
use Rattle.layout.specs.Widths.{bits, size, HoldsItem}
use Rattle.lists.specs.ServiceList as service
use Rattle.lists.specs.Content as content
use Rattle.lists.specs.ParentalRating as rating
use Rattle.lists.proofs.Layouts.{services_exactly, content_exactly, ratings_exactly}
use Rattle.writing.specs.Fill.{below, capacities}
use Rattle.writing.specs.Rows.{natural}
use Rattle.writing.proofs.Made.{below_first, below_also}
use Rattle.write_lists.specs.ServiceList as services
use Rattle.write_lists.specs.Content as contents
use Rattle.write_lists.specs.ParentalRating as ratings
use Rattle.write_lists.proofs.RowReadings.{Field112, value-112, then-112, natural_value, natural_then, natural-112, numbers_from, first_numbers}
use Rattle.write_lists.proofs.ItemLists.{ItemRows}

-- ---- fields of so many bits each, in the order of their numbers

-- what makes an A of them
abbrev Maker : Type 0 → List ℕ → Type 0
Maker A [] = A
Maker A (w ∷ ws) = ℕ → Maker A ws

-- k numbers of a list, from a place on, by their sizes
abbrev sizes_from : List ℤ → ℕ → ℕ → List ℕ
sizes_from zs i k = map nat_abs (numbers_from zs i k)

module _ {A : Type 0} where
  abbrev makes : (ws : List ℕ) → Maker A ws → List ℕ → A
  makes [] of vs = of
  makes (w ∷ ws) of [] = makes ws (of 0) []
  makes (w ∷ ws) of (v ∷ vs) = makes ws (of v) vs

  abbrev naturals : (ws : List ℕ) → Maker A ws → ℕ → List ℤ → Reading A
  naturals [] of i zs = value of
  naturals (w ∷ ws) of i zs = natural (2 ^ w) (get_or zs i (pos 0)) >>= λ v. naturals ws (of v) (suc i) zs

  naturals_there : (ws : List ℕ) (of : Maker A ws) (i : ℕ) (zs : List ℤ) (vs : List ℕ)
      → numbers_from zs i (length ws) ≡ map pos vs → below vs (capacities (map kept ws)) ≡ true
      → naturals ws of i zs ≡ value (makes ws of vs)
  unfolding below
  naturals_there [] of i zs vs e h = refl
  naturals_there (w ∷ ws) of i zs [] e h = absurd (true_not_false (sym h))
  naturals_there (w ∷ ws) of i zs (v ∷ vs) e h =
      let x = below_first v (2 ^ w) vs (capacities (map kept ws)) h in
      rw (ap (λ l. get_or l 0 (pos 0)) e, natural_value (2 ^ w) v x.0)
      (naturals_there ws (of v) (suc i) zs vs (ap (drop 1) e) x.1)

  naturals_back : (ws : List ℕ) (of : Maker A ws) (i : ℕ) (zs : List ℤ) (a : A) → naturals ws of i zs ≡ value a
      → (numbers_from zs i (length ws) ≡ map pos (sizes_from zs i (length ws)))
      × (below (sizes_from zs i (length ws)) (capacities (map kept ws)) ≡ true)
      × (makes ws of (sizes_from zs i (length ws)) ≡ a)
  unfolding below
  naturals_back [] of i zs a e = (refl, refl, value_is e)
  naturals_back (w ∷ ws) of i zs a e =
      let x = natural_then (2 ^ w) (get_or zs i (pos 0)) _ a e in
      let same : nat_abs (get_or zs i (pos 0)) ≡ x.0 = ap nat_abs x.1 in
      let y = naturals_back ws (of x.0) (suc i) zs a x.3 in (
        ap₂ ◌∷◌ (x.1 ∙ ap pos (sym same)) y.0,
        below_also _ (2 ^ w) (sizes_from zs (suc i) (length ws)) (capacities (map kept ws))
            (subst (λ n. n < 2 ^ w) (sym same) x.2) y.1,
        ap (λ v. makes ws (of v) (sizes_from zs (suc i) (length ws))) same ∙ y.2,
      )

  naturals_only : (ws : List ℕ) (of : Maker A ws) (i : ℕ) (zs : List ℤ) → Field112 (naturals ws of i zs)
  naturals_only [] of i zs = value-112 of
  naturals_only (w ∷ ws) of i zs = then-112 _ _ (natural-112 (2 ^ w) _) (λ v. naturals_only ws (of v) (suc i) zs)

-- ---- items of them; their bits say no more of an item than its fields do

abbrev pub PlainRows : {A : Type 0} → ℕ → ℕ → List Field → (List ℤ → Reading A) → (A → List ℤ)
    → (List ℕ → ℕ → Answered A) → (A → List ℕ) → Type 0
PlainRows {A} tag k fs item row read shown =
    ItemRows tag k fs item row read (λ (_ : Unit {0}) (_ : A). Unit {0}) (λ _ a. shown a) (λ _. tt) (λ _. Unit {0})

module _ {A : Type 0} (tag : ℕ) (ws : List ℕ) (of : Maker A ws) (read : List ℕ → ℕ → Answered A)
    (shown : A → List ℕ) (tagged : tag < 256) (some : 0 < length ws) (filled : 0 < size (map kept ws))
    (short : size (map kept ws) ≤ 255) (fills : bits (map kept ws) ≡ 8 * size (map kept ws))
    (exactly : (s : List ℕ) → Bytes s → (i : ℕ) (a : A)
    → read s i ≡ value a ↔ HoldsItem tag (map kept ws) s i (shown a))
    (sized : (a : A) → length (shown a) ≡ length ws) (whole : (a : A) → makes ws of (shown a) ≡ a)
    (shows : (zs : List ℤ)
    → shown (makes ws of (sizes_from zs 0 (length ws))) ≡ sizes_from zs 0 (length ws)) where
  row_size_lem : (a : A) → length (map pos (shown a)) ≡ length ws
  row_size_lem a = length-map (shown a) pos ∙ sized a

  plain_rows : PlainRows tag (length ws) (map kept ws) (naturals ws of 0) (λ a. map pos (shown a)) read shown
  plain_rows = record {
    tagged = tagged;
    some = some;
    filled = filled;
    short = short;
    fills = fills;
    exactly = λ s bytes i a. (λ e. (tt, tt, (exactly s bytes i a).0 e), λ h. (exactly s bytes i a).1 h.2);
    sized = row_size_lem;
    there = λ _ a zs _ h.
        let r : List ℤ = map pos (shown a) in
        let l : length ws ≤ length (r ++ zs) = let p = length-append r zs in let q = row_size_lem a in omega arith in
        let e = sym (first_numbers (length ws) (r ++ zs) l) ∙ take_at r zs (length ws) (row_size_lem a) in
        naturals_there ws of 0 (r ++ zs) (shown a) e h ∙ ap value (whole a);
    back = λ zs a e.
        let x = naturals_back ws of 0 zs a e in
        subst (λ a.
        (numbers_from zs 0 (length ws) ≡ map pos (shown a))
        × Unit {0}
        × (below (shown a) (capacities (map kept ws)) ≡ true))
        x.2 (rw (shows zs) (x.0, tt, x.1));
    only = naturals_only ws of 0;
    again = λ _ _ _ _ _ _ _ _. refl;
    extra = λ _ _ _ _ _ _. tt;
  }

pub service_rows : PlainRows 0x41 2 service.layout services.item services.row service.service_list service.shown
unfolding services.item
service_rows =
    plain_rows 0x41 (16 ∷ 8 ∷ []) (λ id type. record { service_id = id; service_type = type }) service.service_list
    service.shown (omega arith) (omega arith) (omega arith) (omega arith) refl services_exactly (λ _. refl) (λ _. refl)
    (λ _. refl)

pub content_rows : PlainRows 0x54 3 content.layout contents.item contents.row content.content content.shown
unfolding contents.item
content_rows =
    plain_rows 0x54 (4 ∷ 4 ∷ 8 ∷ []) (λ first second user. record {
      content_nibble_level_1 = first;
      content_nibble_level_2 = second;
      user_byte = user;
    }) content.content content.shown (omega arith) (omega arith) (omega arith) (omega arith) refl content_exactly
    (λ _. refl) (λ _. refl) (λ _. refl)

pub rating_rows : PlainRows 0x55 2 rating.layout ratings.item ratings.row rating.parental_rating rating.shown
unfolding ratings.item
rating_rows =
    plain_rows 0x55 (24 ∷ 8 ∷ []) (λ country rating. record { country_code = country; rating = rating })
    rating.parental_rating rating.shown (omega arith) (omega arith) (omega arith) (omega arith) refl ratings_exactly
    (λ _. refl) (λ _. refl) (λ _. refl)
