-- Each of the eleven readings gives 61, 62 and 66 in that order, and each where it applies.
use Prim.{tt}
use Prim.Native.Nat.{ℕ, ◌+◌, ◌/◌, ◌%◌, ◌<◌}
use mathlib.Core.Path.{◌≡◌, refl, sym, ap, ap₂, ◌∙◌}
use mathlib.Core.Bool.{true}
use mathlib.Core.List.{List, [], ◌∷◌}
use native.Mathlib.Omega.{arith}
use borrow.Author.Tests.{eqb-true, eq-eqb}
use lib.Dec.{eqb}
use lib.ListN.{length, get_or}
use Rattle.wire.specs.Reading.{value, refused, ◌>>=◌}
use Rattle.wire.proofs.IfLaws.{if-case, true_not_false}
use Rattle.clock.specs.Fault.{Why, Answered, plain}
use Rattle.layout.specs.Body.{framed, fixed, fit}
use Rattle.layout.specs.Items.{items, count, place, item}
use Rattle.layout.specs.Texts.{two_texts}
use Rattle.layout.specs.Shapes.{Framed, NoTag}
use Rattle.layout.specs.declared.texts.TwoTexts.{TwoTexts}
use Rattle.layout.proofs.Accepts.{wrong_tag_exactly, framed_exactly, count_exactly, item_past, texts_exactly}
use Rattle.texts.specs.Whole.{whole}
use Rattle.texts.specs.NetworkName.{network_name}
use Rattle.texts.specs.Stuffing.{stuffing}
use Rattle.texts.specs.Service as service
use Rattle.texts.specs.ShortEvent as short-event
use Rattle.lists.specs.Content.{content}
use Rattle.lists.specs.ServiceList.{service_list}
use Rattle.lists.specs.ParentalRating.{parental_rating}
use Rattle.lists.specs.LocalTimeOffset.{localTimeOffset}
use Rattle.delivery.specs.Satellite.{satellite}
use Rattle.delivery.specs.Cable.{cable}
use Rattle.delivery.specs.Terrestrial.{terrestrial}
use Rattle.descriptor.specs.Order.{AnyBody, Sized, Items, Texts, InOrder, ListInOrder}

-- what is refused in front is refused in all
refused_on : {A B : Type 0} {w : Why} (r : Answered A) (f : A → Answered B) → r ≡ refused w → (r >>= f) ≡ refused w
refused_on r f e = ap (λ x. x >>= f) e

-- ---- the frame, and a body judged behind it

module _ {A : Type 0} (tag : ℕ) (f : List ℕ → Answered A) where
  no_tag : (s : List ℕ) → NoTag tag s → (framed s tag >>= f) ≡ refused (plain 61)
  no_tag s h = refused_on (framed s tag) f ((wrong_tag_exactly tag s).1 h)

  -- 62, where no body that stands in the frame is read
  no_fit : (s : List ℕ) → (NoTag tag s → ⊥) → ((b : List ℕ) → Framed tag s b → f b ≡ refused (plain 62))
      → (framed s tag >>= f) ≡ refused (plain 62)
  unfolding framed
  no_fit [] h g = absurd (h tt)
  no_fit (t ∷ []) h g =
      if-case (λ x. (x >>= f) ≡ refused (plain 62)) (eqb t tag) (λ _. refl)
      (λ q. absurd (h (λ e. true_not_false (sym (eq-eqb t tag e) ∙ q))))
  no_fit (t ∷ n ∷ b) h g =
      if-case (λ x. (x >>= f) ≡ refused (plain 62)) (eqb t tag)
      (λ p. if-case (λ x. (x >>= f) ≡ refused (plain 62)) (eqb n (length b))
      (λ q. g b (ap₂ (λ x y. x ∷ y ∷ b) (eqb-true t tag p) (eqb-true n (length b) q))) (λ _. refl))
      (λ q. absurd (h (λ e. true_not_false (sym (eq-eqb t tag e) ∙ q))))

any_order : {A : Type 0} (tag : ℕ) (f : List ℕ → Answered A) → InOrder tag (AnyBody tag) (λ s. framed s tag >>= f)
any_order tag f = record { tag_first = no_tag tag f; then-body = λ s h g. no_fit tag f s h (λ b e. absurd (g (b, e))) }

-- ---- a body of n bytes

fixed_order : {A : Type 0} (n tag : ℕ) (f : List ℕ → Answered A) → InOrder tag (Sized n tag) (λ s. fixed s tag n >>= f)
unfolding fixed
fixed_order n tag f = record {
  tag_first = λ s h. refused_on (fixed s tag n) f (no_tag tag _ s h);
  then-body = λ s h g. refused_on (fixed s tag n) f (no_fit tag _ s h (λ b e.
      if-case (λ x. x ≡ refused (plain 62)) (eqb (length b) n)
      (λ q. absurd (g (b, e, eqb-true (length b) n q))) (λ _. refl)));
}

-- ---- two texts

not_read : (h : ℕ) (b : List ℕ) → ((t : TwoTexts) → two_texts b h ≡ value t → ⊥) → two_texts b h ≡ refused (plain 62)
unfolding two_texts
not_read h b =
    let a : ℕ = get_or b h 0 in
    let n : ℕ = get_or b (h + 1 + a) 0 in
    if-case (λ x. ((t : TwoTexts) → x ≡ value t → ⊥) → x ≡ refused (plain 62)) (eqb (length b) (h + 2 + a + n))
    (λ _ g. absurd (g _ refl)) (λ _ g. refl)

texts_order : {A : Type 0} (h tag : ℕ) (f : TwoTexts → List ℕ → Answered A)
    → InOrder tag (Texts h tag) (λ s. framed s tag >>= λ b. two_texts b h >>= λ t. f t b)
texts_order h tag f = record {
  tag_first = no_tag tag _;
  then-body = λ s u g. no_fit tag _ s u (λ b e.
      refused_on (two_texts b h) (λ t. f t b) (not_read h b (λ t q. g (b, e, (t, (texts_exactly h b t).0 q)))));
}

-- ---- items

module _ (k tag : ℕ) (some : 0 < k) where
  -- a body that can be cut into items
  cut : (s b : List ℕ) → Framed tag s b → eqb (length b % k) 0 ≡ true → Items k tag s
  unfolding items count
  cut s b e q =
      let i : items s tag k ≡ value b =
      ap (λ x. x >>= λ c. fit (eqb (length c % k) 0) c) ((framed_exactly tag s b).1 e) ∙ ap (λ t. fit t b) q in
      let x = (count_exactly k tag some s (length b / k)).0 (ap (λ r. r >>= λ c. value (length c / k)) i) in
      (x.0, x.1)

  items_order : InOrder tag (Items k tag) (λ s. items s tag k)
  unfolding items
  items_order = record {
    tag_first = no_tag tag _;
    then-body = λ s h g. no_fit tag _ s h (λ b e.
        if-case (λ x. x ≡ refused (plain 62)) (eqb (length b % k) 0) (λ q. absurd (g (cut s b e q))) (λ _. refl));
  }

  item_order : {A : Type 0} (f : ℕ → List ℕ → Answered A) → ListInOrder k tag (λ s i. item s tag k i >>= f i)
  unfolding item place
  item_order f = record {
    at = λ i. record {
      tag_first = λ s h. refused_on (item s tag k i) (f i)
          (refused_on (place s tag k i) _ (refused_on (items s tag k) _ (items_order.tag_first s h)));
      then-body = λ s h g. refused_on (item s tag k i) (f i)
          (refused_on (place s tag k i) _ (refused_on (items s tag k) _ (items_order.then-body s h g)));
    };
    then-index = λ s xs i are l. refused_on (item s tag k i) (f i) (item_past k tag some s xs are i l);
  }

-- ---- the eleven

pub network_name_order : InOrder 0x40 (AnyBody 0x40) network_name
unfolding network_name whole
network_name_order = any_order 0x40 _

pub service_list_order : ListInOrder 3 0x41 service_list
unfolding service_list
service_list_order = item_order 3 0x41 (omega arith) _

pub stuffing_order : InOrder 0x42 (AnyBody 0x42) stuffing
unfolding stuffing whole
stuffing_order = any_order 0x42 _

pub satellite_order : InOrder 0x43 (Sized 11 0x43) satellite
unfolding satellite
satellite_order = fixed_order 11 0x43 _

pub cable_order : InOrder 0x44 (Sized 11 0x44) cable
unfolding cable
cable_order = fixed_order 11 0x44 _

pub service_order : InOrder 0x48 (Texts 1 0x48) service.service
unfolding service.service service.fields
service_order = texts_order 1 0x48 _

pub short_event_order : InOrder 0x4D (Texts 3 0x4D) short-event.short_event
unfolding short-event.short_event short-event.fields
short_event_order = texts_order 3 0x4D _

pub content_order : ListInOrder 2 0x54 content
unfolding content
content_order = item_order 2 0x54 (omega arith) _

pub rating_order : ListInOrder 4 0x55 parental_rating
unfolding parental_rating
rating_order = item_order 4 0x55 (omega arith) _

pub offset_order : ListInOrder 13 0x58 localTimeOffset
unfolding localTimeOffset
offset_order = item_order 13 0x58 (omega arith) _

pub terrestrial_order : InOrder 0x5A (Sized 11 0x5A) terrestrial
unfolding terrestrial
terrestrial_order = fixed_order 11 0x5A _
