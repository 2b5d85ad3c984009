-- Each writer makes a descriptor of at most 257 bytes, or refuses with 112 or 113.
use Prim.Native.Nat.{ℕ}
use mathlib.Core.Path.{◌≡◌, refl, sym, ap, ◌∙◌, subst}
use mathlib.Core.Logic.{◌⊎◌, ⊎_elim}
use mathlib.Core.Bool.{Bool}
use mathlib.Core.List.{List, ◌++◌}
use native.Mathlib.Omega.{arith}
use borrow.Author.Tests.{ltb-false}
use lib.Dec.{eqb, ltb}
use lib.IntN.{ℤ}
use lib.ListN.{length}
use Rattle.wire.specs.Reading.{Reading, value, refused, ◌>>=◌}
use Rattle.wire.proofs.IfLaws.{if-case}
use Rattle.cabinet.specs.declared.delivery_readings.Cable.{Cable}
use Rattle.cabinet.specs.declared.delivery_readings.Satellite.{Satellite}
use Rattle.cabinet.specs.declared.delivery_readings.Terrestrial.{Terrestrial}
use Rattle.delivery.specs.Cable as cable-layout
use Rattle.delivery.specs.Satellite as satellite-layout
use Rattle.delivery.specs.Terrestrial as terrestrial-layout
use Rattle.delivery.specs.declared.cable.Cable as cable
use Rattle.delivery.specs.declared.satellite.Satellite as satellite
use Rattle.delivery.specs.declared.terrestrial.Terrestrial as terrestrial
use Rattle.cabinet.specs.declared.text_readings.Part.{Part}
use Rattle.cabinet.specs.declared.text_readings.Service.{Service}
use Rattle.cabinet.specs.declared.text_readings.ShortEvent.{ShortEvent}
use Rattle.layout.specs.Shapes.{joined}
use Rattle.texts.specs.Service.{layout as service-layout}
use Rattle.texts.specs.ShortEvent.{layout as event-layout}
use Rattle.writing.specs.Rows.{items_of}
use Rattle.write_texts.specs.Texts.{two_texts}
use Rattle.write_texts.specs.NetworkName.{network_name_written}
use Rattle.write_texts.specs.Stuffing.{stuffing_written}
use Rattle.write_texts.specs.Service as service
use Rattle.write_texts.specs.ShortEvent as event
use Rattle.write_lists.specs.Lists.{list_of}
use Rattle.write_lists.specs.ServiceList as services
use Rattle.write_lists.specs.Content as contents
use Rattle.write_lists.specs.ParentalRating as ratings
use Rattle.write_lists.specs.LocalTimeOffset as offsets
use Rattle.write_lists.proofs.Reverses.{services_reverse, contents_reverse, ratings_reverse, offsets_reverse}
use Rattle.writing.specs.Fill.{ones, zeros, made as made_of, below, capacities}
use Rattle.writing.specs.Written.{inside, headed}
use Rattle.write_delivery.specs.Cable as cable-written
use Rattle.write_delivery.specs.Satellite as satellite-written
use Rattle.write_delivery.specs.Cable.{cable_written}
use Rattle.write_delivery.specs.Satellite.{satellite_written}
use Rattle.write_delivery.specs.Terrestrial.{terrestrial_written}
use Rattle.desk.specs.Calls.{Refusals, made, outside, long}
use Rattle.desk.specs.Texts.{lies_in, text, name_given, stuffing_given, service_given, short_event_given}
use Rattle.desk.specs.Delivery.{cable_fields, system_of, satellite_of, satellite_fields, terrestrial_fields, are_flags, cable_given, satellite_given, terrestrial_given}

-- what is 112 or goes on
pub data Inside {A : Type 0} (r : Reading A) : Type 0 where
  found : (a : A) → r ≡ value a → Inside r
  not_found : r ≡ refused 112 → Inside r

pub after_inside : {A : Type 0} (r : Reading A) (f : A → Reading (List ℕ)) → Inside r → ((a : A) → Refusals (f a))
    → Refusals (r >>= f)
after_inside r f (found a e) h = subst (λ x. Refusals (x >>= f)) (sym e) (h a)
after_inside r f (not_found e) h = outside (ap (λ x. x >>= f) e)

pub headed_refusals : (tag : ℕ) (body : List ℕ) → Refusals (headed tag body)
headed_refusals tag body =
    if-case Refusals (ltb 255 (length body)) (λ _. long refl)
    (λ h. let l = ltb-false 255 (length body) h in made _ refl (omega arith))

pub body_refusals : (tag : ℕ) (b : Bool) (body : List ℕ) → Refusals (inside b body >>= headed tag)
body_refusals tag b body =
    if-case (λ r. Refusals (r >>= headed tag)) b (λ _. headed_refusals tag body) (λ _. outside refl)

cable_made : (f : cable.Cable) → Refusals (cable_written f)
unfolding cable_written
cable_made f =
    body_refusals 0x44 (below (cable-written.numbers f) cable-written.limits) (made_of ones cable-layout.layout (cable-layout.shown f))

pub cable_refusals : (c : Cable) → Refusals (cable_given c)
unfolding cable_given
cable_refusals c = cable_made (cable_fields c)

system_found : (m r : ℕ) → Inside (system_of m r)
unfolding system_of
system_found m r =
    if-case Inside (eqb m 1) (λ _. found _ refl)
    (λ _. if-case Inside (eqb m 0)
    (λ _. if-case Inside (eqb r 0) (λ _. found _ refl) (λ _. not_found refl)) (λ _. not_found refl))

inside_then : {A B : Type 0} (r : Reading A) (f : A → B) → Inside r → Inside (r >>= λ a. value (f a))
inside_then r f (found a e) = found (f a) (ap (λ x. x >>= λ b. value (f b)) e)
inside_then r f (not_found e) = not_found (ap (λ x. x >>= λ b. value (f b)) e)

satellite_made : (f : satellite.Satellite) → Refusals (satellite_written f)
unfolding satellite_written
satellite_made f =
    body_refusals 0x43 (below (satellite-written.numbers f) satellite-written.limits)
    (made_of zeros (satellite-layout.layout_under f.modulation_system) (satellite-layout.shown f))

pub satellite_refusals : (c : Satellite) → Refusals (satellite_given c)
unfolding satellite_given satellite_fields
satellite_refusals c =
    after_inside (satellite_fields c) satellite_written
    (if-case Inside (ltb 1 c.west_east_flag) (λ _. not_found refl)
    (λ _. inside_then (system_of c.modulation_system c.roll_off) (satellite_of c)
    (system_found c.modulation_system c.roll_off)))
    satellite_made

terrestrial_made : (f : terrestrial.Terrestrial) → Refusals (terrestrial_written f)
unfolding terrestrial_written
terrestrial_made f =
    body_refusals 0x5A (below (terrestrial-layout.shown f) (capacities terrestrial-layout.layout))
    (made_of ones terrestrial-layout.layout (terrestrial-layout.shown f))

pub terrestrial_refusals : (c : Terrestrial) → Refusals (terrestrial_given c)
unfolding terrestrial_given terrestrial_fields
terrestrial_refusals c =
    after_inside (terrestrial_fields c) terrestrial_written
    (if-case Inside (are_flags c) (λ _. found _ refl) (λ _. not_found refl))
    terrestrial_made

-- ---- texts

text_found : (bytes : List ℕ) (p : Part) → Inside (text bytes p)
unfolding text
text_found bytes p = if-case Inside (lies_in bytes p) (λ _. found _ refl) (λ _. not_found refl)

pub name_refusals : (bytes : List ℕ) (p : Part) → Refusals (name_given bytes p)
unfolding name_given network_name_written
name_refusals bytes p = after_inside (text bytes p) network_name_written (text_found bytes p) (headed_refusals 0x40)

pub stuffing_refusals : (bytes : List ℕ) (p : Part) → Refusals (stuffing_given bytes p)
unfolding stuffing_given stuffing_written
stuffing_refusals bytes p = after_inside (text bytes p) stuffing_written (text_found bytes p) (headed_refusals 0x42)

service_made : (f : service.Fields) → Refusals (service.service_written f)
unfolding service.service_written
service_made f =
    body_refusals 0x48 (below (service.numbers f) (capacities service-layout))
    (made_of ones service-layout (service.numbers f) ++ two_texts f.service_provider_name f.service_name)

pub service_refusals : (bytes : List ℕ) (c : Service) → Refusals (service_given bytes c)
unfolding service_given
service_refusals bytes c =
    after_inside (text bytes c.service_provider_name) _ (text_found bytes c.service_provider_name)
    (λ t. after_inside (text bytes c.service_name) _ (text_found bytes c.service_name) (λ u. service_made _))

event_made : (f : event.Fields) → Refusals (event.short_event_written f)
unfolding event.short_event_written
event_made f =
    body_refusals 0x4D (below (event.numbers f) (capacities event-layout))
    (made_of ones event-layout (event.numbers f) ++ two_texts f.event_name f.text)

pub event_refusals : (bytes : List ℕ) (c : ShortEvent) → Refusals (short_event_given bytes c)
unfolding short_event_given
event_refusals bytes c =
    after_inside (text bytes c.event_name) _ (text_found bytes c.event_name)
    (λ t. after_inside (text bytes c.text) _ (text_found bytes c.text) (λ u. event_made _))

-- ---- lists

list_refusals : (tag k : ℕ) (piece : List ℤ → Reading (List ℕ)) (zs : List ℤ)
    → ((j : ℕ) → list_of tag k piece zs ≡ refused j → (j ≡ 112) ⊎ (j ≡ 113)) → Refusals (list_of tag k piece zs)
list_refusals tag k piece zs numbers = by (items_of k piece zs) refl
  where
    by : (r : Reading (List (List ℕ))) → items_of k piece zs ≡ r → Refusals (list_of tag k piece zs)
    by (value l) e =
        subst (λ x. Refusals (x >>= λ m. headed tag (joined m))) (sym e) (headed_refusals tag (joined l))
    by (refused j) e =
        let q : list_of tag k piece zs ≡ refused j = ap (λ x. x >>= λ m. headed tag (joined m)) e in
        ⊎_elim (λ (h : j ≡ 112). outside (q ∙ ap refused h)) (λ (h : j ≡ 113). long (q ∙ ap refused h)) (numbers j q)

pub services_refusals : (zs : List ℤ) → Refusals (services.service_list_written zs)
unfolding services.service_list_written
services_refusals zs = list_refusals 0x41 2 services.piece zs (services_reverse.numbers zs)

pub contents_refusals : (zs : List ℤ) → Refusals (contents.content_written zs)
unfolding contents.content_written
contents_refusals zs = list_refusals 0x54 3 contents.piece zs (contents_reverse.numbers zs)

pub ratings_refusals : (zs : List ℤ) → Refusals (ratings.parental_rating_written zs)
unfolding ratings.parental_rating_written
ratings_refusals zs = list_refusals 0x55 2 ratings.piece zs (ratings_reverse.numbers zs)

pub offsets_refusals : (zs : List ℤ) → Refusals (offsets.local_time_offset_written zs)
unfolding offsets.local_time_offset_written
offsets_refusals zs = list_refusals 0x58 9 offsets.piece zs (offsets_reverse.numbers zs)
