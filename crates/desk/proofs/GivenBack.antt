-- "Reading back gives the fields", over the calls for C: what a writer wrote, its reading gives with the struct that was written.
use Prim.{tt}
use Prim.Native.Nat.{ℕ}
use mathlib.Core.Path.{◌≡◌, sym, ap, ap₂, ◌∙◌, subst}
use mathlib.Core.List.{List}
use lib.IntN.{ℤ}
use lib.ListN.{take, drop, take-append-drop}
use Rattle.wire.specs.Bytes.{Bytes}
use Rattle.wire.specs.Reading.{Reading, value}
use Rattle.wire.proofs.IfLaws.{if-case}
use Rattle.wire.proofs.ReadingLaws.{value_is, never, through}
use Rattle.forms.proofs.Lawful.{bytes_front, bytes_behind}
use Rattle.delivery.specs.Cable.{cable}
use Rattle.delivery.specs.Satellite.{satellite}
use Rattle.delivery.specs.Terrestrial.{terrestrial}
use Rattle.cabinet.specs.Delivery.{cable_answer, satellite_answer, terrestrial_answer}
use Rattle.cabinet.specs.declared.delivery_readings.Cable.{Cable}
use Rattle.cabinet.specs.declared.delivery_readings.Satellite.{Satellite}
use Rattle.cabinet.specs.declared.delivery_readings.Terrestrial.{Terrestrial}
use Rattle.cabinet.specs.declared.text_readings.Part.{Part}
use Rattle.cabinet.specs.declared.text_readings.Service.{Service}
use Rattle.cabinet.specs.declared.text_readings.ShortEvent.{ShortEvent}
use Rattle.write_texts.specs.NetworkName.{network_name_written, name_read}
use Rattle.write_texts.specs.Stuffing.{stuffing_written, stuffing_read}
use Rattle.write_texts.specs.Service as service
use Rattle.write_texts.specs.ShortEvent as event
use Rattle.write_texts.proofs.Reverses.{name_reverse, stuffing_reverse, service_reverse, short_event_reverse}
use Rattle.write_lists.specs.ServiceList as services
use Rattle.write_lists.specs.Content as contents
use Rattle.write_lists.specs.ParentalRating as ratings
use Rattle.write_lists.specs.LocalTimeOffset as offsets
use Rattle.write_lists.proofs.Reverses.{services_reverse, contents_reverse, ratings_reverse, offsets_reverse}
use Rattle.write_delivery.specs.Satellite.{satellite_written}
use Rattle.write_delivery.specs.Terrestrial.{terrestrial_written}
use Rattle.write_delivery.proofs.Reverses.{cable_reverse, satellite-reverse, terrestrial-reverse}
use Rattle.desk.specs.Answers.{Called}
use Rattle.desk.specs.Calls.{Refusals}
use Rattle.desk.specs.Texts.{lies_in, text_of, text, name_given, stuffing_given, service_given, short_event_given}
use Rattle.desk.specs.Delivery.{cable_fields, satellite_fields, terrestrial_fields, cable_given, satellite_given, terrestrial_given}
use Rattle.desk.specs.declared.answers.WriteAnswer.{WriteAnswer}
use Rattle.desk.proofs.Calls.{success_writes_first}
use Rattle.desk.proofs.Fields.{satellite_says_lem, terrestrial_says_lem}
use Rattle.desk.proofs.Refusals.{cable_refusals, satellite_refusals, terrestrial_refusals, name_refusals, stuffing_refusals, service_refusals, event_refusals, services_refusals, contents_refusals, ratings_refusals, offsets_refusals}

-- what the room begins with, after a call that told 0
written_there : (d : Reading (List ℕ)) (o o' : List ℕ) (r : WriteAnswer) → Refusals d → Called d o r o' → r.number ≡ 0
    → d ≡ value (take r.size o')
written_there d o o' r x c z = let w = success_writes_first d o o' r x c z in w.made ∙ ap value (sym w.first)

module _ (o o' : List ℕ) (r : WriteAnswer) (z : r.number ≡ 0) where
  pub cable_given_back : (c : Cable) → Called (cable_given c) o r o'
      → cable_answer (cable (take r.size o')) ≡ record { number = 0; place = 0; digit = 0; cable = c }
  unfolding cable_given
  cable_given_back c h =
      ap cable_answer (cable_reverse.reads_back (cable_fields c) (take r.size o') tt
      (written_there (cable_given c) o o' r (cable_refusals c) h z))

  pub satellite_given_back : (c : Satellite) → Called (satellite_given c) o r o'
      → satellite_answer (satellite (take r.size o')) ≡ record { number = 0; place = 0; digit = 0; satellite = c }
  unfolding satellite_given
  satellite_given_back c h =
      let t = through (satellite_fields c) satellite_written (take r.size o')
      (written_there (satellite_given c) o o' r (satellite_refusals c) h z) in
      ap satellite_answer (satellite-reverse.reads_back t.0 (take r.size o') tt t.2)
      ∙ ap (λ x. record { number = 0; place = 0; digit = 0; satellite = x }) (satellite_says_lem c t.0 t.1)

  pub terrestrial_given_back : (c : Terrestrial) → Called (terrestrial_given c) o r o'
      → terrestrial_answer (terrestrial (take r.size o')) ≡ record { number = 0; terrestrial = c }
  unfolding terrestrial_given
  terrestrial_given_back c h =
      let t = through (terrestrial_fields c) terrestrial_written (take r.size o')
      (written_there (terrestrial_given c) o o' r (terrestrial_refusals c) h z) in
      ap terrestrial_answer (terrestrial-reverse.reads_back t.0 (take r.size o') tt t.2)
      ∙ ap (λ x. record { number = 0; terrestrial = x }) (terrestrial_says_lem c t.0 t.1)

  -- ---- lists: the rows of the items that are read are the numbers

  pub services_given_back : (zs : List ℤ) → Called (services.service_list_written zs) o r o'
      → services.service_list_read (take r.size o') ≡ value zs
  services_given_back zs h =
      services_reverse.reads_back zs (take r.size o') tt
      (written_there (services.service_list_written zs) o o' r (services_refusals zs) h z)

  pub contents_given_back : (zs : List ℤ) → Called (contents.content_written zs) o r o'
      → contents.content_read (take r.size o') ≡ value zs
  contents_given_back zs h =
      contents_reverse.reads_back zs (take r.size o') tt
      (written_there (contents.content_written zs) o o' r (contents_refusals zs) h z)

  pub ratings_given_back : (zs : List ℤ) → Called (ratings.parental_rating_written zs) o r o'
      → ratings.parental_rating_read (take r.size o') ≡ value zs
  ratings_given_back zs h =
      ratings_reverse.reads_back zs (take r.size o') tt
      (written_there (ratings.parental_rating_written zs) o o' r (ratings_refusals zs) h z)

  pub offsets_given_back : (zs : List ℤ) → Called (offsets.local_time_offset_written zs) o r o'
      → offsets.local_time_offset_read (take r.size o') ≡ value zs
  offsets_given_back zs h =
      offsets_reverse.reads_back zs (take r.size o') tt
      (written_there (offsets.local_time_offset_written zs) o o' r (offsets_refusals zs) h z)

  -- ---- texts: the parts that are read have the bytes of the parts that were given

  module _ (lent : List ℕ) (bytes : Bytes lent) where
    text_is : (p : Part) (t : List ℕ) → text lent p ≡ value t → (text_of lent p ≡ t) × Bytes t
    unfolding text
    text_is p t =
        if-case (λ x. x ≡ value t → (text_of lent p ≡ t) × Bytes t) (lies_in lent p)
        (λ _ e. (value_is e, subst Bytes (value_is e) (part_bytes p.start p.size)))
        (λ _ e. absurd (never (sym e)))
      where
        part_bytes : (i n : ℕ) → Bytes (take n (drop i lent))
        part_bytes i n =
            bytes_front (take n (drop i lent)) (drop n (drop i lent)) (sym (take-append-drop n (drop i lent)))
            (bytes_behind (take i lent) (drop i lent) (sym (take-append-drop i lent)) bytes)

    pub name_given_back : (p : Part) → Called (name_given lent p) o r o'
        → name_read (take r.size o') ≡ value (text_of lent p)
    unfolding name_given
    name_given_back p h =
        let t = through (text lent p) network_name_written (take r.size o')
        (written_there (name_given lent p) o o' r (name_refusals lent p) h z) in
        let x = text_is p t.0 t.1 in
        name_reverse.reads_back t.0 (take r.size o') x.1 t.2 ∙ ap value (sym x.0)

    pub stuffing_given_back : (p : Part) → Called (stuffing_given lent p) o r o'
        → stuffing_read (take r.size o') ≡ value (text_of lent p)
    unfolding stuffing_given
    stuffing_given_back p h =
        let t = through (text lent p) stuffing_written (take r.size o')
        (written_there (stuffing_given lent p) o o' r (stuffing_refusals lent p) h z) in
        let x = text_is p t.0 t.1 in
        stuffing_reverse.reads_back t.0 (take r.size o') x.1 t.2 ∙ ap value (sym x.0)

    pub service_given_back : (c : Service) → Called (service_given lent c) o r o'
        → service.service_read (take r.size o')
        ≡ value (record {
          service_type = c.service_type;
          service_provider_name = text_of lent c.service_provider_name;
          service_name = text_of lent c.service_name;
        })
    unfolding service_given
    service_given_back c h =
        let t = through (text lent c.service_provider_name) _ (take r.size o')
        (written_there (service_given lent c) o o' r (service_refusals lent c) h z) in
        let u = through (text lent c.service_name) _ (take r.size o') t.2 in
        let x = text_is c.service_provider_name t.0 t.1 in
        let y = text_is c.service_name u.0 u.1 in
        service_reverse.reads_back _ (take r.size o') (x.1, y.1) u.2
        ∙ ap₂ (λ a b. value (record {
          service_type = c.service_type;
          service_provider_name = a;
          service_name = b;
        })) (sym x.0) (sym y.0)

    pub event_given_back : (c : ShortEvent) → Called (short_event_given lent c) o r o'
        → event.short_event_read (take r.size o')
        ≡ value (record {
          language_code = c.language_code;
          event_name = text_of lent c.event_name;
          text = text_of lent c.text;
        })
    unfolding short_event_given
    event_given_back c h =
        let t = through (text lent c.event_name) _ (take r.size o')
        (written_there (short_event_given lent c) o o' r (event_refusals lent c) h z) in
        let u = through (text lent c.text) _ (take r.size o') t.2 in
        let x = text_is c.event_name t.0 t.1 in
        let y = text_is c.text u.0 u.1 in
        short_event_reverse.reads_back _ (take r.size o') (x.1, y.1) u.2
        ∙ ap₂ (λ a b. value (record {
          language_code = c.language_code;
          event_name = a;
          text = b;
        })) (sym x.0) (sym y.0)
