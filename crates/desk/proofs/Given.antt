-- What a struct of C makes, by the tests of the calls.
use mathlib.Core.Path.{◌≡◌, sym, ap, ap₂, ◌∙◌, subst}
use mathlib.Core.Bool.{Bool, true, false, not}
use mathlib.Core.List.{List}
use Prim.Native.Nat.{ℕ, ◌<◌, ◌≤◌}
use borrow.Author.Tests.{lt-ltb, le-ltb, not-false, not-true}
use Rattle.std.specs.Prelude.{Option, Some, None, Result}
use Rattle.wire.specs.Reading.{Reading, value, refused, ◌>>=◌}
use Rattle.delivery.specs.declared.satellite.System.{System}
use Rattle.delivery.specs.declared.satellite.Satellite as satellite
use Rattle.delivery.specs.declared.terrestrial.Terrestrial as terrestrial
use Rattle.cabinet.specs.declared.delivery_readings.Satellite.{Satellite}
use Rattle.cabinet.specs.declared.delivery_readings.Terrestrial.{Terrestrial}
use Rattle.cabinet.specs.declared.text_readings.Part.{Part}
use Rattle.cabinet.specs.declared.text_readings.Service.{Service}
use Rattle.cabinet.specs.declared.text_readings.ShortEvent.{ShortEvent}
use Rattle.writing.specs.Written.{told, Writes}
use Rattle.writing.specs.declared.Refusal.{Refusal}
use Rattle.write_delivery.specs.Satellite.{satellite_written}
use Rattle.write_delivery.specs.Terrestrial.{terrestrial_written}
use Rattle.write_texts.specs.NetworkName.{network_name_written}
use Rattle.write_texts.specs.Stuffing.{stuffing_written}
use Rattle.write_texts.specs.Service.{service_written}
use Rattle.write_texts.specs.ShortEvent.{short_event_written}
use Rattle.desk.specs.Answers.{says, Called}
use Rattle.desk.specs.Delivery.{system_of, told_system, satellite_of, satellite_fields, satellite_given, are_flags, terrestrial_of, terrestrial_fields, terrestrial_given}
use Rattle.desk.specs.Texts.{lies_in, text_of, text, name_given, stuffing_given, service_given, short_event_given}
use Rattle.desk.specs.declared.answers.WriteAnswer.{WriteAnswer}
use Rattle.desk.proofs.Called.{called}

-- the promise of what makes the same
same_called : (d e : Reading (List ℕ)) → d ≡ e → (o o' : List ℕ) (w : Result ℕ Refusal) (r : WriteAnswer) → Writes d o w o'
    → r ≡ says (told w) → Called e o r o'
same_called d e q o o' w r x h = called e o o' w r (subst (λ y. Writes y o w o') q x) h

-- ---- satellite

module _ (c : Satellite) where
  pub satellite_flag : 1 < c.west_east_flag → satellite_given c ≡ refused 112
  unfolding satellite_given satellite_fields
  satellite_flag h = rw (lt-ltb 1 c.west_east_flag h)

  module _ (x : Option System) (flag : c.west_east_flag ≤ 1)
      (found : told_system x ≡ system_of c.modulation_system c.roll_off) where
    pub satellite_system : x ≡ None → satellite_given c ≡ refused 112
    unfolding satellite_given satellite_fields
    satellite_system e = rw (le-ltb 1 c.west_east_flag flag, sym found ∙ ap told_system e)

    satellite_made : (w : System) → x ≡ Some w → satellite_given c ≡ satellite_written (satellite_of c w)
    unfolding satellite_given satellite_fields
    satellite_made w e = rw (le-ltb 1 c.west_east_flag flag, sym found ∙ ap told_system e)

    pub satellite_called : (w : System) → x ≡ Some w → (f : satellite.Satellite) → f ≡ satellite_of c w
        → (o o' : List ℕ) (v : Result ℕ Refusal) (r : WriteAnswer) → Writes (satellite_written f) o v o' → r ≡ says (told v)
        → Called (satellite_given c) o r o'
    satellite_called w e f q =
        same_called (satellite_written f) (satellite_given c) (ap satellite_written q ∙ sym (satellite_made w e))

-- ---- terrestrial

module _ (c : Terrestrial) (b : Bool) (test : b ≡ are_flags c) where
  pub terrestrial_flags : not b ≡ true → terrestrial_given c ≡ refused 112
  unfolding terrestrial_given terrestrial_fields
  terrestrial_flags h = rw (sym test ∙ not-true b h)

  terrestrial_made : not b ≡ false → terrestrial_given c ≡ terrestrial_written (terrestrial_of c)
  unfolding terrestrial_given terrestrial_fields
  terrestrial_made h = rw (sym test ∙ not-false b h)

  pub terrestrial_called : not b ≡ false → (f : terrestrial.Terrestrial) → f ≡ terrestrial_of c → (o o' : List ℕ)
      (v : Result ℕ Refusal) (r : WriteAnswer) → Writes (terrestrial_written f) o v o' → r ≡ says (told v)
      → Called (terrestrial_given c) o r o'
  terrestrial_called h f q =
      same_called (terrestrial_written f) (terrestrial_given c) (ap terrestrial_written q ∙ sym (terrestrial_made h))

-- ---- texts

module _ (bytes : List ℕ) (p : Part) (b : Bool) (test : b ≡ lies_in bytes p) where
  pub text_outside : not b ≡ true → text bytes p ≡ refused 112
  unfolding text
  text_outside h = rw (sym test ∙ not-true b h)

  pub text_inside : not b ≡ false → text bytes p ≡ value (text_of bytes p)
  unfolding text
  text_inside h = rw (sym test ∙ not-false b h)

  pub name_outside : not b ≡ true → name_given bytes p ≡ refused 112
  unfolding name_given
  name_outside h = ap (λ r. r >>= network_name_written) (text_outside h)

  pub stuffing_outside : not b ≡ true → stuffing_given bytes p ≡ refused 112
  unfolding stuffing_given
  stuffing_outside h = ap (λ r. r >>= stuffing_written) (text_outside h)

  module _ (h : not b ≡ false) (t : List ℕ) (taken : t ≡ text_of bytes p) (o o' : List ℕ) (v : Result ℕ Refusal)
      (r : WriteAnswer) where
    pub name_called : Writes (network_name_written t) o v o' → r ≡ says (told v) → Called (name_given bytes p) o r o'
    unfolding name_given
    name_called =
        same_called (network_name_written t) (name_given bytes p)
        (ap network_name_written taken ∙ sym (ap (λ x. x >>= network_name_written) (text_inside h))) o o' v r

    pub stuffing_called : Writes (stuffing_written t) o v o' → r ≡ says (told v) → Called (stuffing_given bytes p) o r o'
    unfolding stuffing_given
    stuffing_called =
        same_called (stuffing_written t) (stuffing_given bytes p)
        (ap stuffing_written taken ∙ sym (ap (λ x. x >>= stuffing_written) (text_inside h))) o o' v r

-- two parts: the first is outside, or the second; or both are texts
module _ (bytes : List ℕ) (p q : Part) (b d : Bool) (first : b ≡ lies_in bytes p) (second : d ≡ lies_in bytes q)
    (f : List ℕ → List ℕ → Reading (List ℕ)) where
  abbrev both : Reading (List ℕ)
  both = text bytes p >>= λ t. text bytes q >>= λ u. f t u

  both_second : not b ≡ false → not d ≡ true → both ≡ refused 112
  both_second h g = rw (text_inside bytes p b first h, text_outside bytes q d second g)

  both_inside : not b ≡ false → not d ≡ false → both ≡ f (text_of bytes p) (text_of bytes q)
  both_inside h g = rw (text_inside bytes p b first h, text_inside bytes q d second g)

both_first : (bytes : List ℕ) (p q : Part) (b : Bool) → b ≡ lies_in bytes p → (f : List ℕ → List ℕ → Reading (List ℕ))
    → not b ≡ true → (text bytes p >>= λ t. text bytes q >>= λ u. f t u) ≡ refused 112
both_first bytes p q b test f h = rw (text_outside bytes p b test h)

module _ (bytes : List ℕ) (c : Service) where
  abbrev service_fields : List ℕ → List ℕ → Reading (List ℕ)
  service_fields t u =
      service_written (record { service_type = c.service_type; service_provider_name = t; service_name = u })

  module _ (b : Bool) (first : b ≡ lies_in bytes c.service_provider_name) where
    pub service_provider : not b ≡ true → service_given bytes c ≡ refused 112
    unfolding service_given
    service_provider = both_first bytes c.service_provider_name c.service_name b first service_fields

    module _ (h : not b ≡ false) (d : Bool) (second : d ≡ lies_in bytes c.service_name) where
      pub service-name : not d ≡ true → service_given bytes c ≡ refused 112
      unfolding service_given
      service-name =
          both_second bytes c.service_provider_name c.service_name b d first second service_fields h

      service_made : not d ≡ false
          → service_given bytes c
          ≡ service_fields (text_of bytes c.service_provider_name) (text_of bytes c.service_name)
      unfolding service_given
      service_made =
          both_inside bytes c.service_provider_name c.service_name b d first second service_fields h

      pub service_called : not d ≡ false → (t u : List ℕ) → t ≡ text_of bytes c.service_provider_name
          → u ≡ text_of bytes c.service_name → (o o' : List ℕ) (v : Result ℕ Refusal) (r : WriteAnswer)
          → Writes (service_fields t u) o v o' → r ≡ says (told v) → Called (service_given bytes c) o r o'
      service_called g t u e q =
          same_called (service_fields t u) (service_given bytes c) (ap₂ service_fields e q ∙ sym (service_made g))

module _ (bytes : List ℕ) (c : ShortEvent) where
  abbrev event_fields : List ℕ → List ℕ → Reading (List ℕ)
  event_fields t u = short_event_written (record { language_code = c.language_code; event_name = t; text = u })

  module _ (b : Bool) (first : b ≡ lies_in bytes c.event_name) where
    pub event-name : not b ≡ true → short_event_given bytes c ≡ refused 112
    unfolding short_event_given
    event-name = both_first bytes c.event_name c.text b first event_fields

    module _ (h : not b ≡ false) (d : Bool) (second : d ≡ lies_in bytes c.text) where
      pub event_text : not d ≡ true → short_event_given bytes c ≡ refused 112
      unfolding short_event_given
      event_text = both_second bytes c.event_name c.text b d first second event_fields h

      event_made : not d ≡ false
          → short_event_given bytes c ≡ event_fields (text_of bytes c.event_name) (text_of bytes c.text)
      unfolding short_event_given
      event_made = both_inside bytes c.event_name c.text b d first second event_fields h

      pub event_called : not d ≡ false → (t u : List ℕ) → t ≡ text_of bytes c.event_name
          → u ≡ text_of bytes c.text → (o o' : List ℕ) (v : Result ℕ Refusal) (r : WriteAnswer)
          → Writes (event_fields t u) o v o' → r ≡ says (told v) → Called (short_event_given bytes c) o r o'
      event_called g t u e q =
          same_called (event_fields t u) (short_event_given bytes c) (ap₂ event_fields e q ∙ sym (event_made g))
