-- "writing what was read gives the bytes", over the structs of C: what a reading says of a descriptor, written with the
-- descriptor's own bytes, is that descriptor, where it is usual.
use Prim.{tt}
use Prim.Native.Nat.{ℕ, ◌+◌, ◌≤◌}
use mathlib.Core.Path.{◌≡◌, ap, ◌∙◌}
use mathlib.Core.List.{List, ◌∷◌, ◌++◌}
use native.Mathlib.Omega.{arith}
use borrow.Author.Tests.{le-ltb}
use lib.ListN.{length, length-append}
use Rattle.wire.specs.Bytes.{Bytes}
use Rattle.wire.specs.Reading.{value, ◌>>=◌}
use Rattle.layout.specs.Refusal.{bytes_of}
use Rattle.layout.specs.Shapes.{Texted}
use Rattle.layout.specs.declared.Part.{Part}
use Rattle.layout.specs.declared.texts.TwoTexts.{TwoTexts}
use Rattle.texts.specs.NetworkName.{network_name}
use Rattle.texts.specs.Stuffing.{stuffing}
use Rattle.texts.specs.Service as read-service
use Rattle.texts.specs.ShortEvent as read-event
use Rattle.texts.specs.declared.service.Service.{Service}
use Rattle.texts.specs.declared.short_event.ShortEvent.{ShortEvent}
use Rattle.texts.proofs.Layouts.{name_exactly, stuffing_exactly, service_exactly, short_event_exactly}
use Rattle.delivery.specs.Cable.{cable}
use Rattle.delivery.specs.Satellite.{satellite}
use Rattle.delivery.specs.Terrestrial.{terrestrial}
use Rattle.delivery.specs.declared.cable.Cable.{Cable}
use Rattle.delivery.specs.declared.satellite.Satellite.{Satellite}
use Rattle.delivery.specs.declared.terrestrial.Terrestrial.{Terrestrial}
use Rattle.cabinet.specs.Delivery.{cable_says, satellite_says, terrestrial_says}
use Rattle.cabinet.specs.Texts.{part_says, service_says, short_event_says}
use Rattle.write_delivery.specs.Cable as cable-written
use Rattle.write_delivery.specs.Satellite as satellite-written
use Rattle.write_delivery.specs.Terrestrial as terrestrial-written
use Rattle.write_delivery.proofs.Reverses.{cable_reverse, satellite-reverse, terrestrial-reverse}
use Rattle.write_texts.specs.NetworkName.{network_name_written, name_read}
use Rattle.write_texts.specs.Stuffing.{stuffing_written, stuffing_read}
use Rattle.write_texts.specs.Service.{service_read}
use Rattle.write_texts.specs.ShortEvent.{short_event_read}
use Rattle.write_texts.proofs.Reverses.{name_reverse, stuffing_reverse, service_reverse, short_event_reverse}
use Rattle.desk.specs.Delivery.{cable_given, satellite_given, terrestrial_given}
use Rattle.desk.specs.Texts.{text, name_given, stuffing_given, service_given, short_event_given}
use Rattle.desk.proofs.Fields.{satellite_fields_lem, terrestrial_fields_lem}

module _ (s : List ℕ) (bytes : Bytes s) where
  -- ---- delivery systems

  pub cable_again : (f : Cable) → cable-written.Usual s → cable s ≡ value f → cable_given (cable_says f) ≡ value s
  unfolding cable_given
  cable_again f u e = cable_reverse.writes_back s f bytes u e

  pub satellite_again : (f : Satellite) → satellite-written.Usual s → satellite s ≡ value f
      → satellite_given (satellite_says f) ≡ value s
  unfolding satellite_given
  satellite_again f u e =
      ap (λ r. r >>= satellite-written.satellite_written) (satellite_fields_lem f)
      ∙ satellite-reverse.writes_back s f bytes u e

  pub terrestrial_again : (f : Terrestrial) → terrestrial-written.Usual s → terrestrial s ≡ value f
      → terrestrial_given (terrestrial_says f) ≡ value s
  unfolding terrestrial_given
  terrestrial_again f u e =
      ap (λ r. r >>= terrestrial-written.terrestrial_written) (terrestrial_fields_lem f)
      ∙ terrestrial-reverse.writes_back s f bytes u e

  -- ---- texts, whose parts lie in the descriptor

  text_there : (p : Part) → p.start + p.length ≤ length s → text s (part_says p) ≡ value (bytes_of s p)
  unfolding text
  text_there p h = rw (le-ltb (length s) (p.start + p.length) h)

  pub name_again : (p : Part) → network_name s ≡ value p → name_given s (part_says p) ≡ value s
  unfolding name_given name_read
  name_again p e =
      let (b, framed, at) = (name_exactly s p).0 e in
      let l : length s ≡ 2 + length b = ap length framed ∙ omega arith in
      let start : p.start ≡ 2 = ap (λ q. q.start) at in
      let size : p.length ≡ length b = ap (λ q. q.length) at in
      ap (λ r. r >>= network_name_written) (text_there p (omega arith))
      ∙ name_reverse.writes_back s (bytes_of s p) bytes tt (ap (λ r. r >>= λ q. value (bytes_of s q)) e)

  pub stuffing_again : (p : Part) → stuffing s ≡ value p → stuffing_given s (part_says p) ≡ value s
  unfolding stuffing_given stuffing_read
  stuffing_again p e =
      let (b, framed, at) = (stuffing_exactly s p).0 e in
      let l : length s ≡ 2 + length b = ap length framed ∙ omega arith in
      let start : p.start ≡ 2 = ap (λ q. q.start) at in
      let size : p.length ≡ length b = ap (λ q. q.length) at in
      ap (λ r. r >>= stuffing_written) (text_there p (omega arith))
      ∙ stuffing_reverse.writes_back s (bytes_of s p) bytes tt (ap (λ r. r >>= λ q. value (bytes_of s q)) e)

  -- two texts behind h bytes of a body
  module _ (tag h : ℕ) (body : List ℕ) (framed : s ≡ tag ∷ length body ∷ body) (t : TwoTexts) (x : Texted h body t) where
    both_there : (t.first.start + t.first.length ≤ length s) × (t.second.start + t.second.length ≤ length s)
    both_there =
        let a : ℕ = length x.first in
        let b : ℕ = length x.second in
        let l : length s ≡ 2 + length body = ap length framed ∙ omega arith in
        let inner = length-append x.first (b ∷ x.second) in
        let outer = length-append x.head (a ∷ (x.first ++ (b ∷ x.second))) in
        let f : length body ≡ length (x.head ++ (a ∷ (x.first ++ (b ∷ x.second)))) = ap length x.filled in
        let hs = x.size in
        let first-start : t.first.start ≡ 2 + (h + 1) = ap (λ q. q.first.start) x.places in
        let first-size : t.first.length ≡ a = ap (λ q. q.first.length) x.places in
        let second-start : t.second.start ≡ 2 + (h + 2 + a) = ap (λ q. q.second.start) x.places in
        let second-size : t.second.length ≡ b = ap (λ q. q.second.length) x.places in
        (omega arith, omega arith)

  pub service_again : (f : Service) → read-service.service s ≡ value f → service_given s (service_says f) ≡ value s
  unfolding service_given service_read
  service_again f e =
      let x = (service_exactly s bytes f).0 e in
      let there = both_there 0x48 1 x.body x.framed (read-service.names f) x.texted in
      rw (text_there f.service_provider_name there.0, text_there f.service_name there.1)
      (service_reverse.writes_back s _ bytes tt (ap (λ r. r >>= λ g. value (record {
        service_type = g.service_type;
        service_provider_name = bytes_of s g.service_provider_name;
        service_name = bytes_of s g.service_name;
      })) e))

  pub event_again : (f : ShortEvent) → read-event.short_event s ≡ value f → short_event_given s (short_event_says f) ≡ value s
  unfolding short_event_given short_event_read
  event_again f e =
      let x = (short_event_exactly s bytes f).0 e in
      let there = both_there 0x4D 3 x.body x.framed (read-event.texts f) x.texted in
      rw (text_there f.event_name there.0, text_there f.text there.1)
      (short_event_reverse.writes_back s _ bytes tt (ap (λ r. r >>= λ g. value (record {
        language_code = g.language_code;
        event_name = bytes_of s g.event_name;
        text = bytes_of s g.text;
      })) e))
