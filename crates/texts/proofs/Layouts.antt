-- A descriptor that holds texts is read exactly if the bytes are its tag, its length, its fields in front and its texts.
use Prim.Native.Nat.{ℕ, ◌*◌}
use mathlib.Core.Path.{◌≡◌, refl, sym, ap, ◌∙◌, subst}
use mathlib.Core.Logic.{◌↔◌}
use mathlib.Core.List.{List, [], ◌∷◌}
use native.Mathlib.Omega.{arith}
use lib.ListN.{length, get_or}
use Rattle.wire.specs.Bytes.{Bytes}
use Rattle.wire.specs.Reading.{value}
use Rattle.wire.specs.Number.{number_at}
use Rattle.wire.proofs.NumberLaws.{number_in_front}
use Rattle.wire.proofs.ReadingLaws.{value_is, through}
use Rattle.forms.proofs.Lawful.{bytes_front}
use Rattle.layout.specs.Refusal.{part_at}
use Rattle.layout.specs.Body.{framed}
use Rattle.layout.specs.Texts.{two_texts}
use Rattle.layout.specs.Shapes.{Framed, Texted}
use Rattle.layout.specs.Widths.{bits, kept_of, keptIn, HoldsTexts}
use Rattle.layout.specs.declared.Part.{Part}
use Rattle.layout.specs.declared.texts.TwoTexts.{TwoTexts}
use Rattle.layout.proofs.Accepts.{framed_exactly, texts_exactly}
use Rattle.layout.proofs.WidthLaws.{unpack_spans, whole_span, body_bytes, ◌also◌}
use Rattle.texts.specs.Whole.{whole}
use Rattle.texts.specs.NetworkName.{network_name}
use Rattle.texts.specs.Stuffing.{stuffing}
use Rattle.texts.specs.Service as service
use Rattle.texts.specs.ShortEvent as short-event
use Rattle.texts.specs.declared.service.Service.{Service}
use Rattle.texts.specs.declared.short_event.ShortEvent.{ShortEvent}

-- what stands in front of the texts fills whole bytes
pub service_fills : bits service.layout ≡ 8 * 1
service_fills = refl

pub short_event_fills : bits short-event.layout ≡ 8 * 3
short_event_fills = refl

-- ---- one text to the end

whole_exactly : (tag : ℕ) (s : List ℕ) (p : Part)
    → whole s tag ≡ value p ↔ ((b : List ℕ) × Framed tag s b × (p ≡ part_at 0 (length b)))
unfolding whole
whole_exactly tag s p = (
  λ e. let t = through (framed s tag) _ p e in (t.0, (framed_exactly tag s t.0).0 t.1, sym (value_is t.2)),
  λ x. rw ((framed_exactly tag s x.0).1 x.1) (ap value (sym x.2)),
)

pub name_exactly : (s : List ℕ) (p : Part)
    → network_name s ≡ value p ↔ ((b : List ℕ) × Framed 0x40 s b × (p ≡ part_at 0 (length b)))
unfolding network_name
name_exactly s p = whole_exactly 0x40 s p

pub stuffing_exactly : (s : List ℕ) (p : Part)
    → stuffing s ≡ value p ↔ ((b : List ℕ) × Framed 0x42 s b × (p ≡ part_at 0 (length b)))
unfolding stuffing
stuffing_exactly s p = whole_exactly 0x42 s p

-- ---- a field and two texts

module _ (b : List ℕ) (bytes : Bytes b) (t : TwoTexts) where
  type_in_front : (x : Texted 1 b t) → keptIn service.layout x.head ≡ get_or b 0 0 ∷ []
  unfolding keptIn number_at
  type_in_front x =
      let fb : Bytes x.head = bytes_front x.head _ x.filled bytes in
      ap (kept_of service.layout) (unpack_spans x.head fb service.layout (ap (λ j. 8 * j) (sym x.size)))
      ∙ (whole_span x.head fb 1 0
      ∙ sym (number_in_front 1 x.head _ (omega (arith, x.size)))
      ∙ ap (λ l. get_or l 0 0) (sym x.filled) also refl)

  language_in_front : (x : Texted 3 b t) → keptIn short-event.layout x.head ≡ number_at 3 b 0 ∷ []
  unfolding keptIn
  language_in_front x =
      let fb : Bytes x.head = bytes_front x.head _ x.filled bytes in
      ap (kept_of short-event.layout) (unpack_spans x.head fb short-event.layout (ap (λ j. 8 * j) (sym x.size)))
      ∙ (whole_span x.head fb 3 0
      ∙ sym (number_in_front 3 x.head _ (omega (arith, x.size)))
      ∙ ap (λ l. number_at 3 l 0) (sym x.filled) also refl)

pub service_exactly : (s : List ℕ) → Bytes s → (f : Service)
    → service.service s ≡ value f ↔ HoldsTexts 0x48 service.layout s (f.service_type ∷ []) (service.names f)
unfolding service.service service.fields
service_exactly s bytes f = (
  λ e.
      let t = through (framed s 0x48) _ f e in
      let u = through (two_texts t.0 1) _ f t.2 in
      let fr = (framed_exactly 0x48 s t.0).0 t.1 in
      let x = (texts_exactly 1 t.0 u.0).0 u.1 in
      subst (λ g. HoldsTexts 0x48 service.layout s (g.service_type ∷ []) (service.names g)) (value_is u.2)
      (record {
        body = t.0;
        framed = fr;
        texted = x;
        fields = type_in_front t.0 (body_bytes t.0 fr bytes) u.0 x;
      }),
  λ h.
      let b : List ℕ = h.body in
      let k = sym (type_in_front b (body_bytes b h.framed bytes) (service.names f) h.texted) ∙ h.fields in
      rw ((framed_exactly 0x48 s b).1 h.framed, (texts_exactly 1 b (service.names f)).1 h.texted)
      (ap (λ (l : List ℕ). value (record {
        service_type = get_or l 0 0;
        service_provider_name = f.service_provider_name;
        service_name = f.service_name;
      }))
      k),
)

pub short_event_exactly : (s : List ℕ) → Bytes s → (f : ShortEvent)
    → short-event.short_event s
    ≡ value f ↔ HoldsTexts 0x4D short-event.layout s (f.language_code ∷ []) (short-event.texts f)
unfolding short-event.short_event short-event.fields
short_event_exactly s bytes f = (
  λ e.
      let t = through (framed s 0x4D) _ f e in
      let u = through (two_texts t.0 3) _ f t.2 in
      let fr = (framed_exactly 0x4D s t.0).0 t.1 in
      let x = (texts_exactly 3 t.0 u.0).0 u.1 in
      subst (λ g. HoldsTexts 0x4D short-event.layout s (g.language_code ∷ []) (short-event.texts g)) (value_is u.2)
      (record {
        body = t.0;
        framed = fr;
        texted = x;
        fields = language_in_front t.0 (body_bytes t.0 fr bytes) u.0 x;
      }),
  λ h.
      let b : List ℕ = h.body in
      let k = sym (language_in_front b (body_bytes b h.framed bytes) (short-event.texts f) h.texted) ∙ h.fields in
      rw ((framed_exactly 0x4D s b).1 h.framed, (texts_exactly 3 b (short-event.texts f)).1 h.texted)
      (ap (λ (l : List ℕ). value (record {
        language_code = get_or l 0 0;
        event_name = f.event_name;
        text = f.text;
      }))
      k),
)
