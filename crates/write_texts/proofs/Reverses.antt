-- Each writer is the reverse of its reading.
use Prim.{Unit, tt}
use mathlib.Core.Path.{◌≡◌, refl, sym, ap, ◌∙◌, subst}
use mathlib.Core.Logic.{◌↔◌, ◌⊎◌, inl, inr}
use mathlib.Core.List.{List}
use Prim.Native.Nat.{ℕ, ◌<◌}
use native.Mathlib.Omega.{arith}
use lib.ListN.{length}
use Rattle.wire.specs.Bytes.{Bytes}
use Rattle.wire.specs.Reading.{Reading, value, refused}
use Rattle.wire.proofs.ReadingLaws.{value_is, refused_is, never, through}
use Rattle.clock.specs.Fault.{Answered}
use Rattle.layout.specs.Refusal.{part_at, bytes_of}
use Rattle.layout.specs.Body.{framed}
use Rattle.layout.specs.Shapes.{Framed}
use Rattle.layout.specs.declared.Part.{Part}
use Rattle.layout.proofs.Accepts.{framed_exactly}
use Rattle.layout.proofs.WidthLaws.{body_bytes}
use Rattle.texts.specs.NetworkName.{network_name}
use Rattle.texts.specs.Stuffing.{stuffing}
use Rattle.texts.specs.Service.{service as serviceParts, names}
use Rattle.texts.specs.ShortEvent.{short_event, texts}
use Rattle.texts.specs.declared.service.Service.{Service}
use Rattle.texts.specs.declared.short_event.ShortEvent.{ShortEvent}
use Rattle.texts.proofs.Layouts.{name_exactly, stuffing_exactly, service_exactly, short_event_exactly}
use Rattle.texts.proofs.Handed.{name_is_body, stuffing_is_body}
use Rattle.writing.specs.Written.{headed}
use Rattle.writing.specs.Reverse.{Reverse}
use Rattle.write_texts.specs.Texts.{text_of}
use Rattle.write_texts.specs.NetworkName.{network_name_written, name_read}
use Rattle.write_texts.specs.Stuffing.{stuffing_written, stuffing_read}
use Rattle.write_texts.specs.Service as service
use Rattle.write_texts.specs.ShortEvent as short-event
use Rattle.write_texts.proofs.Headed.{headed_case, headed_framed, framed_headed, framed_bytes}
use Rattle.write_texts.proofs.Numbered.{fields_written, fields_case}
use Rattle.write_texts.proofs.Held.{Shown, Finds, holds_shown, shown_held, written_shown, shown_written, texts_bytes, shown_bytes}

-- ---- one text, or bytes of any value

module _ (tag : ℕ) (byte : tag < 256) (read : List ℕ → Answered Part)
    (exactly : (s : List ℕ) (p : Part) → read s ≡ value p ↔ ((b : List ℕ) × Framed tag s b × (p ≡ part_at 0 (length b))))
    (is_IsBody : (s : List ℕ) (p : Part) → read s ≡ value p → framed s tag ≡ value (bytes_of s p)) where
  text_exactly : (s b : List ℕ) → text_of s (read s) ≡ value b ↔ Framed tag s b
  text_exactly s b = (
    λ e. let t = through (read s) _ b e in (framed_exactly tag s b).0 (is_IsBody s t.0 t.1 ∙ t.2),
    λ f.
        let p : Part = part_at 0 (length b) in
        let r : read s ≡ value p = (exactly s p).1 (b, f, refl) in
        ap (text_of s) r ∙ sym (is_IsBody s p r) ∙ (framed_exactly tag s b).1 f,
  )

  text_reverse : Reverse Bytes (λ s. text_of s (read s)) (headed tag) (λ s. Unit {0})
  text_reverse = record {
    reads_back = λ b s _ e. (text_exactly s b).1 (headed_framed tag b s e).0;
    writes_back = λ s b bytes _ e. framed_headed tag b s ((text_exactly s b).0 e) bytes;
    usual = λ _ _ _ _. tt;
    bytes = λ b s lent e. let x = headed_framed tag b s e in framed_bytes tag b s x.0 byte x.1 lent;
    lent = λ s b bytes e. body_bytes b ((text_exactly s b).0 e) bytes;
    written = λ s b bytes e. (s, framed_headed tag b s ((text_exactly s b).0 e) bytes);
    numbers = λ b k.
        headed_case tag b (λ r. r ≡ refused k → (k ≡ 112) ⊎ (k ≡ 113)) (λ _ e. absurd (never e))
        (λ _ e. inr (sym (refused_is e)));
  }

pub name_reverse : Reverse Bytes name_read network_name_written (λ s. Unit {0})
unfolding name_read network_name_written
name_reverse = text_reverse 0x40 (omega arith) network_name name_exactly name_is_body

pub stuffing_reverse : Reverse Bytes stuffing_read stuffing_written (λ s. Unit {0})
unfolding stuffing_read stuffing_written
stuffing_reverse = text_reverse 0x42 (omega arith) stuffing stuffing_exactly stuffing_is_body

-- ---- a number and two texts

module _ (tag n : ℕ) (byte : tag < 256) {F : Type 0} (number : F → ℕ) (first second : F → List ℕ)
    (read : List ℕ → Answered F) (finds : Finds tag n number first second read) where
  abbrev write : F → Reading (List ℕ)
  write f = fields_written tag n (number f) (first f) (second f)

  module _ (f : F) (s : List ℕ) where
    written_bytes : Bytes (first f) × Bytes (second f) → write f ≡ value s → Bytes s
    written_bytes lent e =
        let x = written_shown tag n (number f) (first f) (second f) s e in
        shown_bytes tag n (number f) (first f) (second f) s x.0 byte x.1 lent.0 lent.1

    read_written : Bytes s → read s ≡ value f → write f ≡ value s
    read_written bytes e = shown_written tag n (number f) (first f) (second f) s ((finds s bytes f).0 e) bytes

  texts_reverse : Reverse (λ f. Bytes (first f) × Bytes (second f)) read write (λ s. Unit {0})
  texts_reverse = record {
    reads_back = λ f s lent e.
        (finds s (written_bytes f s lent e) f).1 (written_shown tag n (number f) (first f) (second f) s e).0;
    writes_back = λ s f bytes _ e. read_written f s bytes e;
    usual = λ _ _ _ _. tt;
    bytes = written_bytes;
    lent = λ s f bytes e. texts_bytes tag n (number f) (first f) (second f) s ((finds s bytes f).0 e) bytes;
    written = λ s f bytes e. (s, read_written f s bytes e);
    numbers = λ f k.
        fields_case tag n (number f) (first f) (second f) (λ r. r ≡ refused k → (k ≡ 112) ⊎ (k ≡ 113))
        (λ _ _ e. absurd (never e)) (λ _ e. inl (sym (refused_is e))) (λ _ _ e. inr (sym (refused_is e)));
  }

pub service_shown : (s : List ℕ) → Bytes s → (f : service.Fields)
    → service.service_read s
    ≡ value f ↔ Shown 0x48 1 s f.service_type f.service_provider_name f.service_name
unfolding service.service_read
service_shown s bytes f = (
  λ e.
      let (g, parts, same) = through (serviceParts s) _ f e in
      subst (λ (x : service.Fields).
      Shown 0x48 1 s x.service_type x.service_provider_name x.service_name) (value_is same)
      (holds_shown 0x48 1 s bytes g.service_type (names g) ((service_exactly s bytes g).0 parts)),
  λ x.
      let v : ℕ = f.service_type in
      let (t, held, one, two) = shown_held 0x48 1 s bytes v f.service_provider_name f.service_name x in
      let g : Service = record { service_type = v; service_provider_name = t.first; service_name = t.second } in
      rw ((service_exactly s bytes g).1 held)
      (λ i. value (record { service_type = v; service_provider_name = one i; service_name = two i })),
)

pub short_event_shown : (s : List ℕ) → Bytes s → (f : short-event.Fields)
    → short-event.short_event_read s ≡ value f ↔ Shown 0x4D 3 s f.language_code f.event_name f.text
unfolding short-event.short_event_read
short_event_shown s bytes f = (
  λ e.
      let (g, parts, same) = through (short_event s) _ f e in
      subst (λ (x : short-event.Fields). Shown 0x4D 3 s x.language_code x.event_name x.text)
      (value_is same)
      (holds_shown 0x4D 3 s bytes g.language_code (texts g) ((short_event_exactly s bytes g).0 parts)),
  λ x.
      let v : ℕ = f.language_code in
      let (t, held, one, two) = shown_held 0x4D 3 s bytes v f.event_name f.text x in
      let g : ShortEvent = record { language_code = v; event_name = t.first; text = t.second } in
      rw ((short_event_exactly s bytes g).1 held)
      (λ i. value (record { language_code = v; event_name = one i; text = two i })),
)

pub service_reverse : Reverse service.Lent service.service_read service.service_written (λ s. Unit {0})
unfolding service.service_written
service_reverse =
    texts_reverse 0x48 1 (omega arith) (λ f. f.service_type) (λ f. f.service_provider_name)
    (λ f. f.service_name) service.service_read service_shown

pub short_event_reverse : Reverse short-event.Lent short-event.short_event_read short-event.short_event_written
    (λ s. Unit {0})
unfolding short-event.short_event_written
short_event_reverse =
    texts_reverse 0x4D 3 (omega arith) (λ f. f.language_code) (λ f. f.event_name) (λ f. f.text)
    short-event.short_event_read short_event_shown
