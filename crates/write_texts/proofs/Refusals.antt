-- Which inputs are refused, and by which number.
use mathlib.Core.Path.{◌≡◌, refl, sym, ap, ◌∙◌}
use mathlib.Core.Logic.{◌↔◌}
use mathlib.Core.Bool.{true}
use mathlib.Core.List.{List, [], ◌∷◌}
use Prim.Native.Nat.{ℕ, ◌^◌, ◌*◌, ◌<◌, ◌≤◌}
use native.Mathlib.Omega.{arith}
use lib.ListN.{length, get_or, drop}
use Rattle.wire.specs.Bytes.{Bytes}
use Rattle.wire.specs.Reading.{value, refused}
use Rattle.wire.proofs.ReadingLaws.{refused_is, never}
use Rattle.clock.specs.Fault.{Answered}
use Rattle.clock.proofs.Reported.{no_bytes}
use Rattle.texts.specs.Service.{layout as serviceLayout}
use Rattle.texts.specs.ShortEvent.{layout as eventLayout}
use Rattle.writing.specs.Fill.{below, capacities}
use Rattle.writing.specs.Written.{headed}
use Rattle.writing.specs.Reverse.{NoField, FieldExactly}
use Rattle.writing.proofs.Made.{below_first, below_also}
use Rattle.writing.proofs.Answers.{headed-value, headed_long}
use Rattle.write_texts.specs.Texts.{TooLong}
use Rattle.write_texts.specs.NetworkName.{network_name_written}
use Rattle.write_texts.specs.Stuffing.{stuffing_written}
use Rattle.write_texts.specs.Service as service
use Rattle.write_texts.specs.ShortEvent as short-event
use Rattle.write_texts.proofs.Headed.{headed_case, headed_framed}
use Rattle.write_texts.proofs.Numbered.{size_of, numbered, one_number, fields_written, fields_case}
use Rattle.write_texts.proofs.Held.{Shown, Finds, shown_bytes}
use Rattle.write_texts.proofs.Reverses.{service_shown, short_event_shown}

-- ---- one text, or bytes of any value

body_long_exactly : (tag : ℕ) (body : List ℕ) → headed tag body ≡ refused 113 ↔ 255 < length body
body_long_exactly tag body = (
  headed_case tag body (λ r. r ≡ refused 113 → 255 < length body) (λ _ e. absurd (never e)) (λ h _. h),
  headed_long tag body,
)

-- "113 body over 255 bytes"
pub name_long_exactly : (name : List ℕ) → network_name_written name ≡ refused 113 ↔ 255 < length name
unfolding network_name_written
name_long_exactly name = body_long_exactly 0x40 name

pub stuffing_long_exactly : (bytes : List ℕ) → stuffing_written bytes ≡ refused 113 ↔ 255 < length bytes
unfolding stuffing_written
stuffing_long_exactly bytes = body_long_exactly 0x42 bytes

-- a body of exactly 255 bytes passes
pub name_full : (name : List ℕ) → length name ≡ 255 → network_name_written name ≡ value (0x40 ∷ 255 ∷ name)
unfolding network_name_written
name_full name l = headed-value 0x40 name (omega arith) ∙ ap (λ k. value (0x40 ∷ k ∷ name)) l

-- "The stuffing descriptor keeps its body as given"
pub stuffing_kept : (bytes s : List ℕ) → stuffing_written bytes ≡ value s → drop 2 s ≡ bytes
unfolding stuffing_written
stuffing_kept bytes s e = ap (drop 2) (headed_framed 0x42 bytes s e).0

-- ---- a number and two texts

other_number : ◌≡◌ {A = ℕ} 112 113 → ⊥
other_number e = omega arith

module _ (tag n v : ℕ) (first second : List ℕ) where
  fields_long_exactly : fields_written tag n v first second
      ≡ refused 113 ↔ (below (v ∷ []) (capacities (one_number n)) ≡ true) × (255 < size_of n first second)
  unfolding below
  fields_long_exactly = (
    fields_case tag n v first second
        (λ r. r ≡ refused 113 → (below (v ∷ []) (capacities (one_number n)) ≡ true) × (255 < size_of n first second))
        (λ _ _ e. absurd (never e)) (λ _ e. absurd (other_number (refused_is e)))
        (λ h l _. (below_also v (2 ^ (8 * n)) [] [] h refl, l)),
    λ x.
        let h = (below_first v (2 ^ (8 * n)) [] [] x.0).0 in
        let l = x.1 in
        fields_case tag n v first second (λ r. r ≡ refused 113) (λ _ short. absurd (omega arith))
        (λ outside. absurd (omega arith)) (λ _ _. refl),
  )

-- "113 body over 255 bytes"
pub service_long_exactly : (f : service.Fields)
    → service.service_written f
    ≡ refused 113 ↔ TooLong serviceLayout (service.numbers f) f.service_provider_name f.service_name
unfolding service.service_written
service_long_exactly f =
    fields_long_exactly 0x48 1 f.service_type f.service_provider_name f.service_name

pub short_event_long_exactly : (f : short-event.Fields)
    → short-event.short_event_written f
    ≡ refused 113 ↔ TooLong eventLayout (short-event.numbers f) f.event_name f.text
unfolding short-event.short_event_written
short_event_long_exactly f = fields_long_exactly 0x4D 3 f.language_code f.event_name f.text

module _ (tag n : ℕ) (byte : tag < 256) (small : n ≤ 253) {F : Type 0} (number : F → ℕ) (first second : F → List ℕ)
    (read : List ℕ → Answered F) (finds : Finds tag n number first second read) (bare : ℕ → F)
    (is-bare : (P : ℕ → List ℕ → List ℕ → Type 0) (v : ℕ) → P v [] []
    → P (number (bare v)) (first (bare v)) (second (bare v))) where
  -- a number inside its layout is that of a descriptor with empty texts
  bare_read : (v : ℕ) → v < 2 ^ (8 * n) → let body = numbered n v [] [] in let s = tag ∷ length body ∷ body in
      Bytes s × (read s ≡ value (bare v))
  bare_read v h =
      let body : List ℕ = numbered n v [] [] in
      let s : List ℕ = tag ∷ length body ∷ body in
      let bytes : Bytes s = shown_bytes tag n v [] [] s (refl, h) byte (omega arith) no_bytes no_bytes in
      (bytes, (finds s bytes (bare v)).1 (is-bare (Shown tag n s) v (refl, h)))

  module _ (f : F) where
    abbrev Outside : Type 0
    Outside = (i : ℕ) × NoField read (λ g. number g ∷ []) i (get_or (number f ∷ []) i 0)

    not_outside : number f < 2 ^ (8 * n) → Outside → ⊥
    not_outside h (i, none) =
        let v : ℕ = number f in
        let (bytes, r) = bare_read v h in
        none _ (bare v) bytes r (is-bare (λ u _ _. get_or (u ∷ []) i 0 ≡ get_or (v ∷ []) i 0) v refl)

    field_exactly : fields_written tag n (number f) (first f) (second f) ≡ refused 112 ↔ Outside
    field_exactly = (
      fields_case tag n (number f) (first f) (second f) (λ r. r ≡ refused 112 → Outside) (λ _ _ e. absurd (never e))
          (λ h _. (0, λ s g bytes r e. let l = ((finds s bytes g).0 r).1 in omega arith))
          (λ _ _ e. absurd (other_number (sym (refused_is e)))),
      λ x.
          fields_case tag n (number f) (first f) (second f) (λ r. r ≡ refused 112) (λ h _. absurd (not_outside h x))
          (λ _. refl) (λ h _. absurd (not_outside h x)),
    )

-- "112 a field outside its layout"
pub service_field_exactly : FieldExactly service.Lent service.service_read service.service_written service.numbers
unfolding service.service_written
service_field_exactly f _ =
    field_exactly 0x48 1 (omega arith) (omega arith) (λ f. f.service_type) (λ f. f.service_provider_name)
    (λ f. f.service_name) service.service_read service_shown
    (λ v. record { service_type = v; service_provider_name = []; service_name = [] }) (λ P v x. x) f

pub short_event_field_exactly : FieldExactly short-event.Lent short-event.short_event_read short-event.short_event_written
    short-event.numbers
unfolding short-event.short_event_written
short_event_field_exactly f _ =
    field_exactly 0x4D 3 (omega arith) (omega arith) (λ f. f.language_code) (λ f. f.event_name) (λ f. f.text)
    short-event.short_event_read short_event_shown (λ v. record { language_code = v; event_name = []; text = [] })
    (λ P v x. x) f
