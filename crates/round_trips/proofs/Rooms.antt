-- What a call does to the room.
use Prim.Native.Nat.{ℕ, ◌≤◌}
use mathlib.Core.Path.{◌≡◌, refl, sym, ◌∙◌, subst}
use mathlib.Core.List.{List}
use native.Mathlib.Omega.{arith}
use lib.ListN.{length}
use Rattle.std.specs.Prelude.{Ok}
use Rattle.wire.specs.Bytes.{Bytes}
use Rattle.forms.specs.Outcome.{Begins}
use Rattle.forms.proofs.Outcomes.{success_writes}
use Rattle.turn.specs.Turn.{Outcome, gives, refuses, to_section, to_sheet, wrote, refused_with, answer, roomAfter}
use Rattle.turn.specs.Promise.{ToSection, ToSheet}
use Rattle.round_trips.specs.Rooms.{Written, SectionIsWritten, SheetIsWritten, RefusedSectionUnaltered, RefusedSheetUnaltered}
use Rattle.round_trips.proofs.RoundTrips as trips

-- what is told to be written is what the outcome x gives
pub record Given (x : Outcome) (most n : ℕ) (o o' : List ℕ) : Type 0 where
  pub bytes : List ℕ
  pub is : x ≡ gives bytes
  pub in_room : Written most n bytes o o'

given : (most n : ℕ) (o o' : List ℕ) (x : Outcome)
    → ((t : List ℕ) → x ≡ gives t → (length t ≤ most) × (most ≤ length o))
    → wrote n ≡ answer x → o' ≡ roomAfter o x → Given x most n o o'
given most n o o' (gives t) fits e f =
    let h = fits t refl in
    let b = subst (Begins t o) (sym f) (success_writes o t (omega arith)).1 in
    let w : Written most (length t) t o o' =
    record { size = refl; small = h.0; first = b.first; later = b.later; same_length = b.same_length } in
    record { bytes = t; is = refl; in_room = subst (λ m. Written most m t o o') (sym cc) w }
given most n o o' (refuses k p) fits e f = let z : ◌≡◌ {A = ℕ} 0 1 = cc in absurd (omega arith)

pub section_given : (s o o' : List ℕ) (n : ℕ) → Bytes s → ToSection s o (Ok n) o'
    → Given (to_section (length o) s) 4096 n o o'
section_given s o o' n w a =
    given 4096 n o o' (to_section (length o) s)
    (λ t e. (trips.section_at_most (length o) s t w e, (trips.from_sheet (length o) s t w e).room)) a.0 a.1

pub sheet_given : (s o o' : List ℕ) (n : ℕ) → Bytes s → ToSheet s o (Ok n) o'
    → Given (to_sheet (length o) s) 5120 n o o'
sheet_given s o o' n w a =
    given 5120 n o o' (to_sheet (length o) s)
    (λ t e. (trips.sheet_at_most (length o) s t w e, (trips.from_section (length o) s t w e).room)) a.0 a.1

pub section_is_written : SectionIsWritten
section_is_written s o o' n w a =
    let g = section_given s o o' n w a in
    let x = trips.from_sheet (length o) s g.bytes w g.is in
    (x.content, x.shown.ok, x.shown.shows, subst (λ l. Written 4096 n l o o') x.made g.in_room)

pub sheet_is_written : SheetIsWritten
sheet_is_written s o o' n w a =
    let g = sheet_given s o o' n w a in
    let x = trips.from_section (length o) s g.bytes w g.is in
    (x.is_accepted_lem, (x.content, x.is, x.reads, subst (λ l. Written 5120 n l o o') x.made g.in_room))

unaltered : (o o' : List ℕ) (x : Outcome) (k q : ℕ) → o' ≡ roomAfter o x → answer x ≡ refused_with k q → o' ≡ o
unaltered o o' (gives l) k q e f = let z : ◌≡◌ {A = ℕ} 0 1 = cc in absurd (omega arith)
unaltered o o' (refuses j p) k q e f = e

pub refused_section_unaltered : RefusedSectionUnaltered
refused_section_unaltered s o o' r k q a e = unaltered o o' (to_section (length o) s) k q a.1 (sym a.0 ∙ e)

pub refused_sheet_unaltered : RefusedSheetUnaltered
refused_sheet_unaltered s o o' r k q a e = unaltered o o' (to_sheet (length o) s) k q a.1 (sym a.0 ∙ e)
