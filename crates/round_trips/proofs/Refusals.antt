-- Demand 1, of both turns: what is refused, and what is not.
use Prim.Native.Nat.{ℕ, ◌+◌, ◌<◌, ◌≤◌}
use mathlib.Core.Path.{◌≡◌, refl, sym, ap, ◌∙◌, subst}
use mathlib.Core.Logic.{◌↔◌}
use mathlib.Core.List.{List}
use native.Mathlib.Omega.{arith}
use native.Mathlib.Decide.{dec_lt}
use lib.ListN.{length}
use Rattle.std.specs.Prelude.{Ok, Err}
use Rattle.wire.specs.Bytes.{Bytes}
use Rattle.forms.proofs.Lawful.{read_on}
use Rattle.wire.specs.Reading as reading
use Rattle.verdict.specs.Verdict as verdict
use Rattle.section.specs.Reading.{judged}
use Rattle.section.proofs.Exactly as judging
use Rattle.sheet.specs.Content.{Content}
use Rattle.sheet.specs.Section.{section_length, section_of, content_of, read_sheet}
use Rattle.sheet.specs.Reads.{judged_for, judged_sheet}
use Rattle.sheet.specs.Faults.{AcceptedSheet}
use Rattle.sheet.proofs.Exactly as sheets
use Rattle.sheet.proofs.SectionSize.{section_length_lem}
use Rattle.turn.specs.Turn.{Outcome, gives, refuses, to_section, sheet_from, sheet_if, to_sheet, Told, wrote, refused_with, answer}
use Rattle.turn.specs.Promise.{ToSection, ToSheet}
use Rattle.turn.specs.Answers.{toldSection, toldSheet}
use Rattle.round_trips.specs.Refusals as refusals
use Rattle.round_trips.specs.Refusals.{SectionRefusal, SheetRefusal, SectionRefusedExactlyIf, SectionMadeExactlyIf, SheetRefusedExactlyIf, SheetMadeExactlyIf, SectionRoomFirst, SheetRoomFirst}
use Rattle.contents.proofs.Held.{held}
use Rattle.turn.proofs.WholeLaws.{section_no_room, section_refused, section_made, sheet_no_room, sheet_large, sheet_made}
use Rattle.round_trips.proofs.Numbers.{sheet_numbers, section_numbers}
use Rattle.round_trips.proofs.Unique.{section_once, sheet_once}
use Rattle.round_trips.proofs.RoundTrips.{no_gives, from_sheet, from_section}
use Rattle.round_trips.proofs.Rooms.{section_given, sheet_given}
use Rattle.turn.specs.declared.SectionRefusal.TheVariants as section
use Rattle.turn.specs.declared.SheetRefusal.TheVariants as sheet

-- ---- what a writer tells is what its outcome is

pub not_both : {n k q : ℕ} → wrote n ≡ refused_with k q → ⊥
not_both e = let z : ◌≡◌ {A = ℕ} 0 1 = cc in omega arith

-- two refusals that are the same
moved : {j p k q : ℕ} (R : ℕ → ℕ → Type 0) → refuses j p ≡ refuses k q → R j p → R k q
moved {j} {p} {k} {q} R e r =
    let a : j ≡ k = cc in let b : p ≡ q = cc in subst (λ y. R k y) b (subst (λ y. R y p) a r)

-- it tells a refusal exactly if its outcome is that refusal
told_exactly : {R : ℕ → ℕ → Type 0} {t : Told} (x : Outcome) → t ≡ answer x → ((k q : ℕ) → x ≡ refuses k q → R k q)
    → ((k q : ℕ) → R k q → x ≡ refuses k q) → (k q : ℕ) → (t ≡ refused_with k q) ↔ R k q
told_exactly (gives l) e f g k q = (λ h. absurd (not_both (sym e ∙ h)), λ r. e ∙ ap answer (g k q r))
told_exactly (refuses j p) e f g k q =
    (λ h. let a : refused_with j p ≡ refused_with k q = sym e ∙ h in f k q cc, λ r. e ∙ ap answer (g k q r))

-- ---- a sheet into a section

section_refusal : (n : ℕ) (s : List ℕ) → Bytes s → (k q : ℕ) → to_section n s ≡ refuses k q → SectionRefusal n s k q
section_refusal n s w k q e = go (dec_lt n 4096)
  where
    read : 4096 ≤ n → (x : reading.Reading ℕ) → judged_sheet s ≡ x → SectionRefusal n s k q
    read h (reading.value m) f = absurd (no_gives (sym e ∙ (section_made n s m w h f).gives))
    read h (reading.refused j) f =
        moved (SectionRefusal n s) (sym (section_refused n s j h f) ∙ e)
        (refusals.SectionRefusal.faulty h ((sheets.refused_exactly_if s w j).0 f))

    go : Dec (n < 4096) → SectionRefusal n s k q
    go (yes h) = moved (SectionRefusal n s) (sym (section_no_room n s h) ∙ e) (refusals.SectionRefusal.small h)
    go (no h) = read (omega arith) (judged_sheet s) refl

section_refusal_told : (n : ℕ) (s : List ℕ) → Bytes s → (k q : ℕ) → SectionRefusal n s k q → to_section n s ≡ refuses k q
section_refusal_told n s w k q (refusals.SectionRefusal.small h) = section_no_room n s h
section_refusal_told n s w k q (refusals.SectionRefusal.faulty h f) =
    section_refused n s k h ((sheets.refused_exactly_if s w k).1 f)

pub section_refused_exactly_if : SectionRefusedExactlyIf
section_refused_exactly_if s o o' r w p =
    told_exactly (to_section (length o) s) p.0 (section_refusal (length o) s w) (section_refusal_told (length o) s w)

-- an accepted sheet, and its section_length
accepted_reading : (s : List ℕ) (c : Content) → read_sheet s ≡ reading.value c → judged_sheet s ≡ reading.value (section_length c)
unfolding judged_for
accepted_reading s c e = read_on _ e

pub section_made_exactly_if : SectionMadeExactlyIf
section_made_exactly_if s o o' r w p m = (forth, back)
  where
    forth : r ≡ Ok m → (4096 ≤ length o) × ((n : ℕ) × AcceptedSheet s n × (m ≡ 3 + n))
    forth e =
        let g = section_given s o o' m w (subst (λ a. ToSection s o a o') e p) in
        let x = from_sheet (length o) s g.bytes w g.is in
        let c = x.content in (
          x.room,
          (
            section_length c,
            (sheets.accepted_exactly_if s w (section_length c)).0 (accepted_reading s c x.reads),
            sym g.in_room.size ∙ ap length x.made ∙ section_length_lem c x.shown.holds.known,
          ),
        )

    back : (4096 ≤ length o) × ((n : ℕ) × AcceptedSheet s n × (m ≡ 3 + n)) → r ≡ Ok m
    back (h, (n, a, e)) =
        let x = section_made (length o) s n w h ((sheets.accepted_exactly_if s w n).1 a) in
        let l = section_length_lem x.content (held s x.content w x.reads).holds.known in
        let i : length (section_of x.content) ≡ m = l ∙ ap (λ y. 3 + y) (sym x.length_is) ∙ sym e in
        section_once r (Ok m) (p.0 ∙ ap answer x.gives ∙ ap wrote i)

pub section_room_first : SectionRoomFirst
section_room_first s o o' r w p = (
  λ e. go ((section_refused_exactly_if s o o' r w p 21 0).0 (ap toldSection e)),
  λ h. section_once r (Err section.Room) (p.0 ∙ ap answer (section_no_room (length o) s h)),
)
  where
    go : SectionRefusal (length o) s 21 0 → length o < 4096
    go (refusals.SectionRefusal.small h) = h
    go (refusals.SectionRefusal.faulty h f) = let n = sheet_numbers f in absurd (omega arith)

-- ---- a section into a sheet

sheet_refusal : (n : ℕ) (s : List ℕ) (k q : ℕ) → to_sheet n s ≡ refuses k q → SheetRefusal n s k q
sheet_refusal n s k q e = go (dec_lt n 5120)
  where
    read : 5120 ≤ n → (x : verdict.Said) → judged s ≡ x → sheet_if x (sheet_from (content_of s)) ≡ refuses k q → SheetRefusal n s k q
    read h verdict.accepted f i = absurd (no_gives (sym i))
    read h (verdict.refused j p) f i =
        moved (SheetRefusal n s) i (refusals.SheetRefusal.faulty h ((judging.refused_exactly_if s j p).0 f))

    go : Dec (n < 5120) → SheetRefusal n s k q
    go (yes h) = moved (SheetRefusal n s) (sym (sheet_no_room n s h) ∙ e) (refusals.SheetRefusal.small h)
    go (no h) = let g : 5120 ≤ n = omega arith in read g (judged s) refl (sym (sheet_large n s g) ∙ e)

sheet_refusal_told : (n : ℕ) (s : List ℕ) (k q : ℕ) → SheetRefusal n s k q → to_sheet n s ≡ refuses k q
sheet_refusal_told n s k q (refusals.SheetRefusal.small h) = sheet_no_room n s h
sheet_refusal_told n s k q (refusals.SheetRefusal.faulty h f) =
    sheet_large n s h ∙ ap (λ x. sheet_if x (sheet_from (content_of s))) ((judging.refused_exactly_if s k q).1 f)

pub sheet_refused_exactly_if : SheetRefusedExactlyIf
sheet_refused_exactly_if s o o' r w p =
    told_exactly (to_sheet (length o) s) p.0 (sheet_refusal (length o) s) (sheet_refusal_told (length o) s)

pub sheet_made_exactly_if : SheetMadeExactlyIf
sheet_made_exactly_if s o o' r w p = (
  λ e.
      let g = sheet_given s o o' e.0 w (subst (λ a. ToSheet s o a o') e.1 p) in
      let x = from_section (length o) s g.bytes w g.is in
      (x.room, (judging.accepted_exactly_if s).0 x.is_accepted_lem),
  λ x.
      let y = sheet_made (length o) s w x.0 ((judging.accepted_exactly_if s).1 x.1) in
      (_, sheet_once r (Ok _) (p.0 ∙ ap answer y.gives)),
)

pub sheet_room_first : SheetRoomFirst
sheet_room_first s o o' r w p = (
  λ e. go ((sheet_refused_exactly_if s o o' r w p 21 0).0 (ap toldSheet e)),
  λ h. sheet_once r (Err sheet.Room) (p.0 ∙ ap answer (sheet_no_room (length o) s h)),
)
  where
    go : SheetRefusal (length o) s 21 0 → length o < 5120
    go (refusals.SheetRefusal.small h) = h
    go (refusals.SheetRefusal.faulty h f) = let n = (section_numbers f).1 in absurd (omega arith)
