-- Demand 2's last sentence for whoever keeps the promises of `lohitunga_to_section` and `lohitunga_to_sheet`.
use Prim.{Unit, tt}
use Prim.Native.Nat.{ℕ, ◌<◌, ◌≤◌}
use mathlib.Core.Path.{◌≡◌, refl, sym, ap, ap₂, ◌∙◌}
use mathlib.Core.Logic.{◌↔◌}
use mathlib.Core.List.{List}
use mathlib.Core.Bool.{Bool, true, false}
use native.Mathlib.Omega.{arith}
use lib.ListN.{length, take}
use lib.Dec.{ltb}
use borrow.Author.Tests.{ltb-false, lt-ltb, le-ltb}
use Rattle.std.specs.Prelude.{if◌then◌else◌}
use Rattle.wire.specs.Reading as reading
use Rattle.wire.proofs.IfLaws.{if-case}
use Rattle.verdict.specs.Verdict as verdict
use Rattle.section.specs.Reading.{judged}
use Rattle.section.proofs.Exactly.{refused_exactly_if}
use Rattle.sheet.specs.Content.{Content}
use Rattle.sheet.specs.Section.{content_of, read_sheet}
use Rattle.turn.specs.Turn.{Outcome, gives, refuses, section_from, to_section, sheet_from, sheet_if, to_sheet, answer, roomAfter}
use Rattle.round_trips.proofs.RoundTrips as trips
use Rattle.turn.proofs.WholeLaws.{take_put}
use Rattle.cabinet.specs.Sheets.{section_says, sheet_says}
use Rattle.cabinet.specs.declared.sheets.SectionAnswer.{SectionAnswer}
use Rattle.cabinet.specs.declared.sheets.SheetAnswer.{SheetAnswer}
use Rattle.calls.specs.Sheets.{SheetAndBack, SectionAndBack, RefusalLeaves, RoomFirst, SheetRefusesExactlyIf}
use Rattle.calls.proofs.Refusals.{sheet_refusal, first_numbered}

-- ---- the number 0 is no refusal's

abbrev Numbered : Outcome → Type 0
Numbered (gives l) = Unit {0}
Numbered (refuses k p) = k ≡ 0 → ⊥

section_from_numbered : (s : List ℕ) (x : reading.Reading Content) → read_sheet s ≡ x → Numbered (section_from x)
section_from_numbered s (reading.value c) e = tt
section_from_numbered s (reading.refused k) e = sheet_refusal s k e

section_numbered : (n : ℕ) (s : List ℕ) → Numbered (to_section n s)
unfolding to_section
section_numbered n s =
    if-case Numbered (ltb n 4096) (λ _ e. omega arith) (λ _. section_from_numbered s (read_sheet s) refl)

sheet_if_numbered : (s l : List ℕ) (v : verdict.Said) → judged s ≡ v → Numbered (sheet_if v l)
sheet_if_numbered s l verdict.accepted e = tt
sheet_if_numbered s l (verdict.refused k p) e = first_numbered ((refused_exactly_if s k p).0 e)

sheet_numbered : (n : ℕ) (s : List ℕ) → Numbered (to_sheet n s)
unfolding to_sheet
sheet_numbered n s =
    if-case Numbered (ltb n 5120) (λ _ e. omega arith)
    (λ _. sheet_if_numbered s (sheet_from (content_of s)) (judged s) refl)

-- an outcome that gives bytes, so many
record Gave (x : Outcome) (n : ℕ) : Type 0 where
  bytes : List ℕ
  is : x ≡ gives bytes
  size : length bytes ≡ n

section_gave : (x : Outcome) → Numbered x → (a : SectionAnswer) → a ≡ section_says (answer x) → a.number ≡ 0
    → Gave x a.size
section_gave (gives l) h a e z = record { bytes = l; is = refl; size = sym (ap (λ (y : SectionAnswer). y.size) e) }
section_gave (refuses k p) h a e z = absurd (h (sym (ap (λ (y : SectionAnswer). y.number) e) ∙ z))

sheet_gave : (x : Outcome) → Numbered x → (a : SheetAnswer) → a ≡ sheet_says (answer x) → a.number ≡ 0
    → Gave x a.size
sheet_gave (gives l) h a e z = record { bytes = l; is = refl; size = sym (ap (λ (y : SheetAnswer). y.size) e) }
sheet_gave (refuses k p) h a e z = absurd (h (sym (ap (λ (y : SheetAnswer). y.number) e) ∙ z))

-- ---- the room is large enough where bytes are given

section_room : (n : ℕ) (s t : List ℕ) → to_section n s ≡ gives t → 4096 ≤ n
unfolding to_section
section_room n s t e = go (ltb n 4096) refl e
  where
    go : (b : Bool) → ltb n 4096 ≡ b → (if b then refuses 21 0 else section_from (read_sheet s)) ≡ gives t → 4096 ≤ n
    go true q f = let z : ◌≡◌ {A = ℕ} 0 1 = cc in absurd (omega arith)
    go false q f = ltb-false n 4096 q

sheet_room : (n : ℕ) (s t : List ℕ) → to_sheet n s ≡ gives t → 5120 ≤ n
unfolding to_sheet
sheet_room n s t e = go (ltb n 5120) refl e
  where
    go : (b : Bool) → ltb n 5120 ≡ b
        → (if b then refuses 21 0 else sheet_if (judged s) (sheet_from (content_of s))) ≡ gives t → 5120 ≤ n
    go true q f = let z : ◌≡◌ {A = ℕ} 0 1 = cc in absurd (omega arith)
    go false q f = ltb-false n 5120 q

-- the first n bytes of the room are those given
first_given : (o o' : List ℕ) (x : Outcome) (n : ℕ) (g : Gave x n) → length g.bytes ≤ length o → o' ≡ roomAfter o x
    → take n o' ≡ g.bytes
first_given o o' x n g h e = ap₂ take (sym g.size) (e ∙ ap (roomAfter o) g.is) ∙ take_put o g.bytes h

-- ---- the statements

pub sheet_and_back : SheetAndBack
sheet_and_back s o o' p p' a b w (tells, leaves) z big (tells', leaves') =
    let x = to_section (length o) s in
    let g = section_gave x (section_numbered (length o) s) a tells z in
    let m = trips.section_at_most (length o) s g.bytes w g.is in
    let k = section_room (length o) s g.bytes g.is in
    let t : take a.size o' ≡ g.bytes = first_given o o' x a.size g (omega arith) leaves in
    let y = trips.sheet_and_back (length o) (length p) s g.bytes w big g.is in
    let back : to_sheet (length p) (take a.size o') ≡ gives s = ap (to_sheet (length p)) t ∙ y.1 in
    let small = trips.accepted_sheet_at_most (length o) s g.bytes w g.is in
    let told = tells' ∙ ap (λ (u : Outcome). sheet_says (answer u)) back in (
      ap judged t ∙ y.0,
      ap (λ (u : SheetAnswer). u.number) told,
      ap (λ (u : SheetAnswer). u.size) told,
      ap (take (length s)) (leaves' ∙ ap (roomAfter p) back) ∙ take_put p s (omega arith),
    )

pub section_and_back : SectionAndBack
section_and_back s o o' p p' a b w ones (tells, leaves) z big (tells', leaves') =
    let x = to_sheet (length o) s in
    let g = sheet_gave x (sheet_numbered (length o) s) a tells z in
    let m = trips.sheet_at_most (length o) s g.bytes w g.is in
    let k = sheet_room (length o) s g.bytes g.is in
    let t : take a.size o' ≡ g.bytes = first_given o o' x a.size g (omega arith) leaves in
    let y = trips.section_and_back (length p) (length o) s g.bytes w big ones g.is in
    let back : to_section (length p) (take a.size o') ≡ gives s = ap (to_section (length p)) t ∙ y in
    let small = trips.accepted_section_at_most (length o) s g.bytes w g.is in
    let told = tells' ∙ ap (λ (u : Outcome). section_says (answer u)) back in (
      ap (λ (u : SectionAnswer). u.number) told,
      ap (λ (u : SectionAnswer). u.size) told,
      ap (take (length s)) (leaves' ∙ ap (roomAfter p) back) ∙ take_put p s (omega arith),
    )

section_leaves : (o : List ℕ) (x : Outcome) (a : SectionAnswer) → a ≡ section_says (answer x) → (a.number ≡ 0 → ⊥)
    → roomAfter o x ≡ o
section_leaves o (gives l) a e n = absurd (n (ap (λ (u : SectionAnswer). u.number) e))
section_leaves o (refuses k p) a e n = refl

sheet_leaves : (o : List ℕ) (x : Outcome) (a : SheetAnswer) → a ≡ sheet_says (answer x) → (a.number ≡ 0 → ⊥)
    → roomAfter o x ≡ o
sheet_leaves o (gives l) a e n = absurd (n (ap (λ (u : SheetAnswer). u.number) e))
sheet_leaves o (refuses k p) a e n = refl

pub refusal_leaves : RefusalLeaves
refusal_leaves = (
  λ s o o' a x n. x.1 ∙ section_leaves o (to_section (length o) s) a x.0 n,
  λ s o o' a x n. x.1 ∙ sheet_leaves o (to_sheet (length o) s) a x.0 n,
)

section_no_room : (n : ℕ) (s : List ℕ) → n < 4096 → to_section n s ≡ refuses 21 0
unfolding to_section
section_no_room n s h = rw (lt-ltb n 4096 h)

sheet_no_room : (n : ℕ) (s : List ℕ) → n < 5120 → to_sheet n s ≡ refuses 21 0
unfolding to_sheet
sheet_no_room n s h = rw (lt-ltb n 5120 h)

pub room_first : RoomFirst
room_first = (
  λ s o o' a x h. ap (λ (u : SectionAnswer). u.number) x.0
      ∙ ap (λ (y : Outcome). (section_says (answer y)).number) (section_no_room (length o) s h),
  λ s o o' a x h.
      let e = sheet_no_room (length o) s h in (
        ap (λ (u : SheetAnswer). u.number) x.0 ∙ ap (λ (y : Outcome). (sheet_says (answer y)).number) e,
        ap (λ (u : SheetAnswer). u.place) x.0 ∙ ap (λ (y : Outcome). (sheet_says (answer y)).place) e,
      ),
)

if-refused : (v : verdict.Said) (l : List ℕ) (a : SheetAnswer) → a ≡ sheet_says (answer (sheet_if v l)) → (k p : ℕ)
    → (k ≡ 0 → ⊥)
    → ((a.number ≡ k) × (a.place ≡ p)) ↔ (v ≡ verdict.refused k p)
if-refused verdict.accepted l a e k p n = (
  λ h. absurd (n (sym h.0 ∙ ap (λ (u : SheetAnswer). u.number) e)),
  λ h. let z : ◌≡◌ {A = ℕ} 0 1 = cc in absurd (omega arith),
)
if-refused (verdict.refused j q) l a e k p n =
    let number = ap (λ (u : SheetAnswer). u.number) e in
    let place = ap (λ (u : SheetAnswer). u.place) e in
    (λ h. ap₂ verdict.refused (sym number ∙ h.0) (sym place ∙ h.1), λ h. (number ∙ cc, place ∙ cc))

pub sheet_refuses_exactly_if : SheetRefusesExactlyIf
unfolding to_sheet
sheet_refuses_exactly_if s o o' a x big k p n =
    let e = x.0
    ∙ ap (λ b. sheet_says (answer (if b then refuses 21 0 else sheet_if (judged s) (sheet_from (content_of s)))))
    (le-ltb (length o) 5120 big) in
    let y = if-refused (judged s) (sheet_from (content_of s)) a e k p n in
    let z = refused_exactly_if s k p in
    (λ h. z.0 (y.0 h), λ f. y.1 (z.1 f))
