-- Both turns, by what they give: "An accepted sheet made into a section and back is the same bytes; an accepted section
-- made into a sheet and back is too, if its reserved bits were ones."
use Prim.Native.Nat.{ℕ, ◌≤◌}
use mathlib.Core.Path.{◌≡◌, refl, sym, ap, ◌∙◌, subst}
use mathlib.Core.List.{List}
use native.Mathlib.Omega.{arith}
use borrow.Author.Tests.{ltb-false}
use lib.ListN.{length}
use lib.Dec.{ltb}
use Rattle.std.specs.Prelude.{if◌then◌else◌}
use Rattle.wire.specs.Bytes.{Bytes}
use Rattle.wire.proofs.IfLaws.{if-case}
use Rattle.wire.specs.Reading as reading
use Rattle.verdict.specs.Verdict as verdict
use Rattle.section.specs.Reading.{judged}
use Rattle.sheet.specs.Content.{Content}
use Rattle.sheet.specs.Sheet.{sheet_of}
use Rattle.sheet.specs.Section.{section_of, content_of, read_sheet}
use Rattle.contents.specs.Ones.{OnesIn, ReservedWereOnes}
use Rattle.contents.specs.Holds.{Holds}
use Rattle.contents.proofs.SectionLaws.{content_again}
use Rattle.contents.proofs.Held.{Held, held, ones_of, of_sheet}
use Rattle.contents.proofs.Accepted.{made_accepted}
use Rattle.contents.proofs.SheetSize.{sheet_fits, section_fits}
use Rattle.contents.proofs.ReadBack.{of_accepted}
use Rattle.turn.specs.Turn.{Outcome, gives, refuses, section_from, to_section, sheet_from, sheet_if, to_sheet}
use Rattle.turn.proofs.WholeLaws.{to_section_lem, to_sheet_lem}

gives_is : {a b : List ℕ} → gives a ≡ gives b → a ≡ b
gives_is e = cc

pub no_gives : {a : List ℕ} {k p : ℕ} → refuses k p ≡ gives a → ⊥
no_gives e = let z : ◌≡◌ {A = ℕ} 0 1 = cc in omega arith

-- ---- a turn that ends well

-- the room was large enough
roomy : (n least : ℕ) (x : Outcome) (t : List ℕ) → (if ltb n least then refuses 21 0 else x) ≡ gives t
    → (least ≤ n) × (x ≡ gives t)
roomy n least x t =
    if-case (λ y. y ≡ gives t → (least ≤ n) × (x ≡ gives t)) (ltb n least) (λ _ e. absurd (no_gives e))
    (λ q e. (ltb-false n least q, e))

-- the content of a sheet that is turned into a section
pub record FromSheet (n : ℕ) (s t : List ℕ) : Type 0 where
  pub room : 4096 ≤ n
  pub content : Content
  pub shown : Held s content
  pub reads : read_sheet s ≡ reading.value content
  pub made : t ≡ section_of content

pub from_sheet : (n : ℕ) (s t : List ℕ) → Bytes s → to_section n s ≡ gives t → FromSheet n s t
unfolding to_section
from_sheet n s t w e = let x = roomy n 4096 (section_from (read_sheet s)) t e in read x.0 (read_sheet s) refl x.1
  where
    read : 4096 ≤ n → (r : reading.Reading Content) → read_sheet s ≡ r → section_from r ≡ gives t → FromSheet n s t
    read h (reading.value c) q f =
        record { room = h; content = c; shown = held s c w q; reads = q; made = sym (gives_is f) }
    read h (reading.refused k) q f = absurd (no_gives f)

-- the content of a section that is turned into a sheet
pub record FromSection (n : ℕ) (s t : List ℕ) : Type 0 where
  pub room : 5120 ≤ n
  pub is_accepted_lem : judged s ≡ verdict.accepted
  pub content : Content
  pub holds : Holds content
  pub is : section_of content ≡ s
  pub reads : content_of s ≡ reading.value content
  pub made : t ≡ sheet_of content

pub from_section : (n : ℕ) (s t : List ℕ) → Bytes s → to_sheet n s ≡ gives t → FromSection n s t
unfolding to_sheet
from_section n s t w e =
    let x = roomy n 5120 (sheet_if (judged s) (sheet_from (content_of s))) t e in said x.0 (judged s) refl x.1
  where
    said : 5120 ≤ n → (v : verdict.Said) → judged s ≡ v → sheet_if v (sheet_from (content_of s)) ≡ gives t
        → FromSection n s t
    said h verdict.accepted q f =
        let x = of_accepted s w q in
        record {
          room = h;
          is_accepted_lem = q;
          content = x.content;
          holds = x.holds;
          is = x.is;
          reads = x.reads;
          made = sym (gives_is f) ∙ ap sheet_from x.reads;
        }
    said h (verdict.refused k p) q f = absurd (no_gives f)

-- ---- demand 2

-- an accepted sheet made into a section is accepted by the judge, and back it is the same bytes
pub sheet_and_back : (n m : ℕ) (s t : List ℕ) → Bytes s → 5120 ≤ m → to_section n s ≡ gives t
    → (judged t ≡ verdict.accepted) × (to_sheet m t ≡ gives s)
sheet_and_back n m s t w h e =
    let x = from_sheet n s t w e in
    let holds = x.shown.holds in
    let a : judged t ≡ verdict.accepted = ap judged x.made ∙ made_accepted x.content holds in
    let b : content_of t ≡ reading.value x.content = ap content_of x.made ∙ content_again x.content holds in
    (a, to_sheet_lem m t x.content h a b ∙ ap gives (sym x.shown.shows))

-- an accepted section made into a sheet and back is the same bytes, if its reserved bits were ones
pub section_and_back : (n m : ℕ) (s t : List ℕ) → Bytes s → 4096 ≤ n → ReservedWereOnes s → to_sheet m s ≡ gives t
    → to_section n t ≡ gives s
section_and_back n m s t w h u e =
    let x = from_section m s t w e in
    let y = of_sheet x.content x.holds in
    let same = y.same (subst OnesIn x.reads u) in
    to_section_lem n t y.content h (ap read_sheet x.made ∙ y.reads) ∙ ap gives (ap section_of same ∙ x.is)

-- whatever its reserved bits, it becomes a sheet of which a section as long is made
pub any_section_and_back : (n m : ℕ) (s t : List ℕ) → Bytes s → 4096 ≤ n → to_sheet m s ≡ gives t
    → (u : List ℕ) × (to_section n t ≡ gives u) × (length u ≡ length s)
any_section_and_back n m s t w h e =
    let x = from_section m s t w e in
    let y = of_sheet x.content x.holds in (
      section_of y.content,
      to_section_lem n t y.content h (ap read_sheet x.made ∙ y.reads),
      y.long ∙ ap length x.is,
    )

-- the section of a sheet has its reserved bits as ones
pub made_ones : (n : ℕ) (s t : List ℕ) → Bytes s → to_section n s ≡ gives t → ReservedWereOnes t
made_ones n s t w e =
    let x = from_sheet n s t w e in
    let r : content_of t ≡ reading.value x.content =
    ap content_of x.made ∙ content_again x.content x.shown.holds in
    subst OnesIn (sym r) (ones_of x.content x.shown.ok)

-- ---- "Largest results are proved to fit"

pub section_at_most : (n : ℕ) (s t : List ℕ) → Bytes s → to_section n s ≡ gives t → length t ≤ 4096
section_at_most n s t w e =
    let x = from_sheet n s t w e in
    subst (λ z. length z ≤ 4096) (sym x.made) (section_fits x.content x.shown.holds)

pub sheet_at_most : (n : ℕ) (s t : List ℕ) → Bytes s → to_sheet n s ≡ gives t → length t ≤ 5120
sheet_at_most n s t w e =
    let x = from_section n s t w e in
    subst (λ z. length z ≤ 5120) (sym x.made) (sheet_fits x.content x.holds)

-- and what was turned is no longer than that either
pub accepted_sheet_at_most : (n : ℕ) (s t : List ℕ) → Bytes s → to_section n s ≡ gives t → length s ≤ 5120
accepted_sheet_at_most n s t w e =
    let x = from_sheet n s t w e in
    subst (λ z. length z ≤ 5120) (sym x.shown.shows) (sheet_fits x.content x.shown.holds)

pub accepted_section_at_most : (n : ℕ) (s t : List ℕ) → Bytes s → to_sheet n s ≡ gives t → length s ≤ 4096
accepted_section_at_most n s t w e =
    let x = from_section n s t w e in
    subst (λ z. length z ≤ 4096) x.is (section_fits x.content x.holds)
