-- What the judge parts: each whole section is accepted or rejected, and the last rejected one leaves its number.
use Rattle.std.proofs.Common.{◌≡◌, ℕ, ◌+◌, ◌≤◌, false, List, [], ◌∷◌, ◌++◌, length, sym, refl, ap, ◌∙◌, append-nil, map-id}
use mathlib.Core.List.{flatten}
use Rattle.std.specs.Prelude.{if◌then◌else◌}
use Rattle.verdict.specs.Verdict.{Said, is_accepted, number_of}
use Rattle.verdict.specs.Verdict as Verdict
use Rattle.section.specs.Reading.{judged}
use Rattle.section.proofs.Numbers.{number_limit}
use Rattle.collector.specs.Rules.{Kind, pointer, accepted, rejected, sameKind, Rest, filling, skipping, breaking, kind_of, plain, sections_of}
use Rattle.collector.specs.Judged.{kind_said, by_judge, last_number}
use Rattle.copy.specs.Laid.{laid}
use Rattle.copy.proofs.LaidLaws.{laid_behind}
use Rattle.collector.specs.Inner.Settling.{handedOut}
use Rattle.collector.proofs.MarkLaws.{flatten_snoc}
use Rattle.collector.proofs.Invariants.{ByEnd}
use Rattle.collector.proofs.StoryLaws.{sections_more}

-- ---- the two kinds

pub accepted-by-end : ByEnd accepted
accepted-by-end = record { not-pointer = refl; not_rest = not_rest }
  where
    not_rest : (m : Rest) → sameKind accepted (kind_of m) ≡ false
    not_rest filling = refl
    not_rest skipping = refl
    not_rest breaking = refl

pub rejected-by-end : ByEnd rejected
rejected-by-end = record { not-pointer = refl; not_rest = not_rest }
  where
    not_rest : (m : Rest) → sameKind rejected (kind_of m) ≡ false
    not_rest filling = refl
    not_rest skipping = refl
    not_rest breaking = refl

-- no other kind is the judge's
pub said_apart : (rest : Rest) (v : Said) → sameKind (kind_of rest) (kind_said v) ≡ false
said_apart filling Verdict.accepted = refl
said_apart skipping Verdict.accepted = refl
said_apart breaking Verdict.accepted = refl
said_apart filling (Verdict.refused k p) = refl
said_apart skipping (Verdict.refused k p) = refl
said_apart breaking (Verdict.refused k p) = refl

pub said_no_pointer : (v : Said) → sameKind pointer (kind_said v) ≡ false
said_no_pointer Verdict.accepted = refl
said_no_pointer (Verdict.refused k p) = refl

-- ---- the sections of each

abbrev pub parted : Kind → List (List ℕ) → List (List ℕ)
parted k secs = sections_of by_judge plain k secs

-- one section more
pub parted_more : (k : Kind) (secs : List (List ℕ)) (s : List ℕ)
    → parted k (secs ++ (s ∷ [])) ≡ parted k secs ++ (if sameKind k (by_judge s) then s ∷ [] else [])
parted_more k secs s =
    sections_more by_judge plain k secs (s ∷ [])
    ∙ ap (λ (l : List ℕ). parted k secs ++ (if sameKind k (by_judge l) then s ∷ [] else [])) (map-id s)

-- by what the judge says of it
pub parted_said : (k : Kind) (secs : List (List ℕ)) (s : List ℕ) (v : Said) → judged s ≡ v
    → parted k (secs ++ (s ∷ [])) ≡ parted k secs ++ (if sameKind k (kind_said v) then s ∷ [] else [])
parted_said k secs s v e =
    parted_more k secs s ∙ ap (λ (z : Said). parted k secs ++ (if sameKind k (kind_said z) then s ∷ [] else [])) e

-- it is handed out behind the accepted ones before it, or nothing is
pub handed_more : (room : List ℕ) (at : ℕ) (secs : List (List ℕ)) (s : List ℕ) → at ≤ length room
    → handedOut (laid room at (flatten (parted accepted secs))) (at + length (flatten (parted accepted secs))) s
    ≡ laid room at (flatten (parted accepted (secs ++ (s ∷ []))))
handed_more room at secs s w = said (judged s) refl
  where
    before : List ℕ
    before = flatten (parted accepted secs)

    said : (v : Said) → judged s ≡ v
        → (if is_accepted v then laid (laid room at before) (at + length before) s else laid room at before)
        ≡ laid room at (flatten (parted accepted (secs ++ (s ∷ []))))
    said Verdict.accepted e =
        laid_behind room at before s w
        ∙ ap (laid room at)
        (sym (ap flatten (parted_said accepted secs s Verdict.accepted e) ∙ flatten_snoc (parted accepted secs) s))
    said (Verdict.refused k p) e =
        ap (λ (l : List (List ℕ)). laid room at (flatten l))
        (sym (parted_said accepted secs s (Verdict.refused k p) e ∙ append-nil (parted accepted secs)))

-- ---- the number of the section rejected last

pub last_more : (n : ℕ) (secs more : List (List ℕ)) → last_number n (secs ++ more) ≡ last_number (last_number n secs) more
last_more n [] more = refl
last_more n (s ∷ secs) more = last_more (number_of (judged s)) secs more

pub last_limit : (n : ℕ) (secs : List (List ℕ)) → n ≤ 10 → last_number n secs ≤ 10
last_limit n [] w = w
last_limit n (s ∷ secs) w = last_limit (number_of (judged s)) secs (number_limit s)
