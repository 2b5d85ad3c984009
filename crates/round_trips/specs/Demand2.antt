-- Demand 2 over calls: what the promises of both functions come to when one is called after the other.
use Rattle.std.specs.Prelude.{ℕ, ◌≤◌, ◌≡◌, List, length, take, Ok}
use Rattle.wire.specs.Bytes.{Bytes}
use Rattle.verdict.specs.Verdict.{accepted}
use Rattle.section.specs.Reading.{judged}
use Rattle.turn.specs.Promise.{ToSection, ToSheet}
use Rattle.contents.specs.Ones.{ReservedWereOnes}
use Rattle.turn.specs.Answers.{SectionAnswer, SheetAnswer}

-- "An accepted sheet made into a section and back is the same bytes"; and the section is accepted
abbrev pub SheetAndBack : Type 0
SheetAndBack = (s o o' p p' : List ℕ) (n : ℕ) (r : SheetAnswer) → Bytes s → ToSection s o (Ok n) o'
    → 5120 ≤ length p → ToSheet (take n o') p r p'
    → (judged (take n o') ≡ accepted) × (r ≡ Ok (length s)) × (take (length s) p' ≡ s)

-- "an accepted section made into a sheet and back is too, if its reserved bits were ones"
abbrev pub SectionAndBack : Type 0
SectionAndBack = (s o o' p p' : List ℕ) (n : ℕ) (r : SectionAnswer) → Bytes s → ReservedWereOnes s
    → ToSheet s o (Ok n) o' → 4096 ≤ length p → ToSection (take n o') p r p'
    → (r ≡ Ok (length s)) × (take (length s) p' ≡ s)

-- "Reserved bits are written as ones."
abbrev pub WrittenAsOnes : Type 0
WrittenAsOnes = (s o o' : List ℕ) (n : ℕ) → Bytes s → ToSection s o (Ok n) o' → ReservedWereOnes (take n o')

-- and so no other section comes back as it was: the premise of `SectionAndBack` is exact
abbrev pub BackOnlyIf : Type 0
BackOnlyIf = (s o o' p p' : List ℕ) (n m : ℕ) → Bytes s → Bytes o' → ToSheet s o (Ok n) o'
    → ToSection (take n o') p (Ok m) p'
    → take m p' ≡ s → ReservedWereOnes s

-- whatever its reserved bits, the sheet of an accepted section is an accepted one, and a section as long comes back
abbrev pub AnySectionAndBack : Type 0
AnySectionAndBack = (s o o' p p' : List ℕ) (n : ℕ) (r : SectionAnswer) → Bytes s → ToSheet s o (Ok n) o'
    → 4096 ≤ length p → ToSection (take n o') p r p'
    → r ≡ Ok (length s)
