-- A refusal's number is 1 to 10, and of bytes that are whole by their own header never 1 or 5.
use mathlib.Core.Path.{◌≡◌, refl}
use mathlib.Core.List.{List}
use Prim.Native.Nat.{ℕ, ◌≤◌}
use native.Mathlib.Omega.{arith}
use Rattle.wire.specs.Sections.{WholeSection}
use Rattle.tables.specs.declared.Row.{Row}
use Rattle.verdict.specs.Verdict.{Said, accepted, refused, number_of}
use Rattle.section.specs.Reading.{judged}
use Rattle.section.specs.Faults as faults
use Rattle.section.specs.Faults.{EntryFault, FillFault, InsideFault, Applies, First}
use Rattle.section.proofs.Exactly.{refused_exactly_if}

-- ---- what is wrong inside is 8, 9 or 10

abbrev Inner : ℕ → Type 0
Inner k = (8 ≤ k) × (k ≤ 10)

entry_number : {fixed p : ℕ} {l : List ℕ} {k q : ℕ} → EntryFault fixed p l k q → Inner k
entry_number (faults.EntryFault.short a b) = (omega arith, omega arith)
entry_number (faults.EntryFault.past head l a b) = (omega arith, omega arith)
entry_number (faults.EntryFault.own head body l h x) = (omega arith, omega arith)
entry_number (faults.EntryFault.later head body h d x) = entry_number x

fill_number : {p : ℕ} {m : List ℕ} {k q : ℕ} → FillFault p m k q → Inner k
fill_number (faults.FillFault.beyond a) = (omega arith, omega arith)
fill_number (faults.FillFault.short a) = (omega arith, omega arith)

inside_number : {row : Row} {p : ℕ} {m : List ℕ} {k q : ℕ} → InsideFault row p m k q → Inner k
inside_number (faults.InsideFault.filling t f x) = fill_number x
inside_number (faults.InsideFault.loop t f high low e x) = (omega arith, omega arith)
inside_number (faults.InsideFault.no_room t f x) = (omega arith, omega arith)
inside_number (faults.InsideFault.top t f high low body l e w x) = (omega arith, omega arith)
inside_number (faults.InsideFault.second t f high low body e w d x) = fill_number x
inside_number (faults.InsideFault.behind t f high low body e d high' low' e' x) = entry_number x
inside_number (faults.InsideFault.entries t f x) = entry_number x

-- ---- what is wrong before is 1 to 7

applies_number : {s : List ℕ} {k : ℕ} → Applies s k → (1 ≤ k) × (k ≤ 7)
applies_number (faults.Applies.too_short a) = (omega arith, omega arith)
applies_number (faults.Applies.unknown a) = (omega arith, omega arith)
applies_number (faults.Applies.syntax i a b c) = (omega arith, omega arith)
applies_number (faults.Applies.below i a b c) = (omega arith, omega arith)
applies_number (faults.Applies.above i a b c) = (omega arith, omega arith)
applies_number (faults.Applies.size a) = (omega arith, omega arith)
applies_number (faults.Applies.register i a b c d) = (omega arith, omega arith)
applies_number (faults.Applies.numbers i a b c d) = (omega arith, omega arith)

-- and of a whole section neither 1 nor 5
whole_applies : {s : List ℕ} {k : ℕ} → WholeSection s → Applies s k → (k ≡ 1 → ⊥) × (k ≡ 5 → ⊥)
whole_applies w (faults.Applies.too_short a) = absurd (omega (arith, w.header))
whole_applies w (faults.Applies.unknown a) = (λ e. omega arith, λ e. omega arith)
whole_applies w (faults.Applies.syntax i a b c) = (λ e. omega arith, λ e. omega arith)
whole_applies w (faults.Applies.below i a b c) = (λ e. omega arith, λ e. omega arith)
whole_applies w (faults.Applies.above i a b c) = (λ e. omega arith, λ e. omega arith)
whole_applies w (faults.Applies.size a) = absurd (a w.exact)
whole_applies w (faults.Applies.register i a b c d) = (λ e. omega arith, λ e. omega arith)
whole_applies w (faults.Applies.numbers i a b c d) = (λ e. omega arith, λ e. omega arith)

-- ---- the first refusal

first_number_lem : {s : List ℕ} {k q : ℕ} → First s k q → (1 ≤ k) × (k ≤ 10)
first_number_lem (faults.First.lowest a c) = let n = applies_number a in (n.0, omega (arith, n))
first_number_lem (faults.First.inside c i middle cut x) = let n = inside_number x in (omega (arith, n), n.1)

whole_first : {s : List ℕ} {k q : ℕ} → WholeSection s → First s k q → (k ≡ 1 → ⊥) × (k ≡ 5 → ⊥)
whole_first w (faults.First.lowest a c) = whole_applies w a
whole_first w (faults.First.inside c i middle cut x) =
    let n = inside_number x in
    (λ e. omega (arith, n), λ e. omega (arith, n))

-- ---- what the judge says

pub refused_number : (s : List ℕ) (k q : ℕ) → judged s ≡ refused k q → (1 ≤ k) × (k ≤ 10)
refused_number s k q e = first_number_lem ((refused_exactly_if s k q).0 e)

pub refused_whole : (s : List ℕ) (k q : ℕ) → WholeSection s → judged s ≡ refused k q → (k ≡ 1 → ⊥) × (k ≡ 5 → ⊥)
refused_whole s k q w e = whole_first w ((refused_exactly_if s k q).0 e)

pub number_limit : (s : List ℕ) → number_of (judged s) ≤ 10
number_limit s = at (judged s) refl
  where
    at : (v : Said) → judged s ≡ v → number_of v ≤ 10
    at accepted e = omega arith
    at (refused k q) e = (refused_number s k q e).1
