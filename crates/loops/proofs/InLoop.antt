-- Descriptors: a loop is in the grammar or has a first fault, and the reading says which.
use Prim.Native.Nat.{ℕ, zero, suc, ◌+◌, ◌<◌, ◌≤◌}
use mathlib.Core.Path.{◌≡◌, ap, ap₂, ◌∙◌, subst}
use mathlib.Core.Logic.{◌⊎◌, inl, inr}
use mathlib.Core.List.{List, [], ◌∷◌, ◌++◌}
use native.Mathlib.Omega.{arith}
use native.Mathlib.Decide.{dec_le}
use lib.ListN.{length, take, drop, length-append, length-drop, take-append-drop}
use lib.Seq.{take-append_seam, drop-append_seam, length-take-le}
use Rattle.wire.specs.Trail.{before, answer}
use Rattle.verdict.specs.Verdict.{accepted, refused}
use Rattle.loops.specs.Descriptors.{Placed, placed, descriptors}
use Rattle.loops.specs.Grammar.{Descriptors, none, one}
use Rattle.loops.specs.Grammar.{lone, past, DescriptorFault, here, later}
use Rattle.loops.proofs.Loops.{descriptors_by, descriptors_on, descriptors_past}

-- a whole descriptor at the front
front : (p tag : ℕ) (body l : List ℕ)
    → descriptors p (tag ∷ length body ∷ (body ++ l)) ≡ before (placed p tag body) (descriptors (p + 2 + length body) l)
front p tag body l =
    descriptors_on p tag (length body) (body ++ l) (omega (arith, length-append body l))
    ∙ ap₂ (λ x y. before (placed p tag x) (descriptors (p + 2 + length body) y)) (take-append_seam body l) (drop-append_seam body l)

-- what the grammar has is read without a fault
pub read_whole : {p : ℕ} {l : List ℕ} {ds : List Placed} → Descriptors p l ds → descriptors p l ≡ record { items = ds; ends = accepted }
read_whole {p} none = descriptors_by p []
read_whole {p} (one tag body {l = l} d) = front p tag body l ∙ ap (before (placed p tag body)) (read_whole d)

-- the first fault is what the reading says
pub read_fault : {p q : ℕ} {l : List ℕ} → DescriptorFault p l q → (descriptors p l).ends ≡ refused 9 q
read_fault {p} (here (lone tag)) = ap answer (descriptors_by p (tag ∷ []))
read_fault {p} (here (past tag size l h)) = ap answer (descriptors_past p tag size l h)
read_fault {p} (later tag body {l = l} f) = ap answer (front p tag body l) ∙ read_fault f

-- there is no third case
abbrev pub Either : ℕ → List ℕ → Type 0
Either p l = ((ds : List Placed) × Descriptors p l ds) ⊎ ((q : ℕ) × DescriptorFault p l q)

ahead : (p tag : ℕ) (body l : List ℕ) → Either (p + 2 + length body) l → Either p (tag ∷ length body ∷ (body ++ l))
ahead p tag body l (inl (ds, d)) = inl (placed p tag body ∷ ds, one tag body d)
ahead p tag body l (inr (q, f)) = inr (q, later tag body f)

within : (n p : ℕ) (l : List ℕ) → length l < n → Either p l
within zero p l h = absurd (omega arith)
within (suc n) p [] h = inl ([], none)
within (suc n) p (tag ∷ []) h = inr (p, here (lone tag))
within (suc n) p (tag ∷ size ∷ l) h = go (λ q m i. within n q m i) (dec_le size (length l))
  where
    go : ((q : ℕ) (m : List ℕ) → length m < n → Either q m) → Dec (size ≤ length l) → Either p (tag ∷ size ∷ l)
    go ih (yes i) =
        let e : length (take size l) ≡ size = length-take-le size l i in
        subst (λ (x : List ℕ). Either p (tag ∷ size ∷ x)) (take-append-drop size l)
        (subst (λ (k : ℕ). Either p (tag ∷ k ∷ (take size l ++ drop size l))) e
        (ahead p tag (take size l) (drop size l) (ih _ (drop size l) (omega (arith, length-drop size l)))))
    go ih (no i) = inr (p, here (past tag size l (omega arith)))

pub whole_or_fault : (p : ℕ) (l : List ℕ) → Either p l
whole_or_fault p l = within (suc (length l)) p l (omega arith)
