-- Numbers below their limits: each is below its own, and where they are not, one of them is not.
use Prim.{Unit, tt}
use mathlib.Core.Path.{◌≡◌, refl, sym, ◌∙◌}
use mathlib.Core.Bool.{Bool, true, false, not}
use mathlib.Core.List.{List, [], ◌∷◌}
use Prim.Native.Nat.{ℕ, zero, suc, ◌<◌, ◌≤◌}
use native.Mathlib.Omega.{arith}
use borrow.Author.Tests.{ltb-false, not-false}
use lib.Dec.{ltb}
use lib.ListN.{length, get_or}
use Rattle.wire.proofs.IfLaws.{if-case, true_not_false}
use Rattle.writing.specs.Fill.{below}
use Rattle.writing.proofs.Made.{below_first, below_also}

-- as a proposition for each of them
abbrev pub Below : List ℕ → List ℕ → Type 0
Below [] [] = Unit {0}
Below [] (l ∷ ls) = ⊥
Below (v ∷ vs) [] = ⊥
Below (v ∷ vs) (l ∷ ls) = (v < l) × Below vs ls

pub below_is : (vs ls : List ℕ) → below vs ls ≡ true → Below vs ls
unfolding below
below_is [] [] h = tt
below_is [] (l ∷ ls) h = true_not_false (sym h)
below_is (v ∷ vs) [] h = true_not_false (sym h)
below_is (v ∷ vs) (l ∷ ls) h = let x = below_first v l vs ls h in (x.0, below_is vs ls x.1)

pub is_below : (vs ls : List ℕ) → Below vs ls → below vs ls ≡ true
unfolding below
is_below [] [] h = refl
is_below [] (l ∷ ls) h = absurd h
is_below (v ∷ vs) [] h = absurd h
is_below (v ∷ vs) (l ∷ ls) h = below_also v l vs ls h.0 (is_below vs ls h.1)

pub below_each : (vs ls : List ℕ) → below vs ls ≡ true → (i : ℕ) → i < length ls → get_or vs i 0 < get_or ls i 0
unfolding below
below_each [] [] h i l = absurd (omega arith)
below_each [] (m ∷ ls) h i l = absurd (true_not_false (sym h))
below_each (v ∷ vs) [] h i l = absurd (true_not_false (sym h))
below_each (v ∷ vs) (m ∷ ls) h zero l = (below_first v m vs ls h).0
below_each (v ∷ vs) (m ∷ ls) h (suc i) l = below_each vs ls (below_first v m vs ls h).1 i (omega arith)

pub not_below : (vs ls : List ℕ) → length vs ≡ length ls → below vs ls ≡ false
    → (i : ℕ) × (i < length ls) × (get_or ls i 0 ≤ get_or vs i 0)
unfolding below
not_below [] [] e h = absurd (true_not_false h)
not_below [] (m ∷ ls) e h = absurd (omega arith)
not_below (v ∷ vs) [] e h = absurd (omega arith)
not_below (v ∷ vs) (m ∷ ls) e h =
    if-case (λ b. b ≡ false → (i : ℕ) × (i < suc (length ls)) × (get_or (m ∷ ls) i 0 ≤ get_or (v ∷ vs) i 0)) (ltb v m)
    (λ _ g. let x = not_below vs ls (omega arith) g in (suc x.0, omega (arith, x.1), x.2))
    (λ g _. (0, omega arith, ltb-false v m g))
    h

-- ---- the code's test, as an answer and as a fact

pub test_true : (vs ls : List ℕ) → Below vs ls → true ≡ below vs ls
test_true vs ls h = sym (is_below vs ls h)

pub test_false : (vs ls : List ℕ) → (Below vs ls → ⊥) → false ≡ below vs ls
test_false vs ls never = one (below vs ls) (λ e. never (below_is vs ls e))
  where
    one : (b : Bool) → (b ≡ true → ⊥) → false ≡ b
    one true h = absurd (h refl)
    one false h = refl

pub tested : (vs ls : List ℕ) {r : Bool} → r ≡ below vs ls → not r ≡ false → Below vs ls
tested vs ls {r} e h = below_is vs ls (sym e ∙ not-false r h)
