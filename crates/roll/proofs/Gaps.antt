-- The first number of a segment that is missing, of so many from its first on: all before it have come.
use Prim.Native.Nat.{ℕ, zero, suc, ◌+◌, ◌-◌, ◌/◌, ◌<◌, ◌≤◌}
use mathlib.Core.Path.{◌≡◌, refl, sym, ◌∙◌}
use mathlib.Core.Bool.{Bool, true, false, ◌&&◌, false≢true}
use mathlib.Core.Logic.{◌⊎◌, inl, inr}
use mathlib.Core.List.{List}
use native.Mathlib.Numerals.{add-one}
use native.Mathlib.Omega.{arith}
use lib.Dec.{eqb, ltb}
use lib.ListN.{get_or}
use borrow.Author.Tests.{ltb-true, ltb-false}
use Rattle.std.specs.Prelude.{Option, None, Some, if◌then◌else◌}
use Rattle.wire.proofs.IfLaws.{if-case}
use Rattle.roll.specs.Gaps.{up_to, wanted_of, all_came, first_gap, gap_among}
use Rattle.roll.specs.Segments.{counting}

-- ---- the loop of first_gap

pub gap-start : (came : List Bool) (count : ℕ) → first_gap came (count - 0) 0 ≡ first_gap came count 0
gap-start came count =
    let e : count - 0 ≡ count = omega arith in
    rw e

module _ (came : List Bool) (count i : ℕ) where
  turn : i < count → first_gap came (count - i) i ≡ (if get_or came i false then first_gap came (count - (i + 1)) (i + 1) else i)
  unfolding first_gap
  turn h =
      let e : count - i ≡ suc (count - (i + 1)) = omega arith in
      rw e

  pub gap_on : i < count → get_or came i false ≡ true → first_gap came (count - i) i ≡ first_gap came (count - (i + 1)) (i + 1)
  gap_on h q = turn h ∙ rw q

  pub gap_here : i < count → get_or came i false ≡ false → first_gap came (count - i) i ≡ i
  gap_here h q = turn h ∙ rw q

  pub gap_past : count ≤ i → first_gap came (count - i) i ≡ 8
  unfolding first_gap
  gap_past h =
      let e : count - i ≡ 0 = omega arith in
      rw e

-- ---- the loop of all_come

pub all_start : (came : List Bool) → true ≡ all_came came 0
unfolding all_came
all_start came = refl

pub all_next : (came : List Bool) (i : ℕ) → all_came came (i + 1) ≡ (all_came came i && get_or came i false)
unfolding all_came
all_next came i = rw (add-one i) (go (get_or came i false) (all_came came i))
  where
    go : (a b : Bool) → (a && b) ≡ (b && a)
    go true true = refl
    go true false = refl
    go false true = refl
    go false false = refl

pub all_each : (came : List Bool) (k : ℕ) → all_came came k ≡ true → (i : ℕ) → i < k → get_or came i false ≡ true
unfolding all_came
all_each came zero h i l = absurd (omega arith)
all_each came (suc k) h i l = go (λ e. all_each came k e i) (get_or came k false) (ltb i k) refl refl h
  where
    go : (all_came came k ≡ true → i < k → get_or came i false ≡ true) → (a b : Bool) → get_or came k false ≡ a → ltb i k ≡ b
        → (a && all_came came k) ≡ true → get_or came i false ≡ true
    go rest true true p q h = rest h (ltb-true i k q)
    go rest true false p q h =
        let same : i ≡ k = omega (arith, ltb-false i k q) in
        rw same p
    go rest false b p q h = absurd (false≢true h)

-- ---- what is found

-- g is the first of the k from i on that has not come; or all have, and it is 8
pub data Found (came : List Bool) (k i : ℕ) : ℕ → Type 0 where
  gap : (g : ℕ) → i ≤ g → g < i + k → ((j : ℕ) → i ≤ j → j < g → get_or came j false ≡ true) → get_or came g false ≡ false
      → Found came k i g
  none : ((j : ℕ) → i ≤ j → j < i + k → get_or came j false ≡ true) → Found came k i 8

found : (came : List Bool) (k i : ℕ) → Found came k i (first_gap came k i)
unfolding first_gap
found came zero i = none (λ j a b. absurd (omega arith))
found came (suc k) i = if-case (Found came (suc k) i) (get_or came i false) (λ t. more t (found came k (i + 1))) here
  where
    here : get_or came i false ≡ false → Found came (suc k) i i
    here f = gap i (omega arith) (omega arith) (λ j a b. absurd (omega arith)) f

    first_or : get_or came i false ≡ true → (j : ℕ) → i ≤ j → (i + 1 ≤ j → get_or came j false ≡ true) → get_or came j false ≡ true
    first_or t j a h = go (ltb i j) refl
      where
        go : (c : Bool) → ltb i j ≡ c → get_or came j false ≡ true
        go true e = h (omega (arith, ltb-true i j e))
        go false e =
            let same : j ≡ i = omega (arith, ltb-false i j e) in
            rw same t

    more : get_or came i false ≡ true → {g : ℕ} → Found came k (i + 1) g → Found came (suc k) i g
    more t (gap g a b before there) = gap g (omega arith) (omega arith) (λ j c d. first_or t j c (λ e. before j e d)) there
    more t (none each) = none (λ j c d. first_or t j c (λ e. each j e (omega arith)))

-- where all eight have come, none of fewer is missing
pub all_none : (came : List Bool) (count : ℕ) → count ≤ 8 → all_came came 8 ≡ true → first_gap came count 0 ≡ 8
all_none came count few h = go (found came count 0)
  where
    go : {g : ℕ} → Found came count 0 g → g ≡ 8
    go (gap g a b before there) = absurd (false≢true (sym there ∙ all_each came 8 h g (omega arith)))
    go (none each) = refl

-- what is missing of so many, of which at most eight must come
pub record Gap (came : List Bool) (count g : ℕ) : Type 0 where
  pub few : g ≤ 8
  pub missing : g < 8 → ((count ≡ 0) × (g ≡ 0)) ⊎
      ((g < count) × ((i : ℕ) → i < g → get_or came i false ≡ true) × (get_or came g false ≡ false))
  pub whole : 8 ≤ g → (0 < count) × ((i : ℕ) → i < count → get_or came i false ≡ true)

pub gap_is : (came : List Bool) (count : ℕ) → count ≤ 8 → Gap came count (gap_among came count)
unfolding gap_among
gap_is came zero few = record { few = omega arith; missing = λ _. inl (refl, refl); whole = λ h. absurd (omega arith) }
gap_is came (suc k) few = go (found came (suc k) 0)
  where
    go : {g : ℕ} → Found came (suc k) 0 g → Gap came (suc k) g
    go (gap g a b before there) = record {
      few = omega arith;
      missing = λ _. inr (omega arith, (λ i h. before i (omega arith) h), there);
      whole = λ h. absurd (omega arith);
    }
    go (none each) = record {
      few = omega arith;
      missing = λ h. absurd (omega arith);
      whole = λ _. (omega arith, λ i h. each i (omega arith) (omega arith));
    }

pub gap_unknown : (came : List Bool) (count : ℕ) → count ≡ 0 → gap_among came count ≡ 0
unfolding gap_among
gap_unknown came count h = rw h

pub gap_known : (came : List Bool) (count : ℕ) → (count ≡ 0 → ⊥) → gap_among came count ≡ first_gap came count 0
unfolding gap_among
gap_known came zero h = absurd (h refl)
gap_known came (suc k) h = refl

-- at most eight must come
pub wanted_few : (schedule : Bool) (last k : ℕ) (end : Option ℕ) → wanted_of schedule last k end ≤ 8
unfolding wanted_of up_to
wanted_few true last k end = go (counting last k end)
  where
    go : (x : Option ℕ) → up_to x ≤ 8
    go None = omega arith
    go (Some e) = omega arith
wanted_few false last k end = if-case (λ n. n ≤ 8) (eqb (last / 8) k) (λ _. omega arith) (λ _. omega arith)

-- what `gap` of segments.rt rests on
pub ruleset gap_laws = (gap_unknown, gap_known, all_none, wanted_few)
