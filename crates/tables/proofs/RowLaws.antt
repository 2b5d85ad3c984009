-- What the rows of the table have in common, and which row a table_id has.
use Prim.Native.Nat.{ℕ, zero, suc, ◌+◌, ◌<◌, ◌≤◌}
use mathlib.Core.Path.{◌≡◌, refl, ap, ◌∙◌, sym}
use mathlib.Core.Logic.{inl, inr}
use mathlib.Core.Bool.{Bool, true, false, not, ◌&&◌, ◌||◌}
use mathlib.Core.List.{[]}
use native.Mathlib.Omega.{arith}
use native.Mathlib.Decide.{ℕ_discrete}
use borrow.Author.Tests.{leb-true, eqb-true, le-leb, le-ltb, ltb-true, ltb-false}
use lib.ListN.{get_or}
use lib.Dec.{leb, eqb}
use Rattle.std.specs.Prelude.{if◌then◌else◌, min}
use Rattle.std.proofs.Math.Nat.{min-eq_right}
use Rattle.wire.proofs.IfLaws.{true_not_false}
use Rattle.tables.specs.Tables.{TDT, UNKNOWN, place, is_numbered, rows, cell, row_at, between, holds, first, row_of, InRow, FixedTwo}
use Rattle.tables.specs.declared.Table.{Table}
use Rattle.tables.specs.declared.Table.TheVariants.{Nit, Sdt, Bat, Eit, Tdt, Tot}

-- ---- the six tables, and the four

pub place_known : (t : Table) → place t < UNKNOWN
place_known Nit = omega arith
place_known Sdt = omega arith
place_known Bat = omega arith
place_known Eit = omega arith
place_known Tdt = omega arith
place_known Tot = omega arith

-- what `is_numbered` tells
pub numbered_below : (row : ℕ) {b : Bool} → b ≡ is_numbered row → b ≡ true → row < TDT
numbered_below row e t = ltb-true row TDT (sym e ∙ t)

pub unnumbered_from : (row : ℕ) {b : Bool} → b ≡ is_numbered row → b ≡ false → TDT ≤ row
unnumbered_from row e f = ltb-false row TDT (sym e ∙ f)

-- ---- sizes

pub record Shape (i : ℕ) : Type 0 where
  pub room : (row_at i).crc ≡ 1 → (row_at i).before + 4 ≤ 3 + (row_at i).least
  pub bare : ((row_at i).crc ≡ 1 → ⊥)
      → ((row_at i).crc ≡ 0) × ((row_at i).before ≡ 3 + (row_at i).least) × ((row_at i).most ≡ (row_at i).least)
      × ((row_at i).top ≡ 1 → ⊥) × ((row_at i).fixed ≡ 0)
  pub empty : ((row_at i).top ≡ 1 → ⊥) → (row_at i).fixed ≡ 0 → (row_at i).crc ≡ 0

pub shape : (i : ℕ) → i < 6 → Shape i
unfolding cell
shape zero h = record { room = λ _. omega arith; bare = λ g. absurd (g refl); empty = λ g. absurd (g refl) }
shape (suc zero) h = record { room = λ _. omega arith; bare = λ g. absurd (g refl); empty = λ _ e. absurd (omega arith) }
shape (suc (suc zero)) h = record { room = λ _. omega arith; bare = λ g. absurd (g refl); empty = λ g. absurd (g refl) }
shape (suc (suc (suc zero))) h = record { room = λ _. omega arith; bare = λ g. absurd (g refl); empty = λ _ e. absurd (omega arith) }
shape (suc (suc (suc (suc zero)))) h = record {
  room = λ e. absurd (omega arith);
  bare = λ _. (refl, refl, refl, (λ e. omega arith), refl);
  empty = λ _ _. refl;
}
shape (suc (suc (suc (suc (suc zero))))) h = record { room = λ _. omega arith; bare = λ g. absurd (g refl); empty = λ g. absurd (g refl) }
shape (suc (suc (suc (suc (suc (suc i)))))) h = absurd (omega arith)

-- entries, where there are any, have room for their loop length: so in each row, and in none past the last
pub fixed_two : (i : ℕ) → FixedTwo (row_at i).fixed
unfolding cell
fixed_two zero h = omega arith
fixed_two (suc zero) h = omega arith
fixed_two (suc (suc zero)) h = omega arith
fixed_two (suc (suc (suc zero))) h = omega arith
fixed_two (suc (suc (suc (suc zero)))) h = absurd (h refl)
fixed_two (suc (suc (suc (suc (suc zero))))) h = absurd (h refl)
fixed_two (suc (suc (suc (suc (suc (suc i)))))) h = absurd (h refl)

-- ---- ids

between_true : (low x high : ℕ) → between low x high ≡ true → (low ≤ x) × (x ≤ high)
between_true low x high e = go (leb low x) (leb x high) refl refl e
  where
    go : (a b : Bool) → leb low x ≡ a → leb x high ≡ b → a && b ≡ true → (low ≤ x) × (x ≤ high)
    go true true p q e = (leb-true low x p, leb-true x high q)
    go true false p q e = let z : ◌≡◌ {A = ℕ} 0 1 = cc in absurd (omega arith)
    go false b p q e = let z : ◌≡◌ {A = ℕ} 0 1 = cc in absurd (omega arith)

pub holds_in : (i id : ℕ) → holds (get_or rows i []) id ≡ true → InRow i id
unfolding holds cell
holds_in i id e = go (between (cell i 0) id (cell i 1)) (between (cell i 2) id (cell i 3)) refl refl e
  where
    go : (a b : Bool) → between (cell i 0) id (cell i 1) ≡ a → between (cell i 2) id (cell i 3) ≡ b → a || b ≡ true → InRow i id
    go true b p q e = inl (between_true _ _ _ p)
    go false true p q e = inr (between_true _ _ _ q)
    go false false p q e = let z : ◌≡◌ {A = ℕ} 0 1 = cc in absurd (omega arith)

between_yes : (low x high : ℕ) → (low ≤ x) × (x ≤ high) → between low x high ≡ true
between_yes low x high h = rw (le-leb low x h.0, le-leb x high h.1)

pub in_holds : (i id : ℕ) → InRow i id → holds (get_or rows i []) id ≡ true
unfolding holds cell
in_holds i id (inl h) = rw (between_yes (cell i 0) id (cell i 1) h)
in_holds i id (inr h) = go (between (cell i 0) id (cell i 1))
  where
    go : (a : Bool) → a || between (cell i 2) id (cell i 3) ≡ true
    go true = refl
    go false = between_yes (cell i 2) id (cell i 3) h

-- ---- the first row

first_holds : (k i : ℕ) (p : ℕ → Bool) → first k i p < i + k → p (first k i p) ≡ true
unfolding first
first_holds zero i p h = absurd (omega arith)
first_holds (suc k) i p h = go (λ g. first_holds k (i + 1) p g) (p i) refl h
  where
    go : (first k (i + 1) p < i + 1 + k → p (first k (i + 1) p) ≡ true) → (b : Bool) → p i ≡ b
        → (if b then i else first k (i + 1) p) < i + suc k
        → p (if b then i else first k (i + 1) p) ≡ true
    go ih true e h = e
    go ih false e h = ih (omega arith)

first_le : (k i j : ℕ) (p : ℕ → Bool) → i ≤ j → j < i + k → p j ≡ true → first k i p ≤ j
unfolding first
first_le zero i j p h g e = absurd (omega arith)
first_le (suc k) i j p h g e = go (λ f. first_le k (i + 1) j p f (omega arith) e) (p i) refl
  where
    later : p i ≡ false → Dec (i ≡ j) → i + 1 ≤ j
    later q (yes r) = absurd (true_not_false (sym e ∙ ap p (sym r) ∙ q))
    later q (no r) = omega arith

    go : (i + 1 ≤ j → first k (i + 1) p ≤ j) → (b : Bool) → p i ≡ b → (if b then i else first k (i + 1) p) ≤ j
    go ih true q = h
    go ih false q = ih (later q (ℕ_discrete i j))

pub row-in : (id : ℕ) → row_of id < 6 → InRow (row_of id) id
unfolding row_of
row-in id h = holds_in (row_of id) id (first_holds 6 0 (λ i. holds (get_or rows i []) id) h)

pub row_below : (id i : ℕ) → i < 6 → InRow i id → row_of id ≤ i
unfolding row_of
row_below id i h g = first_le 6 0 i (λ i. holds (get_or rows i []) id) (omega arith) h (in_holds i id g)

-- ---- no two rows have the same id: a test over all ids of a byte's lower half, and none is above

-- a test at each number below n
unfoldable pub each : ℕ → (ℕ → Bool) → Bool
each zero f = true
each (suc n) f = f n && each n f

pub each_at : (n : ℕ) (f : ℕ → Bool) → each n f ≡ true → (k : ℕ) → k < n → f k ≡ true
unfolding each
each_at zero f e k h = absurd (omega arith)
each_at (suc n) f e k h = go (λ q g. each_at n f q k g) (f n) (each n f) refl refl e (ℕ_discrete k n)
  where
    go : (each n f ≡ true → k < n → f k ≡ true) → (a b : Bool) → f n ≡ a → each n f ≡ b → a && b ≡ true → Dec (k ≡ n) → f k ≡ true
    go ih true b p q e (yes r) = ap f r ∙ p
    go ih true b p q e (no r) = ih (q ∙ e) (omega arith)
    go ih false b p q e d = let z : ◌≡◌ {A = ℕ} 0 1 = cc in absurd (omega arith)

test : ℕ → ℕ → Bool
test id i = not (holds (get_or rows i []) id) || eqb (row_of id) i

tested : each 128 (λ id. each 6 (test id)) ≡ true
unfolding each test holds row_of first
tested = refl

small : (i id : ℕ) → i < 6 → InRow i id → id < 128
unfolding cell
small zero id h (inl g) = omega arith
small zero id h (inr g) = omega arith
small (suc zero) id h (inl g) = omega arith
small (suc zero) id h (inr g) = omega arith
small (suc (suc zero)) id h (inl g) = omega arith
small (suc (suc zero)) id h (inr g) = omega arith
small (suc (suc (suc zero))) id h (inl g) = omega arith
small (suc (suc (suc zero))) id h (inr g) = omega arith
small (suc (suc (suc (suc zero)))) id h (inl g) = omega arith
small (suc (suc (suc (suc zero)))) id h (inr g) = omega arith
small (suc (suc (suc (suc (suc zero))))) id h (inl g) = omega arith
small (suc (suc (suc (suc (suc zero))))) id h (inr g) = omega arith
small (suc (suc (suc (suc (suc (suc i)))))) id h g = absurd (omega arith)

pub row_is : (id i : ℕ) → i < 6 → InRow i id → row_of id ≡ i
unfolding test
row_is id i h g =
    let t : test id i ≡ true = each_at 6 (test id) (each_at 128 (λ id. each 6 (test id)) tested id (small i id h g)) i h in
    eqb-true (row_of id) i (sym (ap (λ b. not b || eqb (row_of id) i) (in_holds i id g)) ∙ t)

-- ---- no place is past the last but one

first_within : (k i : ℕ) (p : ℕ → Bool) → first k i p ≤ i + k
unfolding first
first_within zero i p = omega arith
first_within (suc k) i p = go (p i) (first_within k (i + 1) p)
  where
    go : (b : Bool) → first k (i + 1) p ≤ i + 1 + k → (if b then i else first k (i + 1) p) ≤ i + suc k
    go true h = omega arith
    go false h = omega arith

pub row_within : (id : ℕ) → row_of id ≤ UNKNOWN
unfolding row_of
row_within id = first_within 6 0 (λ i. holds (get_or rows i []) id)

-- ---- a place past the last is no other than UNKNOWN

past : (i : ℕ) → min (suc (suc (suc (suc (suc (suc i)))))) UNKNOWN ≡ UNKNOWN
past i = min-eq_right (omega arith)

pub row_at_known : (i : ℕ) → row_at (min i UNKNOWN) ≡ row_at i
unfolding cell
row_at_known zero = refl
row_at_known (suc zero) = refl
row_at_known (suc (suc zero)) = refl
row_at_known (suc (suc (suc zero))) = refl
row_at_known (suc (suc (suc (suc zero)))) = refl
row_at_known (suc (suc (suc (suc (suc zero))))) = refl
row_at_known (suc (suc (suc (suc (suc (suc i)))))) = rw (past i)

pub is_numbered_known : (i : ℕ) → is_numbered (min i UNKNOWN) ≡ is_numbered i
is_numbered_known zero = refl
is_numbered_known (suc zero) = refl
is_numbered_known (suc (suc zero)) = refl
is_numbered_known (suc (suc (suc zero))) = refl
is_numbered_known (suc (suc (suc (suc zero)))) = refl
is_numbered_known (suc (suc (suc (suc (suc zero))))) = refl
is_numbered_known (suc (suc (suc (suc (suc (suc i)))))) = rw (past i) (sym (le-ltb _ TDT (omega arith)))
