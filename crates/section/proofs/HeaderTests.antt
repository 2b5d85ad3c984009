-- Refusals 3 to 7: each test of the header holds or not, and what that tells.
use Prim.Native.Nat.{ℕ, ◌+◌, ◌/◌, ◌<◌, ◌≤◌}
use mathlib.Core.Path.{◌≡◌, refl, ap}
use mathlib.Core.Logic.{◌⊎◌, inl, inr}
use mathlib.Core.Bool.{Bool, true, false, not}
use mathlib.Core.List.{List}
use borrow.Author.Tests.{eqb-true, eqb-false, ltb-true, ltb-false}
use lib.ListN.{length, get_or}
use lib.Dec.{ltb, eqb}
use Rattle.wire.specs.Bytes.{len12_at}
use Rattle.crc.specs.Crc.{crc}
use Rattle.section.specs.Reading.{wrong_syntax, length_outside, size_differs, crc_fails, above_last}
use Rattle.tables.specs.declared.Row.{Row}

not_equal : (a b : ℕ) → ((not (eqb a b) ≡ true) × (a ≡ b → ⊥)) ⊎ ((not (eqb a b) ≡ false) × (a ≡ b))
not_equal a b = go (eqb a b) refl
  where
    go : (t : Bool) → eqb a b ≡ t → ((not (eqb a b) ≡ true) × (a ≡ b → ⊥)) ⊎ ((not (eqb a b) ≡ false) × (a ≡ b))
    go true e = inr (ap not e, eqb-true a b e)
    go false e = inl (ap not e, eqb-false a b e)

module _ (row : Row) (s : List ℕ) where
  pub syntax_test : ((wrong_syntax row s ≡ true) × (get_or s 1 0 / 128 ≡ row.syntax → ⊥))
      ⊎ ((wrong_syntax row s ≡ false) × (get_or s 1 0 / 128 ≡ row.syntax))
  unfolding wrong_syntax
  syntax_test = not_equal (get_or s 1 0 / 128) row.syntax

  pub length_test : ((length_outside row s ≡ true) × ((len12_at s 1 < row.least) ⊎ (row.most < len12_at s 1)))
      ⊎ ((length_outside row s ≡ false) × ((row.least ≤ len12_at s 1) × (len12_at s 1 ≤ row.most)))
  unfolding length_outside
  length_test = go (ltb (len12_at s 1) row.least) (ltb row.most (len12_at s 1)) refl refl
    where
      go : (a b : Bool) → ltb (len12_at s 1) row.least ≡ a → ltb row.most (len12_at s 1) ≡ b
          → ((length_outside row s ≡ true) × ((len12_at s 1 < row.least) ⊎ (row.most < len12_at s 1)))
          ⊎ ((length_outside row s ≡ false) × ((row.least ≤ len12_at s 1) × (len12_at s 1 ≤ row.most)))
      go true b p q = inl (rw p, inl (ltb-true _ _ p))
      go false true p q = inl (rw (p, q), inr (ltb-true _ _ q))
      go false false p q = inr (rw (p, q), (ltb-false _ _ p, ltb-false _ _ q))

  pub size_test : ((size_differs s ≡ true) × (length s ≡ 3 + len12_at s 1 → ⊥)) ⊎
      ((size_differs s ≡ false) × (length s ≡ 3 + len12_at s 1))
  unfolding size_differs
  size_test = not_equal (length s) (3 + len12_at s 1)

  pub crc_test : ((crc_fails row s ≡ true) × ((row.crc ≡ 1) × (crc s ≡ 0 → ⊥))) ⊎ ((crc_fails row s ≡ false) × (row.crc ≡ 1 → crc s ≡ 0))
  unfolding crc_fails
  crc_test = go (eqb row.crc 1) refl (not_equal (crc s) 0)
    where
      go : (a : Bool) → eqb row.crc 1 ≡ a
          → ((not (eqb (crc s) 0) ≡ true) × (crc s ≡ 0 → ⊥)) ⊎ ((not (eqb (crc s) 0) ≡ false) × (crc s ≡ 0))
          → ((crc_fails row s ≡ true) × ((row.crc ≡ 1) × (crc s ≡ 0 → ⊥))) ⊎ ((crc_fails row s ≡ false) × (row.crc ≡ 1 → crc s ≡ 0))
      go true p (inl q) = inl (rw (p, q.0), (eqb-true _ _ p, q.1))
      go true p (inr q) = inr (rw (p, q.0), λ _. q.1)
      go false p q = inr (rw p, λ e. absurd (eqb-false _ _ p e))

  pub last_test : ((above_last row s ≡ true) × ((row.syntax ≡ 1) × (get_or s 7 0 < get_or s 6 0)))
      ⊎ ((above_last row s ≡ false) × (row.syntax ≡ 1 → get_or s 6 0 ≤ get_or s 7 0))
  unfolding above_last
  last_test = go (eqb row.syntax 1) (ltb (get_or s 7 0) (get_or s 6 0)) refl refl
    where
      go : (a b : Bool) → eqb row.syntax 1 ≡ a → ltb (get_or s 7 0) (get_or s 6 0) ≡ b
          → ((above_last row s ≡ true) × ((row.syntax ≡ 1) × (get_or s 7 0 < get_or s 6 0)))
          ⊎ ((above_last row s ≡ false) × (row.syntax ≡ 1 → get_or s 6 0 ≤ get_or s 7 0))
      go true true p q = inl (rw (p, q), (eqb-true _ _ p, ltb-true _ _ q))
      go true false p q = inr (rw (p, q), λ _. ltb-false _ _ q)
      go false b p q = inr (rw p, λ e. absurd (eqb-false _ _ p e))
