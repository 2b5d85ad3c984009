-- Which table_ids the rows stand for: SDT has 0x42 and 0x46, EIT 0x4E to 0x6F.
use Prim.Native.Nat.{ℕ, ◌<◌, ◌≤◌}
use mathlib.Core.Path.{◌≡◌, subst}
use mathlib.Core.Bool.{true}
use mathlib.Core.Logic.{◌⊎◌, inl, inr, ◌↔◌}
use native.Mathlib.Omega.{arith}
use borrow.Author.Tests.{eqb-true, eq-eqb}
use Rattle.tables.specs.Tables.{SDT, EIT, UNKNOWN, cell, row_of, InRow}
use Rattle.tables.proofs.RowLaws.{row-in, row_is}
use Rattle.head.specs.SubTable.{is_sdt, is_eit}

pub in_row : (id i : ℕ) → i < UNKNOWN → row_of id ≡ i → InRow i id
in_row id i h e = subst (λ (k : ℕ). InRow k id) e (row-in id (omega arith))

pub sdt_ids : (id : ℕ) → is_sdt id ≡ true ↔ ((id ≡ 0x42) ⊎ (id ≡ 0x46))
unfolding cell
sdt_ids id = (
  λ h. to (in_row id SDT (omega arith) (eqb-true (row_of id) SDT h)),
  λ h. eq-eqb (row_of id) SDT (row_is id SDT (omega arith) (from h)),
)
  where
    to : InRow SDT id → (id ≡ 0x42) ⊎ (id ≡ 0x46)
    to (inl (a, b)) = inl (omega arith)
    to (inr (a, b)) = inr (omega arith)

    from : (id ≡ 0x42) ⊎ (id ≡ 0x46) → InRow SDT id
    from (inl e) = inl (omega arith, omega arith)
    from (inr e) = inr (omega arith, omega arith)

pub eit_ids : (id : ℕ) → is_eit id ≡ true ↔ ((0x4E ≤ id) × (id ≤ 0x6F))
unfolding cell
eit_ids id = (
  λ h. to (in_row id EIT (omega arith) (eqb-true (row_of id) EIT h)),
  λ h. eq-eqb (row_of id) EIT (row_is id EIT (omega arith) (inl h)),
)
  where
    to : InRow EIT id → (0x4E ≤ id) × (id ≤ 0x6F)
    to (inl h) = h
    to (inr h) = h
