-- The four shapes of a table, and the columns of its row.
use Prim.Native.Nat.{ℕ, ◌<◌}
use mathlib.Core.Path.{◌≡◌, refl, ap₂}
use mathlib.Core.Bool.{Bool, true, false}
use native.Mathlib.Omega.{arith}
use borrow.Author.Tests.{eqb-true, eqb-false, eq-eqb, ne_eqb}
use lib.Dec.{eqb}
use Rattle.tables.specs.Tables.{row_at, place}
use Rattle.tables.specs.declared.Table.{Table}
use Rattle.tables.specs.declared.Table.TheVariants.{Nit, Sdt, Bat, Eit, Tdt, Tot}
use Rattle.tables.specs.declared.Row.{Row}
use Rattle.sheet.specs.Content.{TableShape, neither, top_only, entries_only, both, shape_by, shape_of, has_top}

-- each table has a row
pub place_known : (t : Table) → place t < 6
place_known Nit = omega arith
place_known Sdt = omega arith
place_known Bat = omega arith
place_known Eit = omega arith
place_known Tdt = omega arith
place_known Tot = omega arith

-- what the columns of a row of this shape have
abbrev pub Columns : Row → TableShape → Type 0
Columns row neither = (row.top ≡ 1 → ⊥) × (row.fixed ≡ 0)
Columns row top_only = (row.top ≡ 1) × (row.fixed ≡ 0)
Columns row entries_only = (row.top ≡ 1 → ⊥) × (row.fixed ≡ 0 → ⊥)
Columns row both = (row.top ≡ 1) × (row.fixed ≡ 0 → ⊥)

pub shape_columns : (row : ℕ) → Columns (row_at row) (shape_of row)
unfolding shape_of
shape_columns row = go _ _ refl refl
  where
    go : (t z : Bool) → eqb (row_at row).top 1 ≡ t → eqb (row_at row).fixed 0 ≡ z → Columns (row_at row) (shape_by t z)
    go false true p q = (eqb-false _ _ p, eqb-true _ _ q)
    go true true p q = (eqb-true _ _ p, eqb-true _ _ q)
    go false false p q = (eqb-false _ _ p, eqb-false _ _ q)
    go true false p q = (eqb-true _ _ p, eqb-false _ _ q)

-- no row has those of two shapes
pub columns_shape : (row : ℕ) (x : TableShape) → Columns (row_at row) x → shape_of row ≡ x
unfolding shape_of
columns_shape row neither c = ap₂ shape_by (ne_eqb _ _ c.0) (eq-eqb _ _ c.1)
columns_shape row top_only c = ap₂ shape_by (eq-eqb _ _ c.0) (eq-eqb _ _ c.1)
columns_shape row entries_only c = ap₂ shape_by (ne_eqb _ _ c.0) (ne_eqb _ _ c.1)
columns_shape row both c = ap₂ shape_by (eq-eqb _ _ c.0) (ne_eqb _ _ c.1)

pub has_top_lem : (row : ℕ) → eqb (row_at row).top 1 ≡ has_top (shape_of row)
unfolding shape_of
has_top_lem row = go (eqb (row_at row).top 1) (eqb (row_at row).fixed 0)
  where
    go : (t z : Bool) → t ≡ has_top (shape_by t z)
    go false true = refl
    go true true = refl
    go false false = refl
    go true false = refl
