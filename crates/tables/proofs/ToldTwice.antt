-- The table of tables says what the second telling says.
use Prim.Native.Nat.{ℕ, zero, suc, ◌<◌}
use mathlib.Core.Path.{◌≡◌, refl}
use mathlib.Core.Bool.{true}
use native.Mathlib.Omega.{arith}
use borrow.Author.Tests.{eqb-true}
use lib.ListN.{get_or}
use lib.Dec.{eqb}
use Rattle.tables.specs.Tables.{is_numbered, cell, row_at, holds, first, row_of}
use Rattle.tables.specs.Tables as row
use Rattle.tables.specs.Again.{row_by_id, NIT, SDT, BAT, EIT, TDT, TOT, numbered, rowTold, tables}
use Rattle.tables.proofs.RowLaws.{each, each_at}

ids_tested : each 256 (λ id. eqb (row_of id) (row_by_id id)) ≡ true
unfolding each holds row_of first
ids_tested = refl

-- each of a byte's 256 values has the row that it has by itself
pub row_by_id_lem : (id : ℕ) → id < 256 → row_of id ≡ row_by_id id
row_by_id_lem id h = eqb-true (row_of id) (row_by_id id) (each_at 256 (λ id. eqb (row_of id) (row_by_id id)) ids_tested id h)

-- the numbers of each row are those of what its sections are made of
pub row_told : (i : ℕ) → i < 6 → row_at i ≡ rowTold (get_or tables i NIT)
unfolding cell
row_told zero h = refl
row_told (suc zero) h = refl
row_told (suc (suc zero)) h = refl
row_told (suc (suc (suc zero))) h = refl
row_told (suc (suc (suc (suc zero)))) h = refl
row_told (suc (suc (suc (suc (suc zero))))) h = refl
row_told (suc (suc (suc (suc (suc (suc i)))))) h = absurd (omega arith)

-- each name is that of the table's row
pub named : (row_at row.NIT ≡ rowTold NIT) × (row_at row.SDT ≡ rowTold SDT) × (row_at row.BAT ≡ rowTold BAT)
    × (row_at row.EIT ≡ rowTold EIT) × (row_at row.TDT ≡ rowTold TDT) × (row_at row.TOT ≡ rowTold TOT)
unfolding cell
named = (refl, refl, refl, refl, refl, refl)

-- and no other table's
pub ids_named : (row_of 0x40 ≡ row.NIT) × (row_of 0x42 ≡ row.SDT) × (row_of 0x4A ≡ row.BAT) × (row_of 0x4E ≡ row.EIT)
    × (row_of 0x70 ≡ row.TDT) × (row_of 0x73 ≡ row.TOT) × (row_of 0 ≡ row.UNKNOWN)
unfolding holds row_of first
ids_named = (refl, refl, refl, refl, refl, refl, refl)

-- the four tables are those whose sections have extension id, version and section numbers
pub numbered_told : (i : ℕ) → i < row.UNKNOWN → is_numbered i ≡ eqb (numbered (get_or tables i NIT)) 1
numbered_told zero h = refl
numbered_told (suc zero) h = refl
numbered_told (suc (suc zero)) h = refl
numbered_told (suc (suc (suc zero))) h = refl
numbered_told (suc (suc (suc (suc zero)))) h = refl
numbered_told (suc (suc (suc (suc (suc zero))))) h = refl
numbered_told (suc (suc (suc (suc (suc (suc i)))))) h = absurd (omega arith)
