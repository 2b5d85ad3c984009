-- Each table has a place of its own: so the promise `place_or_unknown table ≡ row_of id` allows one outcome.
use Prim.Native.Nat.{ℕ}
use mathlib.Core.Path.{◌≡◌, refl, sym, ◌∙◌, ap}
use lib.Dec.{eqb}
use Rattle.std.specs.Prelude.{Option, Some, None, if◌then◌else◌}
use Rattle.tables.specs.Tables.{NIT, SDT, BAT, EIT, TDT, TOT, place_or_unknown}
use Rattle.tables.specs.declared.Table.{Table}
use Rattle.tables.specs.declared.Table.TheVariants.{Nit, Sdt, Bat, Eit, Tdt, Tot}

table_at : ℕ → Option Table
table_at k =
    if eqb k NIT then Some Nit
    else if eqb k SDT then Some Sdt
    else if eqb k BAT then Some Bat
    else if eqb k EIT then Some Eit
    else if eqb k TDT then Some Tdt
    else if eqb k TOT then Some Tot
    else None

table_back : (t : Option Table) → table_at (place_or_unknown t) ≡ t
unfolding table_at
table_back None = refl
table_back (Some Nit) = refl
table_back (Some Sdt) = refl
table_back (Some Bat) = refl
table_back (Some Eit) = refl
table_back (Some Tdt) = refl
table_back (Some Tot) = refl

pub place_once : (t u : Option Table) → place_or_unknown t ≡ place_or_unknown u → t ≡ u
place_once t u e = sym (table_back t) ∙ ap table_at e ∙ table_back u
