-- Document 01's sheets, which show no reserved field: what one shows can stand in a section, with ones there; and what a
-- section holds has such a sheet.
use Prim.{tt}
use Prim.Native.Nat.{ℕ, ◌-◌, ◌^◌}
use mathlib.Core.Path.{◌≡◌, refl, sym}
use mathlib.Core.List.{List}
use Rattle.wire.specs.Bytes.{Bytes}
use Rattle.wire.specs.Reading.{value}
use Rattle.forms.specs.Fields.{Field, kept, reserved, width, below, sheet_field}
use Rattle.forms.proofs.FieldLaws.{field_lawful, field_fits}
use Rattle.sheet.specs.Content.{Content}
use Rattle.sheet.specs.Sheet.{SheetOk}
use Rattle.sheet.specs.Section.{read_sheet}
use Rattle.contents.specs.Holds.{Holds}
use Rattle.contents.specs.Ones.{Ones, ReservedOnes}
use Rattle.contents.proofs.TwoForms.{Kin, same_kin}
use Rattle.contents.proofs.AnySheet as any

pub ones_kin : (f : Field) (v : ℕ) → Kin (below (2 ^ width f)) (sheet_field f) (Ones f) v
ones_kin (kept w) v = same_kin (λ o. o) (λ o. o) (λ o. tt)
ones_kin (reserved w) v = record {
  held = λ o h. field_fits (reserved w) v o;
  meant = λ o. o;
  alike = λ o h. record { other = 2 ^ w - 1; ok = refl; shown = refl; size = refl; same = λ o. sym o };
}

abbrev pub Held : List ℕ → Content → Type 0
Held = any.Held sheet_field field_lawful Ones ones_kin

pub held : (s : List ℕ) (c : Content) → Bytes s → read_sheet s ≡ value c → Held s c
held = any.held sheet_field field_lawful Ones ones_kin

-- "Reserved bits are written as ones."
pub ones_of : (c : Content) → SheetOk c → ReservedOnes c
ones_of = any.meant_of sheet_field field_lawful Ones ones_kin

abbrev pub OfSheet : Content → Type 0
OfSheet = any.OfSheet sheet_field field_lawful Ones ones_kin

pub of_sheet : (c : Content) → Holds c → OfSheet c
of_sheet = any.of_sheet sheet_field field_lawful Ones ones_kin
