-- The numbers of what is wrong: with a section from 1 to 10, with a sheet from 22.
use Prim.Native.Nat.{ℕ, ◌≤◌}
use mathlib.Core.List.{List}
use native.Mathlib.Omega.{arith}
use Rattle.tables.specs.declared.Row.{Row}
use Rattle.section.specs.Faults as faults
use Rattle.section.specs.Faults.{EntryFault, FillFault, InsideFault, Applies, First}
use Rattle.sheet.specs.Faults as sheets
use Rattle.sheet.specs.Faults.{SheetFault}

pub sheet_numbers : {s : List ℕ} {k : ℕ} → SheetFault s k → 22 ≤ k
sheet_numbers (sheets.early c u o h e) = omega arith
sheet_numbers (sheets.unknown h f) = omega arith
sheet_numbers (sheets.wide i h k g f) = omega arith
sheet_numbers (sheets.after c r o h e) = omega arith
sheet_numbers (sheets.long c o e h) = omega arith

-- 1 to 10
abbrev Numbered : ℕ → Type 0
Numbered k = (1 ≤ k) × (k ≤ 10)

entry_numbers : {fixed p k q : ℕ} {l : List ℕ} → EntryFault fixed p l k q → Numbered k
entry_numbers (faults.EntryFault.short h g) = (omega arith, omega arith)
entry_numbers (faults.EntryFault.past head l h g) = (omega arith, omega arith)
entry_numbers (faults.EntryFault.own head body l h f) = (omega arith, omega arith)
entry_numbers (faults.EntryFault.later head body h d f) = entry_numbers f

filling_numbers : {p k : ℕ} {m : List ℕ} {q : ℕ} → FillFault p m k q → Numbered k
filling_numbers (faults.FillFault.beyond h) = (omega arith, omega arith)
filling_numbers (faults.FillFault.short h) = (omega arith, omega arith)

inside_numbers : {row : Row} {p k q : ℕ} {m : List ℕ} → InsideFault row p m k q → Numbered k
inside_numbers (faults.InsideFault.filling t z f) = filling_numbers f
inside_numbers (faults.InsideFault.loop t z high low e f) = (omega arith, omega arith)
inside_numbers (faults.InsideFault.no_room t z h) = (omega arith, omega arith)
inside_numbers (faults.InsideFault.top t z high low body l e h f) = (omega arith, omega arith)
inside_numbers (faults.InsideFault.second t z high low body e h d f) = filling_numbers f
inside_numbers (faults.InsideFault.behind t z high low body e d high' low' e' f) = entry_numbers f
inside_numbers (faults.InsideFault.entries t z f) = entry_numbers f

applies_numbers : {s : List ℕ} {k : ℕ} → Applies s k → Numbered k
applies_numbers (faults.Applies.too_short h) = (omega arith, omega arith)
applies_numbers (faults.Applies.unknown f) = (omega arith, omega arith)
applies_numbers (faults.Applies.syntax i h t e) = (omega arith, omega arith)
applies_numbers (faults.Applies.below i h t e) = (omega arith, omega arith)
applies_numbers (faults.Applies.above i h t e) = (omega arith, omega arith)
applies_numbers (faults.Applies.size e) = (omega arith, omega arith)
applies_numbers (faults.Applies.register i h t c e) = (omega arith, omega arith)
applies_numbers (faults.Applies.numbers i h t c e) = (omega arith, omega arith)

pub section_numbers : {s : List ℕ} {k q : ℕ} → First s k q → (1 ≤ k) × (k ≤ 10)
section_numbers (faults.First.lowest a f) = applies_numbers a
section_numbers (faults.First.inside clear i middle c f) = inside_numbers f
