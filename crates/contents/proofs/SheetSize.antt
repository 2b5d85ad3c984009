-- "Largest results": a sheet has at most 5,120 bytes, a section at most 4,096.
use Prim.Native.Nat.{ℕ, ◌+◌, ◌*◌, ◌<◌, ◌≤◌}
use mathlib.Core.Path.{◌≡◌, sym, ap, subst}
use mathlib.Core.List.{List, [], ◌∷◌}
use native.Mathlib.Omega.{arith}
use native.Mathlib.Nat.{mul-suc}
use lib.ListN.{length, length-append}
use Rattle.tables.specs.Tables.{cell, row_at}
use Rattle.forms.specs.Form.{each_show}
use Rattle.forms.specs.Fields.{sheet_field}
use Rattle.forms.specs.Lists.{loop_show, all, All, none, one}
use Rattle.forms.proofs.FieldLaws.{field_lawful}
use Rattle.sheet.specs.Content.{entry_of, TableShape, neither, top_only, entries_only, both, shape_of, side_of, Entry, Entries, Content, entries_in, row_in, rest_in}
use Rattle.sheet.specs.Sheet.{sheet_of, SheetOk}
use Rattle.sheet.specs.Section.{section_item, section_loop, section_entry, section_entries_by, section_length, section_of}
use Rattle.sheet.specs.Inner.Lengths.{cut, gain}
use Rattle.sheet.proofs.SectionSize.{section_length_lem}
use Rattle.sheet.proofs.Sizes.{total, section_size}
use Rattle.contents.specs.Holds.{Holds, entries_bytes}
use Rattle.contents.specs.Ones.{Ones}
use Rattle.contents.proofs.SectionLaws.{sizes, section_items, each_row, numbers_of, body_length, shown_alike}
use Rattle.contents.proofs.AnySheet.{same_sheet, holds_of}
use Rattle.contents.proofs.Held.{ones_kin}

-- an entry has at least the bytes before its loop
entries_at_least : (row : ℕ) (l : List Entry) → All (section_entry row) l
    → (sizes (entry_of row) + 2) * length l ≤ length (all (section_entry row) l)
unfolding all loop_show
entries_at_least row [] none = omega arith
entries_at_least row (e ∷ l) (one o os) =
    let r = entries_at_least row l os in
    let a = length-append ((section_entry row).show e) (all (section_entry row) l) in
    let b = length-append (each_show section_item (entry_of row) e.0) ((section_loop (side_of row)).show e.1) in
    let g = section_items (entry_of row) e.0 o.0 in
    let k = mul-suc (sizes (entry_of row) + 2) (length l) in
    omega arith

rest_at_least : (x : TableShape) (row n : ℕ) (p : Entries) → (section_entries_by x row n).Ok p
    → (sizes (entry_of row) + 2) * length p.1 ≤ length ((section_entries_by x row n).show p)
unfolding loop_show
rest_at_least neither row n p o = subst (λ (q : Entries). (sizes (entry_of row) + 2) * length q.1 ≤ 0) (sym o) (omega arith)
rest_at_least top_only row n p o = subst (λ (q : Entries). (sizes (entry_of row) + 2) * length q.1 ≤ 0) (sym o) (omega arith)
rest_at_least entries_only row n p o = entries_at_least row p.1 o.1.1
rest_at_least both row n p o = let h = entries_at_least row p.1 o.2 in omega arith

-- the numbers of a row
abbrev Small : ℕ → Type 0
Small row = (n k l : ℕ) → n ≤ (row_at row).most → (sizes (entry_of row) + 2) * k ≤ n
    → n + cut row * k + 1 ≡ l + gain row → l ≤ 5120

small : (row : ℕ) → row < 6 → Small row
unfolding cell entry_of total cut gain
small =
    each_row Small (λ n k l m f e. omega arith) (λ n k l m f e. omega arith) (λ n k l m f e. omega arith)
    (λ n k l m f e. omega arith) (λ n k l m f e. omega arith) (λ n k l m f e. omega arith)

-- a content that a sheet can show
shown_fits : (c : Content) → SheetOk c → Holds c → length (sheet_of c) ≤ 5120
unfolding section_length
shown_fits c o h =
    let row = row_in c in
    let n : ℕ = length (entries_bytes c) in
    let rest = rest_in c in
    let same = ap length (shown_alike (shape_of row) row n 0 rest) in
    let k = rest_at_least (shape_of row) row n rest h.body.1.1 in
    let l = body_length c h in
    let b = (numbers_of row h.known).head in
    small row h.known (section_length c) (length (entries_in c)) (length (sheet_of c)) h.most (omega arith)
    (section_size c o)

-- any other has the sheet of such a one
pub sheet_fits : (c : Content) → Holds c → length (sheet_of c) ≤ 5120
sheet_fits c h =
    let x = same_sheet sheet_field field_lawful Ones ones_kin c h in
    subst (λ l. length l ≤ 5120) x.shown
    (shown_fits x.other x.ok (holds_of sheet_field field_lawful Ones ones_kin x.other x.ok x.fits))

pub section_fits : (c : Content) → Holds c → length (section_of c) ≤ 4096
section_fits c h =
    let l = section_length_lem c h.known in
    let m = h.most in
    let n = (numbers_of (row_in c) h.known).most in
    omega arith
