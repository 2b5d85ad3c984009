-- How long the section of a sheet is: section_length from the sheet's length and the number of its entries.
use Prim.Native.Nat.{ℕ, zero, suc, ◌+◌, ◌*◌, ◌/◌, ◌%◌, ◌<◌, ◌≤◌}
use mathlib.Core.Path.{◌≡◌, refl, sym, ap, ap₂, ◌∙◌}
use mathlib.Core.Bool.{Bool, true, false}
use mathlib.Core.List.{List, [], ◌∷◌, ◌++◌}
use native.Mathlib.Omega.{arith}
use lib.ListN.{length, get_or, length-append}
use lib.Seq.{get_or-append-add}
use Rattle.std.specs.Prelude.{if◌then◌else◌}
use Rattle.wire.specs.Number.{number_at}
use Rattle.tables.specs.Tables.{cell, row_at}
use Rattle.forms.specs.Form.{Form, mute, ◌then◌, each_show, EachOk, each}
use Rattle.forms.specs.Fields.{Field, kept, reserved, sheet_field, sheet_fields}
use Rattle.forms.specs.Lists.{all, All, none, one, counted_show, counted, loop_show, loop, filling}
use Rattle.sheet.specs.Content.{Item, plain, numbers, packed, bare, frame, head_of, entry_of, TableShape, neither, top_only, entries_only, both, shape_of, has_top, side_of, Fields, Loop, Entry, Entries, Body, Content, table_of, row_in}
use Rattle.sheet.specs.Sheet.{item_for, loop_for, entry_for, behind_for, sheet_item, descriptor, sheet_entry, top_for, top_for_by, entries_for, behind_id, sheet_of, shown_for, SheetOk, OkFor}
use Rattle.sheet.specs.Inner.Lengths.{cut, gain, count_at, spare}
use Rattle.sheet.specs.Section.{section_item, section_loop, section_entry, section_top, section_top_by, section_entries, section_body, section_length}

-- ---- items and loops

-- the bytes of an item in a section
abbrev pub in_section : Item → ℕ
in_section (plain n) = n
in_section numbers = 2
in_section (packed fs) = 1

unfoldable pub total : (Item → ℕ) → List Item → ℕ
total f [] = 0
total f (x ∷ xs) = f x + total f xs

-- items are as long as each of them, shown in the form f, where they can be shown in the form g
pub items_size : (f g : Item → Form (List ℕ)) (size : Item → ℕ) → ((x : Item) (v : List ℕ) → (g x).Ok v → length ((f x).show v) ≡ size x)
    → (xs : List Item) (vs : Fields) → EachOk g xs vs → length (each_show f xs vs) ≡ total size xs
unfolding each_show EachOk total
items_size f g size h [] [] o = refl
items_size f g size h [] (v ∷ vs) o = absurd o
items_size f g size h (x ∷ xs) [] o = absurd o
items_size f g size h (x ∷ xs) (v ∷ vs) o =
    let l = length-append ((f x).show v) (each_show f xs vs) in
    let i = h x v o.0 in
    let j = items_size f g size h xs vs o.1 in
    omega arith

counted_size : {A : Type 0} (c : Form A) (l : List A) → length ((counted c).show l) ≡ 2 + length (all c l)
unfolding counted_show
counted_size c l = omega arith

loop-size : {A : Type 0} (c : Form A) (fs : List Field) (p : List ℕ × List A) → length ((loop c fs).show p) ≡ 2 + length (all c p.1)
unfolding loop_show
loop-size c fs p = omega arith

-- ---- by how a field is shown, and by how many bytes

module _ (field : Field → Form ℕ) (field_size : Field → ℕ)
    (sized : (f : Field) (v : ℕ) → length ((field f).show v) ≡ field_size f) where
  -- the bytes that fields take in a sheet
  fields_size : List Field → ℕ
  fields_size [] = 0
  fields_size (f ∷ fs) = field_size f + fields_size fs

  fields_size_lem : (fs : List Field) (vs : List ℕ) → (each field fs).Ok vs → length ((each field fs).show vs) ≡ fields_size fs
  unfolding each_show EachOk fields_size
  fields_size_lem [] [] o = refl
  fields_size_lem [] (v ∷ vs) o = absurd o
  fields_size_lem (f ∷ fs) [] o = absurd o
  fields_size_lem (f ∷ fs) (v ∷ vs) o =
      let l = length-append ((field f).show v) (each_show field fs vs) in
      let h = sized f v in
      let g = fields_size_lem fs vs o.1 in
      omega arith

  -- the bytes that items take in a sheet, and in a section
  abbrev in_sheet : Item → ℕ
  in_sheet (plain n) = n
  in_sheet numbers = 2
  in_sheet (packed fs) = fields_size fs

  sheet_item_lem : (x : Item) (v : List ℕ) → (item_for field x).Ok v → length ((item_for field x).show v) ≡ in_sheet x
  sheet_item_lem (plain n) v o = o
  sheet_item_lem numbers v o = o.0
  sheet_item_lem (packed fs) v o = fields_size_lem fs v o

  section_item_lem : (x : Item) (v : List ℕ) → (item_for field x).Ok v → length ((section_item x).show v) ≡ in_section x
  section_item_lem (plain n) v o = o
  section_item_lem numbers v o = o.0
  section_item_lem (packed fs) v o = refl

  sheet_items : (xs : List Item) (vs : Fields) → EachOk (item_for field) xs vs → length
      ((each (item_for field) xs).show vs) ≡ total in_sheet xs
  sheet_items = items_size (item_for field) (item_for field) in_sheet sheet_item_lem

  section_items : (xs : List Item) (vs : Fields) → EachOk (item_for field) xs vs → length
      ((each section_item xs).show vs) ≡ total in_section xs
  section_items = items_size section_item (item_for field) in_section section_item_lem

  -- ---- loops and entries

  -- a loop is as long in the section, but for what stands beside it in the sheet
  side_size : (fs : List Field) (p : Loop) → (loop_for field fs).Ok p
      → length ((loop_for field fs).show p) ≡ fields_size fs + length ((section_loop fs).show p)
  side_size fs p o =
      let l = length-append ((each field fs).show p.0) ((counted descriptor).show p.1) in
      let f = fields_size_lem fs p.0 o.0 in
      let g = counted_size descriptor p.1 in
      let h = loop-size descriptor fs p in
      omega arith

  module _ (row cut : ℕ) (by : total in_sheet (entry_of row) + fields_size (side_of row) ≡ cut + total in_section (entry_of row)) where
    entry_size : (e : Entry) → (entry_for field row).Ok e → length ((entry_for field row).show e) ≡ cut + length
        ((section_entry row).show e)
    entry_size e o =
        let l = length-append ((each (item_for field) (entry_of row)).show e.0) ((loop_for field (side_of row)).show e.1) in
        let m = length-append ((each section_item (entry_of row)).show e.0) ((section_loop (side_of row)).show e.1) in
        let a = sheet_items (entry_of row) e.0 o.0 in
        let b = section_items (entry_of row) e.0 o.0 in
        let d = side_size (side_of row) e.1 o.1 in
        omega arith

    all_size : (es : List Entry) → All (entry_for field row) es
        → length (all (entry_for field row) es) ≡ cut * length es + length (all (section_entry row) es)
    unfolding all
    all_size [] none = omega arith
    all_size (e ∷ es) (one o os) =
        let l = length-append ((entry_for field row).show e) (all (entry_for field row) es) in
        let m = length-append ((section_entry row).show e) (all (section_entry row) es) in
        let a = entry_size e o in
        let b = all_size es os in
        omega arith

    -- entries after a length of their own
    sized_entries : (es : Entries) → (each field bare then counted (entry_for field row)).Ok es
        → length ((each field bare then counted (entry_for field row)).show es)
        ≡ fields_size bare + cut * length es.1 + length ((loop (section_entry row) bare).show es)
    unfolding fields_size
    sized_entries es o =
        let l = length-append ((each field bare).show es.0) ((counted (entry_for field row)).show es.1) in
        let f = fields_size_lem bare es.0 o.0 in
        let g = counted_size (entry_for field row) es.1 in
        let h = loop-size (section_entry row) bare es in
        let a = all_size es.1 o.1.1 in
        omega arith

    -- entries up to the CRC_32
    bare_entries : (es : Entries) → (each field [] then counted (entry_for field row)).Ok es
        → length ((each field [] then counted (entry_for field row)).show es)
        ≡ 2 + cut * length es.1 + length ((mute [] then filling (section_entry row) 0).show es)
    unfolding fields_size
    bare_entries es o =
        let l = length-append ((each field []).show es.0) ((counted (entry_for field row)).show es.1) in
        let f = fields_size_lem [] es.0 o.0 in
        let g = counted_size (entry_for field row) es.1 in
        let a = all_size es.1 o.1.1 in
        omega arith

  -- ---- the top loop

  top_size : (x : TableShape) (p : Loop) → (top_for_by field x).Ok p
      → length ((top_for_by field x).show p) ≡ (if has_top x then fields_size bare else 0) + length ((section_top_by x).show p)
  top_size neither p o = refl
  top_size top_only p o = side_size bare p o
  top_size entries_only p o = refl
  top_size both p o = side_size bare p o

  -- ---- by the row

  module _ (row : ℕ) (b : List ℕ × Body) (o : (behind_for field row).Ok b) where
    behind_size : length ((behind_for field row).show b)
        ≡ fields_size frame + total in_sheet (head_of row) + length ((top_for field row).show b.1.1.0)
        + length ((entries_for field row).show b.1.1.1)
    unfolding fields_size
    behind_size =
        let f = fields_size_lem frame b.0 o.0 in
        let h = sheet_items (head_of row) b.1.0 o.1.0 in
        let x = (each field frame).show b.0 in
        let y = (each (item_for field) (head_of row)).show b.1.0 in
        let z = (top_for field row).show b.1.1.0 in
        let v = (entries_for field row).show b.1.1.1 in
        let l = length-append x (y ++ (z ++ v)) in
        let m = length-append y (z ++ v) in
        let n = length-append z v in
        omega arith

    body_size : length ((section_body row 0).show b.1)
        ≡ total in_section (head_of row) + length ((section_top row).show b.1.1.0)
        + length ((section_entries row 0).show b.1.1.1)
    body_size =
        let h = section_items (head_of row) b.1.0 o.1.0 in
        let y = (each section_item (head_of row)).show b.1.0 in
        let z = (section_top row).show b.1.1.0 in
        let v = (section_entries row 0).show b.1.1.1 in
        let m = length-append y (z ++ v) in
        let n = length-append z v in
        omega arith

-- ---- document 01's sheets

-- the bytes that fields take in a sheet
abbrev field_size : Field → ℕ
field_size (kept w) = 1
field_size (reserved w) = 0

field_size_lem : (f : Field) (v : ℕ) → length ((sheet_field f).show v) ≡ field_size f
field_size_lem (kept w) v = refl
field_size_lem (reserved w) v = refl

same_top : (x : TableShape) (p : Loop) → (top_for_by sheet_field x).Ok p
    → length ((top_for_by sheet_field x).show p) ≡ length ((section_top_by x).show p)
unfolding fields_size
same_top x p o = top_size sheet_field field_size field_size_lem x p o ∙ go (has_top x)
  where
    go : (b : Bool) → (if b then 0 else 0) + length ((section_top_by x).show p) ≡ length ((section_top_by x).show p)
    go true = omega arith
    go false = omega arith

-- the number of entries
abbrev pub number_in : List ℕ × Body → ℕ
number_in b = length b.1.1.1.1

Sized : ℕ → List ℕ × Body → Type 0
Sized row b = length ((section_body row 0).show b.1) + 4 * (row_at row).crc + cut row * number_in b ≡ length
    ((behind_id row).show b) + gain row

size_of : (row : ℕ) (b : List ℕ × Body) → row < 6 → (behind_id row).Ok b → Sized row b
unfolding Sized cell cut gain head_of entry_of shape_of side_of total fields_size
size_of zero b h o =
    let e = sized_entries sheet_field field_size field_size_lem 0 0 refl b.1.1.1 o.1.1.1 in
    omega (
      arith,
      behind_size sheet_field field_size field_size_lem 0 b o,
      body_size sheet_field field_size field_size_lem 0 b o,
      same_top (shape_of 0) b.1.1.0 o.1.1.0,
    )
size_of (suc zero) b h o =
    let e = bare_entries sheet_field field_size field_size_lem 1 3 refl b.1.1.1 o.1.1.1 in
    omega (
      arith,
      behind_size sheet_field field_size field_size_lem 1 b o,
      body_size sheet_field field_size field_size_lem 1 b o,
      same_top (shape_of 1) b.1.1.0 o.1.1.0,
    )
size_of (suc (suc zero)) b h o =
    let e = sized_entries sheet_field field_size field_size_lem 2 0 refl b.1.1.1 o.1.1.1 in
    omega (
      arith,
      behind_size sheet_field field_size field_size_lem 2 b o,
      body_size sheet_field field_size field_size_lem 2 b o,
      same_top (shape_of 2) b.1.1.0 o.1.1.0,
    )
size_of (suc (suc (suc zero))) b h o =
    let e = bare_entries sheet_field field_size field_size_lem 3 2 refl b.1.1.1 o.1.1.1 in
    omega (
      arith,
      behind_size sheet_field field_size field_size_lem 3 b o,
      body_size sheet_field field_size field_size_lem 3 b o,
      same_top (shape_of 3) b.1.1.0 o.1.1.0,
    )
size_of (suc (suc (suc (suc zero)))) b h o = omega (
  arith,
  behind_size sheet_field field_size field_size_lem 4 b o,
  body_size sheet_field field_size field_size_lem 4 b o,
  same_top (shape_of 4) b.1.1.0 o.1.1.0,
)
size_of (suc (suc (suc (suc (suc zero))))) b h o = omega (
  arith,
  behind_size sheet_field field_size field_size_lem 5 b o,
  body_size sheet_field field_size field_size_lem 5 b o,
  same_top (shape_of 5) b.1.1.0 o.1.1.0,
)
size_of (suc (suc (suc (suc (suc (suc n)))))) b h o = absurd (omega arith)

-- section_length, from the length of the sheet and the number of entries
pub section_size : (c : Content) → SheetOk c → section_length c + cut (row_in c) * number_in c.1 + 1 ≡ length
    (sheet_of c) + gain (row_in c)
unfolding OkFor shown_for section_length Sized
section_size c o = let e = size_of (row_in c) c.1 o.0 o.1 in omega arith

-- ---- the number of the entries, where a table has no top loop

nothing : (l : List ℕ) → length l ≡ 0 → l ≡ []
nothing [] e = refl
nothing (x ∷ l) e = absurd (omega arith)

after_head : (id : ℕ) (h rest : List ℕ) (k i j : ℕ) → length h ≡ k → number_at 2 (id ∷ (h ++ (i ∷ j ∷ rest))) (k + 1) ≡ i * 256 + j
unfolding number_at
after_head id h rest k i j e =
    let a : length (id ∷ h) + 0 ≡ k + 1 = omega arith in
    let b : length (id ∷ h) + 1 ≡ k + 1 + 1 = omega arith in
    let x : get_or (id ∷ (h ++ (i ∷ j ∷ rest))) (k + 1) 0 ≡ i =
    ap (λ n. get_or (id ∷ (h ++ (i ∷ j ∷ rest))) n 0) (sym a) ∙ get_or-append-add (id ∷ h) (i ∷ j ∷ rest) 0 0 in
    let y : get_or (id ∷ (h ++ (i ∷ j ∷ rest))) (k + 1 + 1) 0 ≡ j =
    ap (λ n. get_or (id ∷ (h ++ (i ∷ j ∷ rest))) n 0) (sym b) ∙ get_or-append-add (id ∷ h) (i ∷ j ∷ rest) 1 0 in
    ap₂ (λ (m n : ℕ). m * 256 + n) x y

-- what stands between the head and the entries shows no byte
count_behind : (id k : ℕ) (f h : List ℕ) {A : Type 0} (c : Form A) (l : List A) → length f ≡ 0 → length h ≡ k
    → number_at 2 (id ∷ (f ++ (h ++ (counted c).show l))) (k + 1) ≡ length l
unfolding counted_show
count_behind id k f h c l e g =
    let n : ℕ = length l in
    ap (λ x. number_at 2 (id ∷ (x ++ (h ++ (counted c).show l))) (k + 1)) (nothing f e)
    ∙ after_head id h (all c l) k (n / 256) (n % 256) g
    ∙ omega arith

entries_cut : (row id : ℕ) (b : List ℕ × Body) → row < 6 → (behind_id row).Ok b
    → cut row * number_at 2 (id ∷ (behind_id row).show b) (count_at row) ≡ cut row * number_in b
unfolding cut count_at cell head_of shape_of total fields_size each_show
entries_cut zero id b h o = omega arith
entries_cut (suc zero) id b h o =
    ap (λ n. 3 * n)
    (count_behind id 8 ((sheet_fields frame).show b.0) ((each sheet_item (head_of 1)).show b.1.0) (sheet_entry 1)
    b.1.1.1.1
    (fields_size_lem sheet_field field_size field_size_lem frame b.0 o.0)
    (sheet_items sheet_field field_size field_size_lem (head_of 1) b.1.0 o.1.0))
entries_cut (suc (suc zero)) id b h o = omega arith
entries_cut (suc (suc (suc zero))) id b h o =
    ap (λ n. 2 * n)
    (count_behind id 12 ((sheet_fields frame).show b.0) ((each sheet_item (head_of 3)).show b.1.0) (sheet_entry 3)
    b.1.1.1.1
    (fields_size_lem sheet_field field_size field_size_lem frame b.0 o.0)
    (sheet_items sheet_field field_size field_size_lem (head_of 3) b.1.0 o.1.0))
entries_cut (suc (suc (suc (suc zero)))) id b h o = omega arith
entries_cut (suc (suc (suc (suc (suc zero))))) id b h o = omega arith
entries_cut (suc (suc (suc (suc (suc (suc n)))))) id b h o = absurd (omega arith)

-- section_length, from the sheet's bytes
pub section_spare : (c : Content) → SheetOk c → section_length c + spare (row_in c) (sheet_of c) ≡ length (sheet_of c) + gain (row_in c)
unfolding OkFor shown_for spare
section_spare c o = let e = section_size c o in let f = entries_cut (row_in c) (table_of c) c.1 o.0 o.1 in omega arith

-- ---- row by row

pub gain_none : (row : ℕ) → 4 ≤ row → (row ≡ 5 → ⊥) → gain row ≡ 0
unfolding gain
gain_none zero h g = absurd (omega arith)
gain_none (suc zero) h g = absurd (omega arith)
gain_none (suc (suc zero)) h g = absurd (omega arith)
gain_none (suc (suc (suc zero))) h g = absurd (omega arith)
gain_none (suc (suc (suc (suc zero)))) h g = refl
gain_none (suc (suc (suc (suc (suc zero))))) h g = absurd (g refl)
gain_none (suc (suc (suc (suc (suc (suc n)))))) h g = refl

pub gain_loops : (row : ℕ) → row < 4 → (row ≡ 1 → ⊥) → (row ≡ 3 → ⊥) → gain row ≡ 3
unfolding gain
gain_loops zero h f g = refl
gain_loops (suc zero) h f g = absurd (f refl)
gain_loops (suc (suc zero)) h f g = refl
gain_loops (suc (suc (suc zero))) h f g = absurd (g refl)
gain_loops (suc (suc (suc (suc n)))) h f g = absurd (omega arith)

cut_none : (row : ℕ) → (row ≡ 1 → ⊥) → (row ≡ 3 → ⊥) → cut row ≡ 0
unfolding cut
cut_none zero f g = refl
cut_none (suc zero) f g = absurd (f refl)
cut_none (suc (suc zero)) f g = refl
cut_none (suc (suc (suc zero))) f g = absurd (g refl)
cut_none (suc (suc (suc (suc zero)))) f g = refl
cut_none (suc (suc (suc (suc (suc zero))))) f g = refl
cut_none (suc (suc (suc (suc (suc (suc n)))))) f g = refl

pub spare_one : (row : ℕ) (s : List ℕ) → (row ≡ 1 → ⊥) → (row ≡ 3 → ⊥) → spare row s ≡ 1
unfolding spare
spare_one row s f g = rw (cut_none row f g) (omega arith)
