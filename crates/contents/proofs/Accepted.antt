-- A section made of what it can hold is accepted by the judge.
use Prim.Native.Nat.{ℕ, ◌+◌, ◌-◌, ◌*◌, ◌/◌, ◌%◌, ◌<◌, ◌≤◌}
use mathlib.Core.Path.{◌≡◌, refl, sym, ap, ap₂, ◌∙◌, subst}
use mathlib.Core.List.{List, [], ◌∷◌, ◌++◌, append_assoc, append-nil}
use native.Mathlib.Omega.{arith}
use borrow.Author.Tests.{leb-true, eq-eqb}
use lib.ListN.{length, get_or, length-append, get_or-append}
use lib.Seq.{get_or_at, get_or-append-add}
use Rattle.std.specs.Prelude.{if◌then◌else◌}
use Rattle.wire.specs.Bytes.{len12, len12_at}
use Rattle.crc.specs.Crc.{crc, bytes_of}
use Rattle.crc.proofs.Closes.{closes}
use Rattle.tables.specs.Tables.{cell, row_at, InRow}
use Rattle.tables.proofs.RowLaws.{row-in}
use Rattle.verdict.specs.Verdict.{accepted}
use Rattle.loops.specs.Descriptors.{Placed}
use Rattle.loops.specs.Grammar as loops
use Rattle.section.specs.Grammar as grammar
use Rattle.section.specs.Reading.{judged}
use Rattle.section.proofs.Exactly.{section_judged}
use Rattle.forms.specs.Form.{Form, ◌then◌, each_show, EachOk}
use Rattle.forms.specs.Fields.{Field, room, pack}
use Rattle.forms.specs.Lists.{loop, loop_show, all, All, none, one}
use Rattle.forms.proofs.Lawful.{two_of}
use Rattle.forms.proofs.FieldLaws.{pack_lt}
use Rattle.sheet.specs.Content.{Item, common, bare, head_of, entry_of, TableShape, neither, top_only, entries_only, both, shape_of, side_of, Fields, Descriptor, Loop, Entry, Entries, Content, table_of, row_in, rest_in, top_in, head_in}
use Rattle.sheet.specs.Sheet.{descriptor}
use Rattle.sheet.specs.Section.{section_item, section_entry, section_top, section_top_by, section_entries_by, section_length, front, seal, section_of}
use Rattle.sheet.proofs.Shapes.{Columns, shape_columns}
use Rattle.sheet.proofs.SectionSize.{seal_length, front_is, section_length_lem, second}
use Rattle.contents.specs.Holds.{Holds, entries_bytes}
use Rattle.contents.proofs.SectionLaws.{half_bare, half_side, section_items, sizes, shortest, Numbers, each_row, numbers_of, body_length, first_byte, second_byte, third_byte, frame_lt, shown_alike}

-- ---- loops

pub descriptors_stand : (p : ℕ) (l : List Descriptor) → (ds : List Placed) × loops.Descriptors p (all descriptor l) ds
unfolding all
descriptors_stand p [] = ([], loops.none)
descriptors_stand p (d ∷ l) =
    let r = descriptors_stand (p + 2 + length d.body) l in
    (_, loops.one d.tag d.body r.1)

-- the two bytes before a loop say how long it is
pub says : {A : Type 0} (c : Form A) (fs : List Field) → room fs ≡ 16 → (p : List ℕ × List A) → (loop c fs).Ok p
    → len12 (pack fs p.0 * 16 + length (all c p.1) / 256) (length (all c p.1) % 256) ≡ length (all c p.1)
says c fs half p o = let k = pack_lt fs p.0 o.0 in let h = o.1 in omega arith

-- a 12-bit length at the end of a head
len12_last : (l : List ℕ) (x y : ℕ) → len12_at (l ++ (x ∷ y ∷ [])) (length l) ≡ len12 x y
len12_last l x y =
    let i : get_or (l ++ (x ∷ y ∷ [])) (length l) 0 ≡ x = get_or_at l x (y ∷ []) 0 (length l) refl in
    let j : get_or (l ++ (x ∷ y ∷ [])) (length l + 1) 0 ≡ y = get_or-append-add l (x ∷ y ∷ []) 1 0 in
    ap₂ len12 i j

-- ---- entries

module _ (row : ℕ) (size : sizes (entry_of row) + 2 ≡ (row_at row).fixed) where
  abbrev fixed : ℕ
  fixed = (row_at row).fixed

  pub entries_stand : (p : ℕ) (l : List Entry) → All (section_entry row) l
      → (ds : List (List Placed)) × grammar.Entries fixed p (all (section_entry row) l) ds
  unfolding all loop_show
  entries_stand p [] none = ([], grammar.none)
  entries_stand p (e ∷ l) (one o os) =
      let fs = side_of row in
      let items = each_show section_item (entry_of row) e.0 in
      let body = all descriptor e.1.1 in
      let n : ℕ = length body in
      let x : ℕ = pack fs e.1.0 * 16 + n / 256 in
      let y : ℕ = n % 256 in
      let head = items ++ (x ∷ y ∷ []) in
      let rest = all (section_entry row) l in
      let i = section_items (entry_of row) e.0 o.0 in
      let k : fixed - 2 ≡ length items = omega arith in
      let h : grammar.Head fixed head body = record {
        size = length-append items (x ∷ y ∷ []) ∙ omega arith;
        says = ap (len12_at head) k ∙ len12_last items x y ∙ says descriptor fs (half_side row) e.1 o.1;
      } in
      let d = descriptors_stand (p + fixed) e.1.1 in
      let r = entries_stand (p + fixed + n) l os in
      let w : head ++ (body ++ rest) ≡ (items ++ (x ∷ y ∷ body)) ++ rest =
      append_assoc items (x ∷ y ∷ []) (body ++ rest) ∙ sym (append_assoc items (x ∷ y ∷ body) rest) in
      (d.0 ∷ r.0, subst (λ b. grammar.Entries fixed p b (d.0 ∷ r.0)) w (grammar.one head body h d.1 r.1))

-- ---- between head and CRC_32

module _ (row p : ℕ) (size : ((row_at row).fixed ≡ 0 → ⊥) → sizes (entry_of row) + 2 ≡ (row_at row).fixed) (l : Loop)
    (es : Entries) where
  abbrev Stands : List ℕ → Type 0
  Stands m = (ds : List (List Placed)) × grammar.Inside (row_at row) p m ds

  pub inside_stands : (x : TableShape) (n : ℕ) → Columns (row_at row) x → (section_top_by x).Ok l → (section_entries_by x row n).Ok es
      → Stands ((section_top_by x).show l ++ (section_entries_by x row n).show es)
  unfolding loop_show
  inside_stands neither n c o k = ([], grammar.nothing c.0 c.1)
  inside_stands top_only n c o k =
      let d = descriptors_stand (p + 2) l.1 in (
        d.0 ∷ [],
        subst (λ m. grammar.Inside (row_at row) p m (d.0 ∷ [])) (sym (append-nil (loop_show descriptor bare l)))
            (grammar.loop c.0 c.1 _ _ (says descriptor bare half_bare l o) d.1),
      )
  inside_stands entries_only n c o k =
      let r = entries_stand row (size c.1) p es.1 k.1.1 in ([] ∷ r.0, grammar.entries c.0 c.1 r.1)
  inside_stands both n c o k =
      let d = descriptors_stand (p + 2) l.1 in
      let r = entries_stand row (size c.1) (p + (2 + length (all descriptor l.1)) + 2) es.1 k.2 in (
        d.0 ∷ r.0,
        grammar.loops c.0 c.1 _ _ (all descriptor l.1) (says descriptor bare half_bare l o) d.1 _ _
            (says (section_entry row) bare half_bare es k) r.1,
      )

  -- and how long that is at least
  pub at_least : (x : TableShape) (n : ℕ) → shortest x ≤ length ((section_top_by x).show l) + length
      ((section_entries_by x row n).show es)
  unfolding loop_show
  at_least neither n = omega arith
  at_least top_only n = omega arith
  at_least entries_only n = omega arith
  at_least both n = omega arith

-- ---- the header

-- section_number and last_section_number stand in their order, behind extension id and version
common_order : (more : List Item) (l : Fields) → EachOk section_item (common more) l
    → (get_or (each_show section_item (common more) l) 3 0 ≤ get_or (each_show section_item (common more) l) 4 0)
    × (5 ≤ length (each_show section_item (common more) l))
unfolding each_show EachOk
common_order more [] o = absurd o
common_order more (a ∷ []) o = absurd o.1
common_order more (a ∷ v ∷ []) o = absurd o.1.1
common_order more (a ∷ v ∷ b ∷ l) o =
    let numbers-ok = o.1.1.0 in
    let i = leb-true _ _ numbers-ok.1 in
    rw (two_of a o.0, two_of b numbers-ok.0) (i, omega arith)

abbrev InOrder : ℕ → Type 0
InOrder row = (row_at row).syntax ≡ 1 → (l : Fields) → EachOk section_item (head_of row) l
    → (get_or (each_show section_item (head_of row) l) 3 0 ≤ get_or (each_show section_item (head_of row) l) 4 0)
    × (5 ≤ length (each_show section_item (head_of row) l))

in_order : (row : ℕ) → row < 6 → InOrder row
unfolding head_of cell
in_order =
    each_row InOrder (λ e. common_order _) (λ e. common_order _) (λ e. common_order _) (λ e. common_order _)
    (λ e. absurd (omega arith)) (λ e. absurd (omega arith))

module _ (c : Content) (h : Holds c) where
  abbrev row : ℕ
  row = row_in c

  abbrev heads : List ℕ
  heads = each_show section_item (head_of row) (head_in c)

  abbrev inner : List ℕ
  inner = (section_top row).show (top_in c) ++ entries_bytes c

  abbrev opened : List ℕ
  opened = table_of c ∷ second c ∷ (section_length c % 256) ∷ heads

  known : Numbers row
  known = numbers_of row h.known

  whole : section_of c ≡ opened ++ (inner ++ seal c)
  unfolding section_of
  whole = ap (λ x. x ++ seal c) (front_is c) ∙ append_assoc opened inner (seal c)

  long : length (section_of c) ≡ 3 + section_length c
  long = section_length_lem c h.known

  declares : len12_at (section_of c) 1 ≡ section_length c
  declares =
      let f = frame_lt c h in
      let m = h.most in
      let k = known.most in
      let e : len12 (second c) (section_length c % 256) ≡ section_length c = omega arith in
      ap₂ len12 (second_byte c) (third_byte c) ∙ e

  not_short : (row_at row).least ≤ section_length c
  unfolding section_length
  not_short =
      let l = body_length c h in
      let a = at_least row (row_at row).before known.entry (top_in c) (rest_in c) (shape_of row) 0 in
      let n = known.least in
      omega arith

  ordered : (row_at row).syntax ≡ 1 → get_or (section_of c) 6 0 ≤ get_or (section_of c) 7 0
  ordered e =
      let o = in_order row h.known e (head_in c) h.body.0 in
      let l = o.1 in
      let at : (i : ℕ) → i < length opened → get_or (section_of c) i 0 ≡ get_or opened i 0 =
      λ i g. ap (λ x. get_or x i 0) whole ∙ get_or-append opened (inner ++ seal c) 0 i g in
      let six = at 6 (omega arith) in
      let seven = at 7 (omega arith) in
      let m = o.0 in
      subst (λ x. x ≤ get_or (section_of c) 7 0) (sym six) (subst (λ y. get_or opened 6 0 ≤ y) (sym seven) m)

  header : grammar.Header (row_at row) (section_of c)
  header =
      let f = frame_lt c h in
      let m = h.most in
      let k = known.most in
      let s : second c / 128 ≡ (row_at row).syntax = omega arith in
      record {
        syntax = ap (λ x. x / 128) (second_byte c) ∙ s;
        least = subst (λ n. (row_at row).least ≤ n) (sym declares) not_short;
        most = subst (λ n. n ≤ (row_at row).most) (sym declares) m;
        size = long ∙ ap (λ n. 3 + n) (sym declares);
        numbers = ordered;
      }

  cut : grammar.Cut row (section_of c) inner
  cut =
      let z = section_items (head_of row) (head_in c) h.body.0 in
      let n = known.head in
      record {
        known = h.known;
        table = subst (InRow row) (sym (first_byte c)) (row-in (table_of c) h.known);
        head = opened;
        tail = seal c;
        whole = whole;
        before = omega arith;
        last = seal_length c h.known;
      }

  closed : (row_at row).crc ≡ 1 → crc (section_of c) ≡ 0
  unfolding section_of seal
  closed e = ap (λ b. crc (front c ++ (if b then bytes_of (crc (front c)) else []))) (eq-eqb _ _ e) ∙ closes (front c)

  -- A SECTION MADE OF WHAT IT CAN HOLD IS ACCEPTED
  pub made_accepted : judged (section_of c) ≡ accepted
  made_accepted =
      let n : ℕ = length (entries_bytes c) in
      let m = inside_stands row (row_at row).before known.entry (top_in c) (rest_in c) (shape_of row) n (shape_columns row)
      h.body.1.0 h.body.1.1 in
      let i = subst
      (λ b. (ds : List (List Placed))
      × grammar.Inside (row_at row) (row_at row).before ((section_top row).show (top_in c) ++ b) ds)
      (shown_alike (shape_of row) row n 0 (rest_in c)) m in
      section_judged (section_of c) i.0
      (record { row = row; middle = inner; cut = cut; header = header; holds = closed; inside = i.1 })
