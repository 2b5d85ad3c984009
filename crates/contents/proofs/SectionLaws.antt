-- What a section holds is read from it again, and how long its parts are.
use Prim.Native.Nat.{ℕ, zero, suc, ◌+◌, ◌-◌, ◌*◌, ◌/◌, ◌%◌, ◌<◌, ◌≤◌}
use mathlib.Core.Path.{◌≡◌, refl, sym, ap, ap₂, ◌∙◌}
use mathlib.Core.List.{List, [], ◌∷◌, ◌++◌, append-nil}
use native.Mathlib.Omega.{arith}
use lib.ListN.{length, get_or, take, drop, length-append}
use lib.Seq.{take_at}
use Rattle.wire.proofs.IfLaws.{if-case, choose-case}
use Rattle.wire.specs.Reading.{value, ◌>>=◌}
use Rattle.tables.specs.Tables.{cell, row_of, row_at}
use Rattle.forms.specs.Form.{Form, mute, raw, ◌then◌, each, each_show, EachOk}
use Rattle.forms.specs.Fields.{room, pack, unpack}
use Rattle.forms.specs.Lists.{all, All, none, one, loop_show, filling}
use Rattle.forms.specs.Laws.{Complete}
use Rattle.forms.proofs.Lawful.{read_on, mute_lawful, raw_lawful, then-complete, such_complete, each_complete}
use Rattle.forms.proofs.FieldLaws.{byte_complete, pack_lt, unpack_pack}
use Rattle.forms.proofs.ListLaws.{Full, loop-complete, filling_read_lem}
use Rattle.sheet.specs.Content.{Item, plain, numbers, packed, bare, frame, head_of, entry_of, TableShape, neither, top_only, entries_only, both, shape_of, has_top, side_of, Fields, Loop, Entries, Content, table_of, frame_of, body_of, row_in, rest_in, top_in, head_in}
use Rattle.sheet.specs.Sheet.{inOrder, descriptor}
use Rattle.sheet.specs.Section.{section_item, section_loop, section_entry, section_top, section_top_by, section_entries, section_entries_by, section_body, bodyBytes, section_length, front, seal, section_of, middle, content_of}
use Rattle.contents.specs.Holds.{entries_bytes, Holds}
use Rattle.sheet.proofs.SheetLaws.{descriptor_complete}
use Rattle.sheet.proofs.Sizes.{in_section, total, items_size}
use Rattle.sheet.proofs.SectionSize.{second, front_is, seal_length}

-- ---- each part is read as it is shown

pub item_complete : (x : Item) → Complete (section_item x)
item_complete (plain n) = (raw_lawful n).complete
item_complete numbers = such_complete (raw 2) 7 inOrder (raw_lawful 2).complete
item_complete (packed fs) = byte_complete fs

pub items_complete : (xs : List Item) → Complete (each section_item xs)
items_complete = each_complete section_item item_complete

-- there are no more items than bytes
pub no_more : {A : Type 0} (c : Form A) → Full c → (l : List A) → All c l → length l ≤ length (all c l)
unfolding all
no_more c f [] none = omega arith
no_more c f (a ∷ l) (one o os) =
    let n = length-append (c.show a) (all c l) in
    let k = f a o in
    let r = no_more c f l os in
    omega arith

pub descriptor_full : Full descriptor
descriptor_full d o = omega arith

-- the four bits before a length
pub half_bare : room bare ≡ 16
unfolding room
half_bare = refl

pub half_side : (row : ℕ) → room (side_of row) ≡ 16
unfolding room side_of
half_side row = if-case (λ fs. room fs ≡ 16) (has_top (shape_of row)) (λ _. refl) (λ _. refl)

pub entry_complete : (row : ℕ) → Complete (section_entry row)
entry_complete row =
    then-complete (each section_item (entry_of row)) (section_loop (side_of row)) (items_complete (entry_of row))
    (loop-complete descriptor descriptor_complete descriptor_full (side_of row) (half_side row))

pub entry_full : (row : ℕ) → Full (section_entry row)
unfolding loop_show
entry_full row e o =
    let l = length-append ((each section_item (entry_of row)).show e.0) ((section_loop (side_of row)).show e.1) in
    omega arith

top_complete : (x : TableShape) → Complete (section_top_by x)
top_complete x =
    choose-case Complete (has_top x) (λ _. loop-complete descriptor descriptor_complete descriptor_full bare half_bare)
    (λ _. (mute_lawful ([], [])).complete)

entries_complete : (x : TableShape) (row n : ℕ) → Complete (section_entries_by x row n)
entries_complete neither row n = (mute_lawful {A = Entries} ([], [])).complete
entries_complete top_only row n = (mute_lawful {A = Entries} ([], [])).complete
entries_complete entries_only row n =
    then-complete (mute []) (filling (section_entry row) n) (mute_lawful []).complete
    (filling_read_lem (section_entry row) (entry_complete row) (entry_full row) n)
entries_complete both row n = loop-complete (section_entry row) (entry_complete row) (entry_full row) bare half_bare

pub body_complete : (row n : ℕ) → Complete (section_body row n)
body_complete row n =
    then-complete (each section_item (head_of row)) (section_top row then section_entries row n)
    (items_complete (head_of row))
    (then-complete (section_top row) (section_entries row n) (top_complete (shape_of row)) (entries_complete (shape_of row) row n))

-- ---- sizes

-- the bytes of items in a section
abbrev pub sizes : List Item → ℕ
sizes = total in_section

item_size_lem : (x : Item) (v : List ℕ) → (section_item x).Ok v → length ((section_item x).show v) ≡ in_section x
item_size_lem (plain n) v o = o
item_size_lem numbers v o = o.0
item_size_lem (packed fs) v o = refl

pub section_items : (xs : List Item) (l : Fields) → EachOk section_item xs l → length (each_show section_item xs l) ≡ sizes xs
section_items = items_size section_item section_item in_section item_size_lem

-- the bytes that top loop and entries have at least: their lengths
abbrev pub shortest : TableShape → ℕ
shortest neither = 0
shortest top_only = 2
shortest entries_only = 0
shortest both = 4

-- what the description and the table of tables have in common
pub record Numbers (row : ℕ) : Type 0 where
  pub head : 3 + sizes (head_of row) ≡ (row_at row).before
  pub five : 5 ≤ sizes (head_of row)
  pub entry : ((row_at row).fixed ≡ 0 → ⊥) → sizes (entry_of row) + 2 ≡ (row_at row).fixed
  pub syntax : (row_at row).syntax ≤ 1
  pub most : (row_at row).most ≤ 4093
  pub crc_bit : (row_at row).crc ≤ 1
  pub least : 3 + (row_at row).least ≡ (row_at row).before + shortest (shape_of row) + 4 * (row_at row).crc

-- what is so of each row
pub each_row : (P : ℕ → Type 0) → P 0 → P 1 → P 2 → P 3 → P 4 → P 5 → (row : ℕ) → row < 6 → P row
each_row P a b c d e f zero h = a
each_row P a b c d e f (suc zero) h = b
each_row P a b c d e f (suc (suc zero)) h = c
each_row P a b c d e f (suc (suc (suc zero))) h = d
each_row P a b c d e f (suc (suc (suc (suc zero)))) h = e
each_row P a b c d e f (suc (suc (suc (suc (suc zero))))) h = f
each_row P a b c d e f (suc (suc (suc (suc (suc (suc row)))))) h = absurd (omega arith)

pub numbers_of : (row : ℕ) → row < 6 → Numbers row
unfolding cell head_of entry_of shape_of total
numbers_of =
    each_row Numbers
    (has refl (λ _. refl) refl (omega arith) (omega arith) (omega arith) (omega arith))
    (has refl (λ _. refl) refl (omega arith) (omega arith) (omega arith) (omega arith))
    (has refl (λ _. refl) refl (omega arith) (omega arith) (omega arith) (omega arith))
    (has refl (λ _. refl) refl (omega arith) (omega arith) (omega arith) (omega arith))
    (has refl (λ n. absurd (n refl)) refl (omega arith) (omega arith) (omega arith) (omega arith))
    (has refl (λ n. absurd (n refl)) refl (omega arith) (omega arith) (omega arith) (omega arith))
  where
    has : {row : ℕ} → 3 + sizes (head_of row) ≡ (row_at row).before
        → (((row_at row).fixed ≡ 0 → ⊥) → sizes (entry_of row) + 2 ≡ (row_at row).fixed)
        → 3 + (row_at row).least ≡ (row_at row).before + shortest (shape_of row) + 4 * (row_at row).crc
        → 5 ≤ sizes (head_of row) → (row_at row).syntax ≤ 1 → (row_at row).most ≤ 4093 → (row_at row).crc ≤ 1 → Numbers row
    has h e l f s m c = record { head = h; five = f; entry = e; syntax = s; most = m; crc_bit = c; least = l }

-- ---- what can stand in a section

-- how entries are shown does not depend on the number of bytes
pub shown_alike : (x : TableShape) (row n m : ℕ) (e : Entries) → (section_entries_by x row n).show e ≡ (section_entries_by x row m).show e
shown_alike neither row n m e = refl
shown_alike top_only row n m e = refl
shown_alike entries_only row n m e = refl
shown_alike both row n m e = refl

-- the head's bytes, those of the top loop, those of the entries
pub body_length : (c : Content) → Holds c
    → 3 + length (bodyBytes c)
    ≡ (row_at (row_in c)).before + length ((section_top (row_in c)).show (top_in c)) + length (entries_bytes c)
body_length c h =
    let row = row_in c in
    let x = (each section_item (head_of row)).show (head_in c) in
    let y = (section_top row).show (top_in c) in
    let z = entries_bytes c in
    let a = length-append x (y ++ z) in
    let b = length-append y z in
    let s = section_items (head_of row) (head_in c) h.body.0 in
    let n = (numbers_of row h.known).head in
    omega arith

-- and where they have a length of their own, neither does whether they can be
ok_at : (x : TableShape) (row n m : ℕ) (l : Loop) (e : Entries) → (length ((section_top_by x).show l) ≡ 0 → n ≡ m)
    → (section_entries_by x row n).Ok e → (section_entries_by x row m).Ok e
ok_at neither row n m l e h o = o
ok_at top_only row n m l e h o = o
ok_at entries_only row n m l e h o = let k = o.1.0 in let q = h refl in (o.0, (omega arith, o.1.1))
ok_at both row n m l e h o = o

-- ---- what a section holds is read from it again

-- its first two bytes
pub first_byte : (c : Content) → get_or (section_of c) 0 0 ≡ table_of c
unfolding section_of
first_byte c = ap (λ x. get_or (x ++ seal c) 0 0) (front_is c)

pub second_byte : (c : Content) → get_or (section_of c) 1 0 ≡ second c
unfolding section_of
second_byte c = ap (λ x. get_or (x ++ seal c) 1 0) (front_is c)

pub third_byte : (c : Content) → get_or (section_of c) 2 0 ≡ section_length c % 256
unfolding section_of
third_byte c = ap (λ x. get_or (x ++ seal c) 2 0) (front_is c)

pub frame_lt : (c : Content) → Holds c → pack frame (frame_of c) < 8
unfolding room
frame_lt c h = pack_lt frame (frame_of c) h.frame_fits

pub middle_is : (c : Content) → Holds c → middle (section_of c) ≡ bodyBytes c
unfolding section_of
middle_is c h =
    let n : length (front c) ≡ length (section_of c) - 4 * (row_at (row_in c)).crc =
    omega (arith, length-append (front c) (seal c), seal_length c h.known) in
    ap (λ id. drop 3 (take (length (section_of c) - 4 * (row_at (row_of id)).crc) (section_of c))) (first_byte c)
    ∙ ap (drop 3) (take_at (front c) (seal c) (length (section_of c) - 4 * (row_at (row_in c)).crc) n)
    ∙ ap (drop 3) (front_is c)

pub content_again : (c : Content) → Holds c → content_of (section_of c) ≡ value c
unfolding content_of
content_again c h =
    let row = row_in c in
    let n : ℕ = 3 + length (bodyBytes c) - (row_at row).before in
    let l = body_length c h in
    let same : length ((section_top row).show (top_in c)) ≡ 0 → length (entries_bytes c) ≡ n = λ e. omega arith in
    let ok : (section_body row n).Ok (body_of c) =
    (h.body.0, (h.body.1.0, ok_at (shape_of row) row (length (entries_bytes c)) n (top_in c) (rest_in c) same h.body.1.1)) in
    let shows : (section_body row n).show (body_of c) ++ [] ≡ bodyBytes c =
    append-nil ((section_body row n).show (body_of c))
    ∙ ap (λ x. (each section_item (head_of row)).show (head_in c) ++ ((section_top row).show (top_in c) ++ x))
    (shown_alike (shape_of row) row n 0 (rest_in c)) in
    let f = frame_lt c h in
    let m = h.most in
    let k = numbers_of row h.known in
    let g : second c / 16 % 8 ≡ pack frame (frame_of c) = omega (arith, k.most, k.syntax) in
    ap₂ (λ id (b : List ℕ). (section_body (row_of id) (3 + length b - (row_at (row_of id)).before)).read b
    >>= λ x. value (id, (unpack frame (get_or (section_of c) 1 0 / 16 % 8), x.0)))
    (first_byte c) (middle_is c h)
    ∙ read_on _ (ap (section_body row n).read (sym shows) ∙ body_complete row n (body_of c) [] ok)
    ∙ ap (λ v. value (table_of c, (v, body_of c)))
    (ap (λ x. unpack frame (x / 16 % 8)) (second_byte c)
    ∙ ap (unpack frame) g
    ∙ unpack_pack frame (frame_of c) h.frame_fits)
