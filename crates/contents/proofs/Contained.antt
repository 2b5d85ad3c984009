-- An accepted section is made of what it contains.
use Prim.{Unit, tt}
use Prim.Native.Nat.{ℕ, suc, ◌+◌, ◌-◌, ◌*◌, ◌/◌, ◌%◌, ◌<◌, ◌≤◌}
use mathlib.Core.Path.{◌≡◌, refl, sym, ap, ap₂, ◌∙◌, subst}
use mathlib.Core.List.{List, [], ◌∷◌, ◌++◌, append_assoc, append-nil}
use mathlib.Core.Bool.{Bool, true, false}
use native.Mathlib.Omega.{arith}
use borrow.Author.Tests.{le-leb, eqb-true, eqb-false}
use lib.ListN.{length, get_or, take, drop, length-append, length-drop, take-append-drop, get_or-append}
use lib.Seq.{length-take-le, get_or-drop, get_or-take, drop-drop, drop-length, drop-cons}
use lib.Dec.{eqb, leb}
use Rattle.std.specs.Prelude.{if◌then◌else◌}
use Rattle.wire.specs.Bytes.{Bytes, len12, len12_at}
use Rattle.wire.proofs.PartLaws.{two_front}
use Rattle.crc.specs.Crc.{crc, bytes_of}
use Rattle.crc.proofs.Closes.{closes_exactly}
use Rattle.tables.specs.Tables.{cell, row_of, row_at}
use Rattle.tables.proofs.RowLaws.{row_is}
use Rattle.verdict.specs.Verdict.{accepted}
use Rattle.loops.specs.Descriptors.{Placed}
use Rattle.loops.specs.Grammar as loops
use Rattle.section.specs.Grammar as grammar
use Rattle.section.specs.Reading.{judged}
use Rattle.section.proofs.Exactly.{accepted_exactly_if}
use Rattle.forms.specs.Form.{Form, ◌then◌, each, each_show, EachOk}
use Rattle.forms.specs.Fields.{Field, room, pack, unpack}
use Rattle.forms.specs.Lists.{loop, loop_show, all, All, none, one}
use Rattle.forms.proofs.Lawful.{bytes_behind, bytes_front}
use Rattle.forms.proofs.FieldLaws.{pack_unpack, unpack_fits}
use Rattle.sheet.specs.Content.{Item, plain, numbers, packed, bare, frame, head_of, entry_of, TableShape, neither, top_only, entries_only, both, shape_of, side_of, Descriptor, Loop, Entry, Entries, Body, Content}
use Rattle.sheet.specs.Sheet.{descriptor}
use Rattle.sheet.specs.Section.{section_item, section_loop, section_entry, section_top_by, section_entries_by, section_body, section_length, front, seal, section_of}
use Rattle.sheet.proofs.Shapes.{columns_shape}
use Rattle.sheet.proofs.Sizes.{total}
use Rattle.contents.specs.Holds.{Holds}
use Rattle.contents.proofs.SectionLaws.{half_bare, half_side, sizes, Numbers, each_row, numbers_of}

-- ---- descriptors

abbrev pub Made : {A : Type 0} → Form A → List ℕ → Type 0
Made {A} c l = (a : A) × c.Ok a × (c.show a ≡ l)

pub descriptors_are : {p : ℕ} {l : List ℕ} {ds : List Placed} → loops.Descriptors p l ds → Bytes l
    → (m : List Descriptor) × All descriptor m × (all descriptor m ≡ l)
unfolding all
descriptors_are loops.none w = ([], none, refl)
descriptors_are (loops.one tag body {l = l} d) w =
    let r = descriptors_are d (bytes_behind (tag ∷ length body ∷ body) l refl w) in
    (record { tag = tag; body = body } ∷ r.0, one (w 1) r.1, ap (λ x. tag ∷ length body ∷ (body ++ x)) r.2)

-- two bytes, and items that are as long as they say
sized_is : {A : Type 0} (c : Form A) (fs : List Field) → room fs ≡ 16 → (x y : ℕ) (l : List ℕ) → x < 256 → y < 256
    → len12 x y ≡ length l
    → (m : List A) × All c m × (all c m ≡ l) → Made (loop c fs) (x ∷ y ∷ l)
unfolding loop_show
sized_is c fs half x y l bx by e m =
    let n : length (all c m.0) ≡ length l = ap length m.2 in
    let k : x / 16 < room fs = omega arith in
    let q = pack_unpack fs (x / 16) k in
    let i : pack fs (unpack fs (x / 16)) * 16 + length (all c m.0) / 256 ≡ x = omega arith in
    let j : length (all c m.0) % 256 ≡ y = omega arith in (
      (unpack fs (x / 16), m.0),
      (unpack_fits fs (x / 16) k, omega arith, m.1),
      ap₂ (λ a b. a ∷ b ∷ all c m.0) i j ∙ ap (λ z. x ∷ y ∷ z) m.2,
    )

pub loop-is : (fs : List Field) → room fs ≡ 16 → (x y : ℕ) (l : List ℕ) {p : ℕ} {ds : List Placed} → Bytes (x ∷ y ∷ l)
    → len12 x y ≡ length l
    → loops.Descriptors p l ds → Made (section_loop fs) (x ∷ y ∷ l)
loop-is fs half x y l w e d = sized_is descriptor fs half x y l (w 0) (w 1) e (descriptors_are d (λ i. w (suc (suc i))))

-- ---- heads

-- the fields of each byte have eight bits in all
abbrev pub Octets : List Item → Type 0
Octets [] = Unit {0}
Octets (plain n ∷ xs) = Octets xs
Octets (numbers ∷ xs) = Octets xs
Octets (packed fs ∷ xs) = (room fs ≡ 256) × Octets xs

-- the numbers stand in their order
abbrev pub Ordered : List Item → List ℕ → Type 0
Ordered [] l = Unit {0}
Ordered (plain n ∷ xs) l = Ordered xs (drop n l)
Ordered (numbers ∷ xs) l = (get_or l 0 0 ≤ get_or l 1 0) × Ordered xs (drop 2 l)
Ordered (packed fs ∷ xs) l = Ordered xs (drop 1 l)

-- the first n bytes, and the others
parted : (n : ℕ) (l : List ℕ) (k : ℕ) → length l ≡ n + k → (length (take n l) ≡ n) × (length (drop n l) ≡ k)
parted n l k e = (length-take-le n l (omega arith), length-drop n l ∙ omega arith)

pub items_are : (xs : List Item) → Octets xs → (l : List ℕ) → Bytes l → length l ≡ sizes xs → Ordered xs l
    → Made (each section_item xs) l
unfolding each_show EachOk total
items_are [] u [] w e o = ([], tt, refl)
items_are [] u (x ∷ l) w e o = absurd (omega arith)
items_are (plain n ∷ xs) u l w e o =
    let p = parted n l (sizes xs) e in
    let s = sym (take-append-drop n l) in
    let r = items_are xs u (drop n l) (bytes_behind (take n l) (drop n l) s w) p.1 o in
    (take n l ∷ r.0, (p.0, r.1), ap (λ z. take n l ++ z) r.2 ∙ sym s)
items_are (numbers ∷ xs) u l w e o =
    let p = parted 2 l (sizes xs) e in
    let s = sym (take-append-drop 2 l) in
    let r = items_are xs u (drop 2 l) (bytes_behind (take 2 l) (drop 2 l) s w) p.1 o.1 in
    let i : get_or (take 2 l) 0 0 ≡ get_or l 0 0 = get_or-take 2 l 0 0 (omega arith) in
    let j : get_or (take 2 l) 1 0 ≡ get_or l 1 0 = get_or-take 2 l 1 0 (omega arith) in
    (take 2 l ∷ r.0, ((p.0, ap₂ leb i j ∙ le-leb _ _ o.0), r.1), ap (λ z. take 2 l ++ z) r.2 ∙ sym s)
items_are (packed fs ∷ xs) u [] w e o = absurd (omega arith)
items_are (packed fs ∷ xs) u (x ∷ l) w e o =
    let b : x < 256 = w 0 in
    let k : x < room fs = omega (arith, u.0) in
    let r = items_are xs u.1 l (λ i. w (suc i)) (omega arith) o in
    (unpack fs x ∷ r.0, (unpack_fits fs x k, r.1), ap₂ (λ a z. a ∷ z) (pack_unpack fs x k) r.2)

pub octets : (row : ℕ) → row < 6 → Octets (head_of row) × Octets (entry_of row)
unfolding head_of entry_of room
octets =
    each_row (λ row. Octets (head_of row) × Octets (entry_of row)) ((refl, tt), tt) ((refl, (refl, tt)), (refl, tt))
    ((refl, tt), tt) ((refl, tt), tt) (tt, tt) (tt, tt)

-- an entry has no such numbers
entry_ordered : (row : ℕ) → row < 6 → (l : List ℕ) → Ordered (entry_of row) l
unfolding entry_of
entry_ordered =
    each_row (λ row. (l : List ℕ) → Ordered (entry_of row) l) (λ l. tt) (λ l. tt) (λ l. tt) (λ l. tt) (λ l. tt) (λ l. tt)

-- in a head they stand behind extension id and version
there : (l : List ℕ) → get_or l 3 0 ≤ get_or l 4 0 → get_or (drop 1 (drop 2 l)) 0 0 ≤ get_or (drop 1 (drop 2 l)) 1 0
there l h =
    let i : get_or (drop 1 (drop 2 l)) 0 0 ≡ get_or l 3 0 = ap (λ m. get_or m 0 0) (drop-drop 1 2 l) ∙ get_or-drop 3 l 0 0 in
    let j : get_or (drop 1 (drop 2 l)) 1 0 ≡ get_or l 4 0 = ap (λ m. get_or m 1 0) (drop-drop 1 2 l) ∙ get_or-drop 3 l 1 0 in
    subst (λ m. m ≤ get_or (drop 1 (drop 2 l)) 1 0) (sym i) (subst (λ m. get_or l 3 0 ≤ m) (sym j) h)

abbrev HeadOrdered : ℕ → Type 0
HeadOrdered row = (l : List ℕ) → ((row_at row).syntax ≡ 1 → get_or l 3 0 ≤ get_or l 4 0) → Ordered (head_of row) l

head_ordered : (row : ℕ) → row < 6 → HeadOrdered row
unfolding head_of cell
head_ordered =
    each_row HeadOrdered (λ l o. (there l (o refl), tt)) (λ l o. (there l (o refl), tt)) (λ l o. (there l (o refl), tt))
    (λ l o. (there l (o refl), tt)) (λ l o. tt) (λ l o. tt)

-- ---- entries

-- a list, its last two elements apart
last_two : (h : List ℕ) (n : ℕ) → length h ≡ n + 2 → h ≡ take n h ++ (get_or h n 0 ∷ get_or h (n + 1) 0 ∷ [])
last_two h n e =
    sym (take-append-drop n h)
    ∙ ap (λ z. take n h ++ z) (two_front h n (omega arith) ∙ ap (λ z. get_or h n 0 ∷ get_or h (n + 1) 0 ∷ z) none_left)
  where
    none_left : drop (n + 2) h ≡ []
    none_left = ap (λ k. drop k h) (sym e) ∙ drop-length h

module _ (row : ℕ) (known : row < 6) (size : sizes (entry_of row) + 2 ≡ (row_at row).fixed) where
  abbrev fixed : ℕ
  fixed = (row_at row).fixed

  entry_is : {p : ℕ} {ds : List Placed} (head body : List ℕ) → Bytes (head ++ body) → grammar.Head fixed head body
      → loops.Descriptors p body ds
      → Made (section_entry row) (head ++ body)
  entry_is head body w h d =
      let n : ℕ = sizes (entry_of row) in
      let x : ℕ = get_or head n 0 in
      let y : ℕ = get_or head (n + 1) 0 in
      let z = h.size in
      let c : head ≡ take n head ++ (x ∷ y ∷ []) = last_two head n (omega arith) in
      let s : head ++ body ≡ take n head ++ (x ∷ y ∷ body) =
      ap (λ l. l ++ body) c ∙ append_assoc (take n head) (x ∷ y ∷ []) body in
      let k : n ≡ fixed - 2 = omega arith in
      let l : len12 x y ≡ length body = ap (len12_at head) k ∙ h.says in
      let i = items_are (entry_of row) (octets row known).1 (take n head) (bytes_front (take n head) (x ∷ y ∷ body) s w)
      (length-take-le n head (omega arith)) (entry_ordered row known (take n head)) in
      let j = loop-is (side_of row) (half_side row) x y body (bytes_behind (take n head) (x ∷ y ∷ body) s w) l d in
      ((i.0, j.0), (i.1, j.1), ap₂ (λ a b. a ++ b) i.2 j.2 ∙ sym s)

  pub entries_are : {p : ℕ} {l : List ℕ} {ds : List (List Placed)} → grammar.Entries fixed p l ds → Bytes l
      → (m : List Entry) × All (section_entry row) m × (all (section_entry row) m ≡ l)
  unfolding all
  entries_are grammar.none w = ([], none, refl)
  entries_are (grammar.one head body {l = l} h d g) w =
      let s : head ++ (body ++ l) ≡ (head ++ body) ++ l = sym (append_assoc head body l) in
      let e = entry_is head body (bytes_front (head ++ body) l s w) h d in
      let r = entries_are g (bytes_behind (head ++ body) l s w) in
      (e.0 ∷ r.0, one e.1 r.1, ap₂ (λ a b. a ++ b) e.2 r.2 ∙ sym s)

-- ---- between head and CRC_32

module _ (row p : ℕ) (known : row < 6)
    (size : ((row_at row).fixed ≡ 0 → ⊥) → sizes (entry_of row) + 2 ≡ (row_at row).fixed) where
  -- a loop and entries of this shape that are the bytes m
  pub record Inner (m : List ℕ) (x : TableShape) : Type 0 where
    pub top : Loop
    pub rest : Entries
    pub top_ok : (section_top_by x).Ok top
    pub rest_ok : (section_entries_by x row (length ((section_entries_by x row 0).show rest))).Ok rest
    pub bytes : (section_top_by x).show top ++ (section_entries_by x row 0).show rest ≡ m

  pub inside_is : {m : List ℕ} {ds : List (List Placed)} → grammar.Inside (row_at row) p m ds → Bytes m → Inner m (shape_of row)
  unfolding loop_show
  inside_is {m} (grammar.nothing t f) w =
      subst (Inner m) (sym (columns_shape row neither (t, f)))
      (record { top = ([], []); rest = ([], []); top_ok = refl; rest_ok = refl; bytes = refl })
  inside_is {m} (grammar.loop t f x y {l = l} e d) w =
      let i = loop-is bare half_bare x y l w e d in
      subst (Inner m) (sym (columns_shape row top_only (t, f)))
      (record {
        top = i.0;
        rest = ([], []);
        top_ok = i.1;
        rest_ok = refl;
        bytes = append-nil ((section_loop bare).show i.0) ∙ i.2;
      })
  inside_is {m} (grammar.loops t f x y top e d x' y' {l = l} e' g) w =
      let wi = bytes_front (x ∷ y ∷ top) (x' ∷ y' ∷ l) refl w in
      let wj = bytes_behind (x ∷ y ∷ top) (x' ∷ y' ∷ l) refl w in
      let i = loop-is bare half_bare x y top wi e d in
      let j = sized_is (section_entry row) bare half_bare x' y' l (wj 0) (wj 1) e'
      (entries_are row known (size f) g (λ k. wj (suc (suc k)))) in
      subst (Inner m) (sym (columns_shape row both (t, f)))
      (record { top = i.0; rest = j.0; top_ok = i.1; rest_ok = j.1; bytes = ap₂ (λ a b. a ++ b) i.2 j.2 })
  inside_is {m} (grammar.entries t f g) w =
      let r = entries_are row known (size f) g w in
      subst (Inner m) (sym (columns_shape row entries_only (t, f)))
      (record { top = ([], []); rest = ([], r.0); top_ok = refl; rest_ok = (refl, (refl, r.1)); bytes = r.2 })

-- ---- the whole section

module _ (s : List ℕ) (w : Bytes s) (inner : List ℕ) (cut : grammar.Cut (row_of (get_or s 0 0)) s inner)
    (h : grammar.Header (row_at (row_of (get_or s 0 0))) s)
    (closed : (row_at (row_of (get_or s 0 0))).crc ≡ 1 → crc s ≡ 0) {ds : List (List Placed)}
    (inside : grammar.Inside (row_at (row_of (get_or s 0 0))) (row_at (row_of (get_or s 0 0))).before inner ds) where
  abbrev row : ℕ
  row = row_of (get_or s 0 0)

  abbrev known : row < 6
  known = cut.known

  row_numbers : Numbers row
  row_numbers = numbers_of row known

  abbrev hd : List ℕ
  hd = cut.head

  long_head : length hd ≡ 3 + sizes (head_of row)
  long_head = cut.before ∙ sym row_numbers.head

  -- a byte of the head is one of the section
  at : (i : ℕ) → i < length hd → get_or hd i 0 ≡ get_or s i 0
  at i g = sym (ap (λ z. get_or z i 0) cut.whole ∙ get_or-append hd (inner ++ cut.tail) 0 i g)

  three : hd ≡ get_or s 0 0 ∷ get_or s 1 0 ∷ get_or s 2 0 ∷ drop 3 hd
  three =
      let l = long_head in
      drop-cons hd 0 0 (omega arith)
      ∙ ap₂ ◌∷◌ (at 0 (omega arith)) (drop-cons hd 1 0 (omega arith)
      ∙ ap₂ ◌∷◌ (at 1 (omega arith)) (drop-cons hd 2 0 (omega arith)
      ∙ ap (λ x. x ∷ drop 3 hd) (at 2 (omega arith))))

  in_head : Bytes hd
  in_head = bytes_front hd (inner ++ cut.tail) cut.whole w

  items : Made (each section_item (head_of row)) (drop 3 hd)
  items =
      items_are (head_of row) (octets row known).0 (drop 3 hd)
      (bytes_behind (take 3 hd) (drop 3 hd) (sym (take-append-drop 3 hd)) in_head)
      (length-drop 3 hd ∙ omega (arith, long_head)) (head_ordered row known (drop 3 hd) ordered)
    where
      ordered : (row_at row).syntax ≡ 1 → get_or (drop 3 hd) 3 0 ≤ get_or (drop 3 hd) 4 0
      ordered e =
          let l = long_head in
          let f = row_numbers.five in
          let six : get_or (drop 3 hd) 3 0 ≡ get_or s 6 0 = get_or-drop 3 hd 3 0 ∙ at 6 (omega arith) in
          let seven : get_or (drop 3 hd) 4 0 ≡ get_or s 7 0 = get_or-drop 3 hd 4 0 ∙ at 7 (omega arith) in
          subst (λ x. x ≤ get_or (drop 3 hd) 4 0) (sym six) (subst (λ y. get_or s 6 0 ≤ y) (sym seven) (h.numbers e))

  in_inner : Bytes inner
  in_inner = bytes_front inner cut.tail refl (bytes_behind hd (inner ++ cut.tail) cut.whole w)

  rest : Inner row (row_at row).before known row_numbers.entry inner (shape_of row)
  rest = inside_is row (row_at row).before known row_numbers.entry inside in_inner

  abbrev body : Body
  body = (items.0, (rest.top, rest.rest))

  -- what it contains
  abbrev content : Content
  content = (get_or s 0 0, (unpack frame (get_or s 1 0 / 16 % 8), body))

  body_is : (section_body row 0).show body ≡ drop 3 hd ++ inner
  body_is = ap₂ (λ a b. a ++ b) items.2 rest.bytes

  frame_room : get_or s 1 0 / 16 % 8 < room frame
  unfolding room
  frame_room = omega arith

  length_is : section_length content ≡ len12_at s 1
  unfolding section_length
  length_is =
      let a = ap length body_is in
      let b = length-append (drop 3 hd) inner in
      let c = length-drop 3 hd in
      let d = ap length cut.whole in
      let e = length-append hd (inner ++ cut.tail) in
      let f = length-append inner cut.tail in
      let g = h.size in
      let k = cut.last in
      let l = long_head in
      omega arith

  front_is_front : front content ≡ hd ++ inner
  unfolding front
  front_is_front =
      let x : ℕ = get_or s 1 0 in
      let y : ℕ = get_or s 2 0 in
      let bx : x < 256 = w 1 in
      let by : y < 256 = w 2 in
      let n : section_length content ≡ len12 x y = length_is in
      let q = pack_unpack frame (x / 16 % 8) frame_room in
      let e = h.syntax in
      let i : (row_at row).syntax * 128 + pack frame (unpack frame (x / 16 % 8)) * 16 + section_length content / 256 ≡ x =
      omega arith in
      let j : section_length content % 256 ≡ y = omega arith in
      ap₂ (λ a b. get_or s 0 0 ∷ a ∷ b ∷ (section_body row 0).show body) i j
      ∙ ap (λ z. get_or s 0 0 ∷ x ∷ y ∷ z) body_is
      ∙ ap (λ z. z ++ inner) (sym three)

  behind : s ≡ (hd ++ inner) ++ cut.tail
  behind = cut.whole ∙ sym (append_assoc hd inner cut.tail)

  seal_is : seal content ≡ cut.tail
  unfolding seal
  seal_is = go (eqb (row_at row).crc 1) refl cut.tail behind cut.last
    where
      go : (b : Bool) → eqb (row_at row).crc 1 ≡ b → (t : List ℕ) → s ≡ (hd ++ inner) ++ t
          → length t ≡ 4 * (row_at row).crc
          → (if b then bytes_of (crc (front content)) else []) ≡ t
      go false e [] q l = refl
      go false e (x ∷ t) q l =
          let n = eqb-false (row_at row).crc 1 e in let m = row_numbers.crc_bit in absurd (omega arith)
      go true e (a ∷ b ∷ c ∷ d ∷ []) q l =
          let v = bytes_behind (hd ++ inner) (a ∷ b ∷ c ∷ d ∷ []) q w in
          let k = (closes_exactly (hd ++ inner) a b c d (v 0) (v 1) (v 2) (v 3)).0
          (sym (ap crc q) ∙ closed (eqb-true _ _ e)) in
          ap (λ z. bytes_of (crc z)) front_is_front ∙ sym k
      go true e [] q l = let n = eqb-true (row_at row).crc 1 e in absurd (omega arith)
      go true e (a ∷ []) q l = let n = eqb-true (row_at row).crc 1 e in absurd (omega arith)
      go true e (a ∷ b ∷ []) q l = let n = eqb-true (row_at row).crc 1 e in absurd (omega arith)
      go true e (a ∷ b ∷ c ∷ []) q l = let n = eqb-true (row_at row).crc 1 e in absurd (omega arith)
      go true e (a ∷ b ∷ c ∷ d ∷ x ∷ t) q l = let n = eqb-true (row_at row).crc 1 e in absurd (omega arith)

  section_is : (section_of content ≡ s) × Holds content
  unfolding section_of
  section_is = (
    ap₂ (λ a b. a ++ b) front_is_front seal_is ∙ sym behind,
    record {
      known = known;
      frame_fits = unpack_fits frame (get_or s 1 0 / 16 % 8) frame_room;
      body = (items.1, (rest.top_ok, rest.rest_ok));
      most = subst (λ n. n ≤ (row_at row).most) (sym length_is) h.most;
    },
  )

-- AN ACCEPTED SECTION IS MADE OF WHAT IT CONTAINS
pub contained : (s : List ℕ) → Bytes s → judged s ≡ accepted → (c : Content) × Holds c × (section_of c ≡ s)
contained s w e = go ((accepted_exactly_if s).0 e)
  where
    go : (ds : List (List Placed)) × grammar.Section s ds → (c : Content) × Holds c × (section_of c ≡ s)
    go (ds, x) =
        let r : x.row ≡ row_of (get_or s 0 0) = sym (row_is (get_or s 0 0) x.row x.cut.known x.cut.table) in
        let cut = subst (λ k. grammar.Cut k s x.middle) r x.cut in
        let header = subst (λ k. grammar.Header (row_at k) s) r x.header in
        let closed = subst (λ k. (row_at k).crc ≡ 1 → crc s ≡ 0) r x.holds in
        let inside = subst (λ k. grammar.Inside (row_at k) (row_at k).before x.middle ds) r x.inside in
        let y = section_is s w x.middle cut header closed inside in
        (content s w x.middle cut header closed inside, y.1, y.0)
