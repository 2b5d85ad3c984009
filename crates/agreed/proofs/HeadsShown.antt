-- A section's head is what its sheet shows, from the one description of what a table contains: a field of another width
-- in either is refused.
use Prim.Native.Nat.{ℕ, ◌+◌, ◌*◌, ◌%◌, ◌<◌}
use mathlib.Core.Path.{◌≡◌, refl, sym, ap, ◌∙◌, subst}
use mathlib.Core.List.{List, [], ◌∷◌, ◌++◌, append_assoc}
use mathlib.Core.Bool.{Bool, true, false}
use native.Mathlib.Omega.{arith}
use borrow.Author.Tests.{eqb-true, ltb-true, not-false}
use lib.ListN.{length, get_or, drop}
use lib.Dec.{eqb, ltb}
use Rattle.wire.specs.Number.{number_at}
use Rattle.tables.specs.Tables.{SDT, EIT, TDT, row_of}
use Rattle.head.specs.Head.{is_current, has_no_sub_table}
use Rattle.head.specs.SubTable.{is_sdt, is_eit, ids_that_count, network_in, sub_table_of}
use Rattle.head.proofs.HeadLaws.{version_is}
use Rattle.forms.specs.Form.{each_show, EachOk}
use Rattle.forms.specs.Fields.{pack, room}
use Rattle.sheet.specs.Content.{Item, plain, numbers, version, head_of, Fields, Content, table_of, frame_of, row_in, rest_in, top_in, head_in}
use Rattle.sheet.specs.Sheet.{sheet_item, sheet_top, sheet_entries, sheet_of, shown_for}
use Rattle.sheet.specs.Section.{section_item, section_top, section_entries, section_length, seal, section_of}
use Rattle.sheet.proofs.SectionSize.{second, front_is}
use Rattle.contents.specs.Holds.{Holds}
use Rattle.turn.proofs.HeadLaws.{common_items}
use Rattle.turn.proofs.WholeLaws.{frame_shown}
use Rattle.contents.proofs.SectionLaws.{first_byte}
use Rattle.round_trips.proofs.RoundTrips.{from_sheet, from_section}
use Rattle.agreed.specs.Agreed.{sheet_sub_table, Shows, SectionShown, SheetShown}

-- ---- the fields that the four tables have

-- the values of a head's first three items, and how both forms show them
pub record Common (more : List Item) (l : Fields) : Type 0 where
  pub a : ℕ
  pub b : ℕ
  pub r : ℕ
  pub v : ℕ
  pub k : ℕ
  pub n : ℕ
  pub m : ℕ
  pub rest : Fields
  pub version_fits : v < 32
  pub current_fits : k < 2
  pub rest_ok : EachOk section_item more rest
  pub in_section_lem : each_show section_item (plain 2 ∷ version ∷ numbers ∷ more) l
      ≡ a ∷ b ∷ (r * 64 + v * 2 + k) ∷ n ∷ m ∷ each_show section_item more rest
  pub in_sheet_lem : each_show sheet_item (plain 2 ∷ version ∷ numbers ∷ more) l
      ≡ a ∷ b ∷ v ∷ k ∷ n ∷ m ∷ each_show sheet_item more rest

two : (l : List ℕ) → length l ≡ 2 → l ≡ get_or l 0 0 ∷ get_or l 1 0 ∷ []
two [] e = absurd (omega arith)
two (a ∷ []) e = absurd (omega arith)
two (a ∷ b ∷ []) e = refl
two (a ∷ b ∷ c ∷ l) e = absurd (omega arith)

common_shown : (more : List Item) (l : Fields) → EachOk section_item (plain 2 ∷ version ∷ numbers ∷ more) l
    → Common more l
unfolding EachOk each_show pack room
common_shown more [] ok = absurd ok
common_shown more (ids ∷ []) ok = absurd ok.1
common_shown more (ids ∷ vs ∷ []) ok = absurd ok.1.1
common_shown more (ids ∷ [] ∷ ns ∷ rest) ok = absurd ok.1.0
common_shown more (ids ∷ (r ∷ []) ∷ ns ∷ rest) ok = absurd ok.1.0.1
common_shown more (ids ∷ (r ∷ v ∷ []) ∷ ns ∷ rest) ok = absurd ok.1.0.1.1
common_shown more (ids ∷ (r ∷ v ∷ k ∷ x ∷ vs) ∷ ns ∷ rest) ok = absurd ok.1.0.1.1.1
common_shown more (ids ∷ (r ∷ v ∷ k ∷ []) ∷ ns ∷ rest) ok =
    let p = two ids ok.0 in
    let q = two ns ok.1.1.0.0 in
    record {
      a = get_or ids 0 0;
      b = get_or ids 1 0;
      r = r;
      v = v;
      k = k;
      n = get_or ns 0 0;
      m = get_or ns 1 0;
      rest = rest;
      version_fits = ok.1.0.1.0;
      current_fits = ok.1.0.1.1.0;
      rest_ok = ok.1.1.1;
      in_section_lem = rw (p, q)
          (ap (λ (x : ℕ). get_or ids 0 0 ∷ get_or ids 1 0 ∷ x ∷ get_or ns 0 0 ∷ get_or ns 1 0 ∷ each_show section_item more rest)
          (omega arith));
      in_sheet_lem = rw (p, q) refl;
    }

-- ---- the ids behind them

-- the bytes behind the common fields, as far as ids stand in them
pub record Behind (row : ℕ) (l : Fields) (u w : List ℕ) : Type 0 where
  pub sdt : row ≡ SDT → number_at 2 (each_show section_item (drop 3 (head_of row)) l ++ w) 0
      ≡ number_at 2 (each_show sheet_item (drop 3 (head_of row)) l ++ u) 0
  pub eit : row ≡ EIT → (number_at 2 (each_show section_item (drop 3 (head_of row)) l ++ w) 0
      ≡ number_at 2 (each_show sheet_item (drop 3 (head_of row)) l ++ u) 0)
      × (number_at 2 (each_show section_item (drop 3 (head_of row)) l ++ w) 2
      ≡ number_at 2 (each_show sheet_item (drop 3 (head_of row)) l ++ u) 2)

sdt_behind : (l : Fields) (u w : List ℕ) → EachOk section_item (drop 3 (head_of SDT)) l
    → number_at 2 (each_show section_item (drop 3 (head_of SDT)) l ++ w) 0
    ≡ number_at 2 (each_show sheet_item (drop 3 (head_of SDT)) l ++ u) 0
unfolding EachOk each_show head_of number_at
sdt_behind [] u w ok = absurd ok
sdt_behind (ids ∷ []) u w ok = absurd ok.1
sdt_behind (ids ∷ vs ∷ l) u w ok = rw (two ids ok.0) refl

six : (l : List ℕ) → length l ≡ 6
    → l ≡ get_or l 0 0 ∷ get_or l 1 0 ∷ get_or l 2 0 ∷ get_or l 3 0 ∷ drop 4 l
six [] e = absurd (omega arith)
six (a ∷ []) e = absurd (omega arith)
six (a ∷ b ∷ []) e = absurd (omega arith)
six (a ∷ b ∷ c ∷ []) e = absurd (omega arith)
six (a ∷ b ∷ c ∷ d ∷ l) e = refl

eit_behind : (l : Fields) (u w : List ℕ) → EachOk section_item (drop 3 (head_of EIT)) l
    → (number_at 2 (each_show section_item (drop 3 (head_of EIT)) l ++ w) 0
    ≡ number_at 2 (each_show sheet_item (drop 3 (head_of EIT)) l ++ u) 0)
    × (number_at 2 (each_show section_item (drop 3 (head_of EIT)) l ++ w) 2
    ≡ number_at 2 (each_show sheet_item (drop 3 (head_of EIT)) l ++ u) 2)
unfolding EachOk each_show head_of number_at
eit_behind [] u w ok = absurd ok
eit_behind (ids ∷ l) u w ok = rw (six ids ok.0) (refl, refl)

behind : (row : ℕ) (l : Fields) (u w : List ℕ) → EachOk section_item (drop 3 (head_of row)) l → Behind row l u w
behind row l u w ok = record {
  sdt = λ e. subst (λ (i : ℕ). EachOk section_item (drop 3 (head_of i)) l
      → number_at 2 (each_show section_item (drop 3 (head_of i)) l ++ w) 0
      ≡ number_at 2 (each_show sheet_item (drop 3 (head_of i)) l ++ u) 0) (sym e) (sdt_behind l u w) ok;
  eit = λ e. subst (λ (i : ℕ). EachOk section_item (drop 3 (head_of i)) l
      → (number_at 2 (each_show section_item (drop 3 (head_of i)) l ++ w) 0
      ≡ number_at 2 (each_show sheet_item (drop 3 (head_of i)) l ++ u) 0)
      × (number_at 2 (each_show section_item (drop 3 (head_of i)) l ++ w) 2
      ≡ number_at 2 (each_show sheet_item (drop 3 (head_of i)) l ++ u) 2)) (sym e) (eit_behind l u w) ok;
}

-- ---- a sheet and a section, byte by byte

module _ (t x y a b r v k n m : ℕ) (u w : List ℕ) where
  abbrev shown : List ℕ
  shown = t ∷ a ∷ b ∷ v ∷ k ∷ n ∷ m ∷ u

  abbrev broadcast : List ℕ
  broadcast = t ∷ x ∷ y ∷ a ∷ b ∷ (r * 64 + v * 2 + k) ∷ n ∷ m ∷ w

  ids_shown : (row_of t ≡ SDT → number_at 2 w 0 ≡ number_at 2 u 0)
      → (row_of t ≡ EIT → (number_at 2 w 0 ≡ number_at 2 u 0) × (number_at 2 w 2 ≡ number_at 2 u 2))
      → sub_table_of broadcast ≡ sheet_sub_table shown
  unfolding sub_table_of sheet_sub_table network_in ids_that_count number_at
  ids_shown sdt eit = go (is_sdt t) (is_eit t) refl refl
    where
      go : (c d : Bool) → is_sdt t ≡ c → is_eit t ≡ d → sub_table_of broadcast ≡ sheet_sub_table shown
      go true d p q = rw (p, sdt (eqb-true (row_of t) SDT p)) refl
      go false true p q =
          let z = eit (eqb-true (row_of t) EIT q) in
          rw (p, q, z.0, z.1) refl
      go false false p q = rw (p, q) refl

  heads_shown : v < 32 → k < 2 → (row_of t ≡ SDT → number_at 2 w 0 ≡ number_at 2 u 0)
      → (row_of t ≡ EIT → (number_at 2 w 0 ≡ number_at 2 u 0) × (number_at 2 w 2 ≡ number_at 2 u 2))
      → Shows shown broadcast
  unfolding is_current number_at
  heads_shown f g sdt eit =
      let bits = version_is broadcast v k (record { reserved = r; byte = refl; five_bits = f; one_bit = g }) in
      record {
        table = refl;
        extension = refl;
        version = bits.0;
        current = ap (λ (i : ℕ). eqb i 1) bits.1;
        number = refl;
        last = refl;
        sub-table = ids_shown sdt eit;
      }

-- ---- the two forms of a content

module _ (c : Content) (h : Holds c) (below : row_in c < TDT) where
  abbrev row : ℕ
  row = row_in c

  abbrev more : List Item
  more = drop 3 (head_of row)

  abbrev tail : List ℕ
  tail = (section_top row).show (top_in c) ++ (section_entries row 0).show (rest_in c)

  abbrev sheet_tail : List ℕ
  sheet_tail = (sheet_top row).show (top_in c) ++ (sheet_entries row).show (rest_in c)

  common_fields : Common more (head_in c)
  common_fields =
      common_shown more (head_in c)
      (subst (λ (xs : List Item). EachOk section_item xs (head_in c)) (sym (common_items row below)) h.body.0)

  module _ (f : Common more (head_in c)) where
    section_is : section_of c
        ≡ broadcast (table_of c) (second c) (section_length c % 256) f.a f.b f.r f.v f.k f.n f.m []
        (each_show section_item more f.rest ++ (tail ++ seal c))
    unfolding section_of
    section_is =
        let items = common_items row below in
        let head = sym (ap (λ (xs : List Item). each_show section_item xs (head_in c)) items) ∙ f.in_section_lem in
        ap (λ z. z ++ seal c) (front_is c)
        ∙ ap (λ z. table_of c ∷ second c ∷ (section_length c % 256) ∷ ((z ++ tail) ++ seal c)) head
        ∙ ap (λ z. table_of c ∷ second c ∷ (section_length c % 256)
        ∷ f.a ∷ f.b ∷ (f.r * 64 + f.v * 2 + f.k) ∷ f.n ∷ f.m ∷ z)
        (append_assoc (each_show section_item more f.rest) tail (seal c))

    sheet_is : sheet_of c ≡ shown (table_of c) 0 0 f.a f.b 0 f.v f.k f.n f.m
        (each_show sheet_item more f.rest ++ sheet_tail) []
    unfolding shown_for
    sheet_is =
        let items = common_items row below in
        let head = sym (ap (λ (xs : List Item). each_show sheet_item xs (head_in c)) items) ∙ f.in_sheet_lem in
        ap (λ z. table_of c ∷ (z ++ (each_show sheet_item (head_of row) (head_in c) ++ sheet_tail)))
        (frame_shown (frame_of c))
        ∙ ap (λ z. table_of c ∷ (z ++ sheet_tail)) head

    fields_shown : Shows (sheet_of c) (section_of c)
    fields_shown =
        let ids = behind row f.rest sheet_tail (tail ++ seal c) f.rest_ok in
        subst (λ z. Shows z (section_of c)) (sym sheet_is)
        (subst (λ z. Shows (shown (table_of c) 0 0 f.a f.b 0 f.v f.k f.n f.m
        (each_show sheet_item more f.rest ++ sheet_tail) []) z)
        (sym section_is)
        (heads_shown (table_of c) (second c) (section_length c % 256) f.a f.b f.r f.v f.k f.n f.m
        (each_show sheet_item more f.rest ++ sheet_tail)
        (each_show section_item more f.rest ++ (tail ++ seal c))
        f.version_fits f.current_fits ids.sdt ids.eit))

  pub content_shown : Shows (sheet_of c) (section_of c)
  content_shown = fields_shown common_fields

-- ---- over both turns

numbered_row : (c : Content) → has_no_sub_table (section_of c) ≡ false → row_in c < TDT
unfolding has_no_sub_table
numbered_row c e = ltb-true (row_in c) TDT (ap (λ (i : ℕ). ltb (row_of i) TDT) (sym (first_byte c)) ∙ not-false _ e)

pub section_shown : SectionShown
section_shown n s t w e numbered =
    let x = from_sheet n s t w e in
    let c = x.content in
    let y = x.shown in
    let below = numbered_row c (ap has_no_sub_table (sym x.made) ∙ numbered) in
    subst (λ z. Shows s z) (sym x.made)
    (subst (λ z. Shows z (section_of c)) (sym y.shows) (content_shown c y.holds below))

pub sheet_shown : SheetShown
sheet_shown n s t w e numbered =
    let x = from_section n s t w e in
    let c = x.content in
    let below = numbered_row c (ap has_no_sub_table x.is ∙ numbered) in
    subst (λ z. Shows t z) x.is
    (subst (λ z. Shows z (section_of c)) (sym x.made) (content_shown c x.holds below))
