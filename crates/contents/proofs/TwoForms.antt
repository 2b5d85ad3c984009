-- What the form of a part of a table in a section and its form in a sheet have in common, part by part, whichever way
-- the sheet shows a field.
use Prim.{Unit, tt}
use Prim.Native.Nat.{ℕ, suc, ◌/◌, ◌%◌, ◌^◌, ◌<◌}
use mathlib.Core.Path.{◌≡◌, refl, sym, ap, ap₂, subst}
use mathlib.Core.List.{List, [], ◌∷◌, ◌++◌}
use native.Mathlib.Omega.{arith}
use lib.ListN.{length, length-append}
use Rattle.forms.specs.Form.{Form, mute, ◌then◌, each, each_show, EachOk}
use Rattle.forms.specs.Fields.{Field, width, below, byte_of}
use Rattle.forms.specs.Lists.{all, All, none, one, times, counted, counted_show, loop, loop_show, filling}
use Rattle.forms.proofs.ListLaws.{Full}
use Rattle.sheet.specs.Content.{Item, plain, numbers, packed, bare, head_of, entry_of, TableShape, neither, top_only, entries_only, both, shape_of, side_of, Fields, Loop, Entry, Entries, Body}
use Rattle.sheet.specs.Sheet.{descriptor, item_for, loop_for, entry_for, top_for_by, entries_for_by, body_for}
use Rattle.sheet.specs.Section.{section_item, section_loop, section_entry, section_top_by, section_entries, section_entries_by, section_body}
use Rattle.contents.specs.Ones.{Pairwise, Each, OfItem, OfEntry, length_bits, length_bits_by}
use Rattle.contents.proofs.SectionLaws.{descriptor_full, entry_full, no_more}

-- another value that the sheet's form d can show, as it shows a; in the section's form c it is as long. It is a itself
-- if P.
pub record Alike {A : Type 0} (c d : Form A) (P : Type 0) (a : A) : Type 0 where
  pub other : A
  pub ok : d.Ok other
  pub shown : d.show other ≡ d.show a
  pub size : length (c.show other) ≡ length (c.show a)
  pub same : P → other ≡ a

-- of a value that is not too long: what a sheet can show a section can hold; what a sheet shows has O; and of what a
-- section can hold there is another that the sheet shows alike
pub record Kin {A : Type 0} (c d : Form A) (O : A → Type 0) (a : A) : Type 0 where
  pub held : d.Ok a → length (c.show a) < 4096 → c.Ok a
  pub meant : d.Ok a → O a
  pub alike : c.Ok a → length (c.show a) < 65536 → Alike c d (O a) a

-- what O asks may be said otherwise
said : {A : Type 0} {c d : Form A} {O P : A → Type 0} {a : A} → (O a → P a) → (P a → O a) → Kin c d O a → Kin c d P a
said f g k = record {
  held = k.held;
  meant = λ o. f (k.meant o);
  alike = λ o h.
      let x = k.alike o h in
      record { other = x.other; ok = x.ok; shown = x.shown; size = x.size; same = λ p. x.same (g p) };
}

-- forms that can show the same values
pub same_kin : {A : Type 0} {c d : Form A} {O : A → Type 0} {a : A} → (d.Ok a → c.Ok a) → (c.Ok a → d.Ok a)
    → (d.Ok a → O a)
    → Kin c d O a
same_kin {a = a} f g m = record {
  held = λ o h. f o;
  meant = m;
  alike = λ o h. record { other = a; ok = g o; shown = refl; size = refl; same = λ p. refl };
}

module _ {A B : Type 0} {c d : Form A} {f g : Form B} {O : A → Type 0} {P : B → Type 0} where
  then-kin : (p : A × B) → Kin c d O p.0 → Kin f g P p.1
      → Kin (c then f) (d then g) (λ q. O q.0 × P q.1) p
  then-kin p x y =
      let l = length-append (c.show p.0) (f.show p.1) in
      record {
        held = λ o h. (x.held o.0 (omega arith), y.held o.1 (omega arith));
        meant = λ o. (x.meant o.0, y.meant o.1);
        alike = λ o h.
            let i = x.alike o.0 (omega arith) in
            let j = y.alike o.1 (omega arith) in
            let m = length-append (c.show i.other) (f.show j.other) in
            record {
              other = (i.other, j.other);
              ok = (i.ok, j.ok);
              shown = ap₂ (λ l m. l ++ m) i.shown j.shown;
              size = omega (arith, i.size, j.size);
              same = λ o. ap₂ (λ a b. (a, b)) (i.same o.0) (j.same o.1);
            };
      }

-- a list of values, for each its forms
module _ {X A : Type 0} (f g : X → Form A) (O : X → A → Type 0) (k : (x : X) (a : A) → Kin (f x) (g x) (O x) a) where
  each_kin : (xs : List X) (l : List A) → Kin (each f xs) (each g xs) (Pairwise O xs) l
  unfolding each_show EachOk
  each_kin [] [] = same_kin (λ o. o) (λ o. o) (λ o. tt)
  each_kin [] (a ∷ l) = same_kin (λ o. absurd o) (λ o. absurd o) (λ o. tt)
  each_kin (x ∷ xs) [] = same_kin (λ o. absurd o) (λ o. absurd o) (λ o. tt)
  each_kin (x ∷ xs) (a ∷ l) =
      let r = then-kin {c = f x} {d = g x} (a, l) (k x a) (each_kin xs l) in
      record {
        held = r.held;
        meant = r.meant;
        alike = λ o h.
            let i = r.alike o h in
            record {
              other = i.other.0 ∷ i.other.1;
              ok = i.ok;
              shown = i.shown;
              size = i.size;
              same = λ o. ap (λ (p : A × List A). p.0 ∷ p.1) (i.same o);
            };
      }

-- a list of values of one form
module _ {A : Type 0} (c d : Form A) (O : A → Type 0) (k : (a : A) → Kin c d O a) where
  first_and_rest : {f : Form A} {a : A} {l : List A} → All f (a ∷ l) → f.Ok a × All f l
  first_and_rest (one o os) = (o, os)

  all_kin : (l : List A) → Kin (times c (length l)) (times d (length l)) (Each O) l
  unfolding all
  all_kin [] = same_kin (λ o. (refl, none)) (λ o. (refl, none)) (λ o. tt)
  all_kin (a ∷ l) =
      let r = then-kin {c = c} {d = d} (a, l) (k a) (all_kin l) in
      record {
        held = λ o h.
            let os = first_and_rest o.1 in
            let x = r.held (os.0, (refl, os.1)) h in
            (refl, one x.0 x.1.1);
        meant = λ o. let os = first_and_rest o.1 in r.meant (os.0, (refl, os.1));
        alike = λ o h.
            let os = first_and_rest o.1 in
            let i = r.alike (os.0, (refl, os.1)) h in
            record {
              other = i.other.0 ∷ i.other.1;
              ok = (ap suc i.ok.1.0, one i.ok.0 i.ok.1.1);
              shown = i.shown;
              size = i.size;
              same = λ o. ap (λ (p : A × List A). p.0 ∷ p.1) (i.same o);
            };
      }

  module _ (full : Full c) where
    -- fewer than a sheet can count
    number_fits : (l m : List A) → All c l → length (all c l) < 65536 → length m ≡ length l → length m < 65536
    number_fits l m o h e = let n = no_more c full l o in omega arith

    counted_shown : (l m : List A) → length m ≡ length l → all d m ≡ all d l → counted_show d m ≡ counted_show d l
    unfolding counted_show
    counted_shown l m e f = ap₂ (λ n x. n / 256 ∷ n % 256 ∷ x) e f

    -- up to the end of the bytes
    filled_kin : (n : ℕ) (l : List A) → length (all c l) ≡ n → Kin (filling c n) (counted d) (Each O) l
    filled_kin n l e = record {
      held = λ o h. (e, ((all_kin l).held (refl, o.1) h).1);
      meant = λ o. (all_kin l).meant (refl, o.1);
      alike = λ o h.
          let i = (all_kin l).alike (refl, o.1) h in
          record {
            other = i.other;
            ok = (number_fits l i.other o.1 h i.ok.0, i.ok.1);
            shown = counted_shown l i.other i.ok.0 i.shown;
            size = i.size;
            same = i.same;
          };
    }

-- ---- the parts of a table, by how the sheet shows a field

module _ (field : Field → Form ℕ) (O : Field → ℕ → Type 0)
    (k : (f : Field) (v : ℕ) → Kin (below (2 ^ width f)) (field f) (O f) v) where
  pub fields_kin : (fs : List Field) (vs : List ℕ) → Kin (byte_of fs) (each field fs) (Pairwise O fs) vs
  unfolding each_show EachOk
  fields_kin [] [] = same_kin (λ o. o) (λ o. o) (λ o. tt)
  fields_kin [] (v ∷ vs) = same_kin (λ o. absurd o) (λ o. absurd o) (λ o. tt)
  fields_kin (f ∷ fs) [] = same_kin (λ o. absurd o) (λ o. absurd o) (λ o. tt)
  fields_kin (f ∷ fs) (v ∷ vs) =
      let x = k f v in
      let r = fields_kin fs vs in
      record {
        held = λ o h. (x.held o.0 (omega arith), r.held o.1 (omega arith));
        meant = λ o. (x.meant o.0, r.meant o.1);
        alike = λ o h.
            let i = x.alike o.0 (omega arith) in
            let j = r.alike o.1 (omega arith) in
            record {
              other = i.other ∷ j.other;
              ok = (i.ok, j.ok);
              shown = ap₂ (λ l m. l ++ m) i.shown j.shown;
              size = refl;
              same = λ o. ap₂ ◌∷◌ (i.same o.0) (j.same o.1);
            };
      }

  item_kin : (x : Item) (v : List ℕ) → Kin (section_item x) (item_for field x) (OfItem O x) v
  item_kin (plain n) v = same_kin (λ o. o) (λ o. o) (λ o. tt)
  item_kin numbers v = same_kin (λ o. o) (λ o. o) (λ o. tt)
  item_kin (packed fs) v = fields_kin fs v

  items_kin : (xs : List Item) (l : Fields)
      → Kin (each section_item xs) (each (item_for field) xs) (Pairwise (OfItem O) xs) l
  items_kin = each_kin section_item (item_for field) (OfItem O) item_kin

  -- after a length of their own
  sized_kin : {A : Type 0} (c d : Form A) (P : A → Type 0) → ((a : A) → Kin c d P a) → Full c
      → (fs : List Field) (p : List ℕ × List A)
      → Kin (loop c fs) (each field fs then counted d) (λ q. Pairwise O fs q.0 × Each P q.1) p
  unfolding loop_show
  sized_kin c d P kin full fs p =
      let x = fields_kin fs p.0 in
      let y = filled_kin c d P kin full (length (all c p.1)) p.1 refl in
      record {
        held = λ o h. (x.held o.0 (omega arith), omega arith, (y.held o.1 (omega arith)).1);
        meant = λ o. (x.meant o.0, y.meant o.1);
        alike = λ o h.
            let i = x.alike o.0 (omega arith) in
            let j = y.alike (refl, o.2) (omega arith) in
            record {
              other = (i.other, j.other);
              ok = (i.ok, j.ok);
              shown = ap₂ (λ l m. l ++ m) i.shown j.shown;
              size = ap (λ n. suc (suc n)) j.size;
              same = λ o. ap₂ (λ a b. (a, b)) (i.same o.0) (j.same o.1);
            };
      }

  -- of descriptors nothing is asked
  loop-kin : (fs : List Field) (p : Loop) → Kin (section_loop fs) (loop_for field fs) (λ q. Pairwise O fs q.0) p
  loop-kin fs p =
      said (λ o. o.0) (λ o. (o, nothing p.1))
      (sized_kin descriptor descriptor (λ d. Unit {0}) (λ d. same_kin (λ o. o) (λ o. o) (λ o. tt)) descriptor_full fs p)
    where
      nothing : {A : Type 0} (l : List A) → Each (λ a. Unit {0}) l
      nothing [] = tt
      nothing (a ∷ l) = (tt, nothing l)

  entry_kin : (row : ℕ) (e : Entry) → Kin (section_entry row) (entry_for field row) (OfEntry O row) e
  entry_kin row e = then-kin e (items_kin (entry_of row) e.0) (loop-kin (side_of row) e.1)

  top_kin : (x : TableShape) (p : Loop) → Kin (section_top_by x) (top_for_by field x) (λ q. Pairwise O (length_bits_by x) q.0) p
  top_kin neither p = same_kin (λ o. o) (λ o. o) (λ o. tt)
  top_kin top_only p = loop-kin bare p
  top_kin entries_only p = same_kin (λ o. o) (λ o. o) (λ o. tt)
  top_kin both p = loop-kin bare p

  -- no field
  none_kin : (vs : List ℕ) → Kin (mute []) (each field []) (Pairwise O []) vs
  unfolding EachOk each_show
  none_kin [] = same_kin (λ o. refl) (λ o. tt) (λ o. tt)
  none_kin (v ∷ vs) = same_kin (λ o. absurd o) (λ o. let n = ap length o in absurd (omega arith)) (λ o. tt)

  abbrev OfEntries : TableShape → ℕ → Entries → Type 0
  OfEntries x row q = Pairwise O (length_bits_by x) q.0 × Each (OfEntry O row) q.1

  entries_kin : (x : TableShape) (row n : ℕ) (p : Entries) → length ((section_entries_by x row n).show p) ≡ n
      → Kin (section_entries_by x row n) (entries_for_by field x row) (OfEntries x row) p
  entries_kin neither row n p e = same_kin (λ o. o) (λ o. o) (λ o. subst (OfEntries neither row) (sym o) (tt, tt))
  entries_kin top_only row n p e = same_kin (λ o. o) (λ o. o) (λ o. subst (OfEntries top_only row) (sym o) (tt, tt))
  entries_kin entries_only row n p e =
      then-kin p (none_kin p.0)
      (filled_kin (section_entry row) (entry_for field row) (OfEntry O row) (entry_kin row) (entry_full row) n p.1 e)
  entries_kin both row n p e =
      sized_kin (section_entry row) (entry_for field row) (OfEntry O row) (entry_kin row) (entry_full row) bare p

  pub body_kin : (row n : ℕ) (b : Body) → length ((section_entries row n).show b.1.1) ≡ n
      → Kin (section_body row n) (body_for field row)
      (λ q. Pairwise (OfItem O) (head_of row) q.0
      × (Pairwise O (length_bits row) q.1.0.0 × OfEntries (shape_of row) row q.1.1))
      b
  body_kin row n b e =
      then-kin b (items_kin (head_of row) b.0)
      (then-kin b.1 (top_kin (shape_of row) b.1.0) (entries_kin (shape_of row) row n b.1.1 e))
