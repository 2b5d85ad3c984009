-- A sheet is read as it is shown: the form of sheets has both laws, since each of its parts has.
use Prim.Native.Nat.{ℕ, ◌<◌}
use mathlib.Core.Path.{◌≡◌, refl, sym, ap, ap₂, ◌∙◌, subst}
use mathlib.Core.List.{List, [], ◌∷◌, ◌++◌}
use mathlib.Core.Bool.{Bool, true, false}
use native.Mathlib.Omega.{arith}
use borrow.Author.Tests.{ltb-true, lt-ltb}
use lib.ListN.{length, get_or}
use lib.Dec.{ltb}
use Rattle.std.specs.Prelude.{if◌then◌else◌}
use Rattle.wire.specs.Bytes.{Bytes}
use Rattle.wire.proofs.ReadingLaws.{value_is, through}
use Rattle.tables.specs.Tables.{row_of}
use Rattle.forms.specs.Form.{Form, raw_read, raw, ◌then◌, such, each}
use Rattle.forms.specs.Fields.{Field}
use Rattle.forms.specs.Lists.{counted}
use Rattle.forms.specs.Laws.{Lawful, Sound, Complete}
use Rattle.forms.proofs.Lawful.{read_on, mute_lawful, raw_read_lem, raw_shown, one_of, two_of, raw_lawful, then-lawful, such_lawful, each_lawful, bytes_behind}
use Rattle.forms.proofs.ListLaws.{counted_lawful}
use Rattle.sheet.specs.Content.{Item, plain, numbers, packed, bare, frame, head_of, entry_of, shape_of, has_top, has_entries, side_of, Descriptor, Content, table_of, row_in}
use Rattle.sheet.specs.Sheet.{inOrder, descriptor_read, descriptor, item_for, loop_for, entry_for, top_for, entries_for, body_for, behind_for, read_for, shown_for, OkFor, sheet_for}
use Rattle.wire.specs.If.{choose◌then◌else◌}

descriptor_sound : Sound descriptor
unfolding descriptor_read
descriptor_sound s d t w e =
    let x = through (raw_read 2 s) _ (d, t) e in
    let a = x.0.0 in
    let r = x.0.1 in
    let y = through (raw_read (get_or a 1 0) r) _ (d, t) x.2 in
    let b = y.0.0 in
    let u = y.0.1 in
    let h = raw_shown 2 s a r x.1 in
    let k = raw_shown (get_or a 1 0) r b u y.1 in
    let es : s ≡ get_or a 0 0 ∷ get_or a 1 0 ∷ r = h.0 ∙ ap (λ z. z ++ r) (two_of a h.1) in
    let n : get_or a 1 0 < 256 = subst Bytes es w 1 in
    let q : ◌≡◌ {A = Descriptor × List ℕ} (record { tag = get_or a 0 0; body = b }, u) (d, t) = value_is y.2 in
    let g : s ≡ (get_or a 0 0 ∷ length b ∷ b) ++ u = es ∙ ap₂ (λ m z. get_or a 0 0 ∷ m ∷ z) (sym k.1) k.0 in
    subst
    (λ (z : Descriptor × List ℕ). (s ≡ (z.0.tag ∷ length z.0.body ∷ z.0.body) ++ z.1)
    × (length z.0.body < 256))
    q (g, omega (arith, k.1))

pub descriptor_complete : Complete descriptor
unfolding descriptor_read
descriptor_complete d t o =
    read_on _ (raw_read_lem 2 (d.tag ∷ length d.body ∷ []) (d.body ++ t) refl) ∙ read_on _ (raw_read_lem (length d.body) d.body t refl)

pub descriptor_lawful : Lawful descriptor
descriptor_lawful = record { sound = descriptor_sound; complete = descriptor_complete }

-- one of two forms, by a test
if-lawful : {A : Type 0} (b : Bool) {c d : Form A} → Lawful c → Lawful d → Lawful (choose b then c else d)
if-lawful true f g = f
if-lawful false f g = g

abbrev known : List ℕ → Bool
known id = ltb (row_of (get_or id 0 0)) 6

-- by how a field is shown, if that form has both laws
module _ (field : Field → Form ℕ) (lawful : (f : Field) → Lawful (field f)) where
  pub fields_lawful : (fs : List Field) → Lawful (each field fs)
  fields_lawful = each_lawful field lawful

  pub item_lawful : (x : Item) → Lawful (item_for field x)
  item_lawful (plain n) = raw_lawful n
  item_lawful numbers = such_lawful (raw 2) 24 inOrder (raw_lawful 2)
  item_lawful (packed fs) = fields_lawful fs

  pub items_lawful : (xs : List Item) → Lawful (each (item_for field) xs)
  items_lawful = each_lawful (item_for field) item_lawful

  pub loop-lawful : (fs : List Field) → Lawful (loop_for field fs)
  loop-lawful fs = then-lawful (each field fs) (counted descriptor) (fields_lawful fs) (counted_lawful descriptor descriptor_lawful)

  pub entry_lawful : (row : ℕ) → Lawful (entry_for field row)
  entry_lawful row =
      then-lawful (each (item_for field) (entry_of row)) (loop_for field (side_of row)) (items_lawful (entry_of row))
      (loop-lawful (side_of row))

  pub top_lawful : (row : ℕ) → Lawful (top_for field row)
  top_lawful row = if-lawful (has_top (shape_of row)) (loop-lawful bare) (mute_lawful ([], []))

  pub entries_lawful : (row : ℕ) → Lawful (entries_for field row)
  entries_lawful row =
      if-lawful (has_entries (shape_of row))
      (then-lawful (each field (if has_top (shape_of row) then bare else [])) (counted (entry_for field row)) (fields_lawful _)
      (counted_lawful (entry_for field row) (entry_lawful row))) (mute_lawful ([], []))

  pub behind_lawful : (row : ℕ) → Lawful (behind_for field row)
  behind_lawful row =
      then-lawful (each field frame) (body_for field row) (fields_lawful frame)
      (then-lawful (each (item_for field) (head_of row)) (top_for field row then entries_for field row) (items_lawful (head_of row))
      (then-lawful (top_for field row) (entries_for field row) (top_lawful row) (entries_lawful row)))

  -- ---- the whole sheet

  sheet_complete : Complete (sheet_for field)
  unfolding read_for shown_for OkFor
  sheet_complete c r o =
      let id = table_of c ∷ [] in
      read_on _
      ((such_lawful (raw 1) 23 known (raw_lawful 1)).complete id ((behind_for field (row_in c)).show c.1 ++ r)
      (refl, lt-ltb _ _ o.0))
      ∙ read_on _ ((behind_lawful (row_in c)).complete c.1 r o.1)

  sheet_sound : Sound (sheet_for field)
  unfolding read_for shown_for OkFor
  sheet_sound s c t w e =
      let x = through ((such (raw 1) 23 known).read s) _ (c, t) e in
      let a = x.0.0 in
      let r = x.0.1 in
      let row : ℕ = row_of (get_or a 0 0) in
      let y = through ((behind_for field row).read r) _ (c, t) x.2 in
      let b = y.0.0 in
      let u = y.0.1 in
      let h = (such_lawful (raw 1) 23 known (raw_lawful 1)).sound s a r w x.1 in
      let es : s ≡ get_or a 0 0 ∷ r = h.0 ∙ ap (λ z. z ++ r) (one_of a h.1.0) in
      let k = (behind_lawful row).sound r b u (bytes_behind (get_or a 0 0 ∷ []) r es w) y.1 in
      let q : ◌≡◌ {A = Content × List ℕ} ((get_or a 0 0, b), u) (c, t) = value_is y.2 in
      subst (λ (z : Content × List ℕ). (s ≡ shown_for field z.0 ++ z.1) × OkFor field z.0) q
      (es ∙ ap (λ z. get_or a 0 0 ∷ z) k.0, (ltb-true _ _ h.1.1, k.1))

  pub sheet_lawful : Lawful (sheet_for field)
  sheet_lawful = record { sound = sheet_sound; complete = sheet_complete }
