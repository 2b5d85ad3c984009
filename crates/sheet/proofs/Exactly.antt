-- Refusals 22 to 26 exactly if: whatever bytes a sheet has, one of document 01's sentences is true of them, and it is
-- the one that the judge says.
use Prim.Native.Nat.{ℕ, suc, ◌+◌, ◌-◌, ◌^◌, ◌<◌, ◌≤◌}
use mathlib.Core.Path.{◌≡◌, refl, sym, ap, ◌∙◌, subst}
use mathlib.Core.Logic.{◌⊎◌, inl, inr}
use mathlib.Core.Bool.{Bool, true, false}
use mathlib.Core.List.{List, [], ◌∷◌, ◌++◌, append-nil, append_assoc}
use native.Mathlib.Omega.{arith}
use native.Mathlib.Decide.{dec_le, dec_lt}
use borrow.Author.Tests.{lt-ltb, le-ltb, le-leb, lt-leb}
use lib.ListN.{length, get_or, length-append}
use Rattle.std.specs.Prelude.{if◌then◌else◌}
use Rattle.wire.specs.Bytes.{Bytes}
use Rattle.wire.specs.Reading.{value, refused}
use Rattle.wire.proofs.ReadingLaws.{value_is, refused_is, never}
use Rattle.tables.specs.Tables.{holds, first, row_of, row_at, InRow}
use Rattle.tables.proofs.RowLaws.{row-in, row_below}
use Rattle.forms.specs.Form.{Form, raw, such_read, such, each}
use lib.Pow.{pow_pos}
use Rattle.forms.specs.Fields.{Field, kept, reserved, sheet_field}
use Rattle.forms.specs.Laws.{Lawful}
use Rattle.forms.proofs.Lawful.{read_on, stays, raw_read_lem}
use Rattle.forms.proofs.FieldLaws.{field_lawful}
use Rattle.forms.proofs.Fronts.{View, whole, early, wide, Seen, then-seen, mute_seen, raw_short, raw_seen, below_seen, each_seen, counted_seen}
use Rattle.sheet.specs.Content.{Item, plain, numbers, packed, bare, frame, head_of, entry_of, shape_of, has_top, has_entries, side_of, Content, table_of, row_in}
use Rattle.sheet.specs.Sheet.{inOrder, descriptor_read, descriptor, item_for, loop_for, entry_for, top_for, entries_for, behind_for, read_for, shown_for, OkFor}
use Rattle.sheet.specs.Section.{section_length, section_of, read_sheet_for}
use Rattle.sheet.specs.Reads.{judged_for}
use Rattle.sheet.specs.Faults as faults
use Rattle.sheet.specs.Faults.{FaultFor, AcceptedFor, RefusedExactlyFor, AcceptedExactlyFor, RefusedExactlyIf, AcceptedExactlyIf}
use Rattle.sheet.proofs.SheetLaws.{fields_lawful, item_lawful, items_lawful, descriptor_lawful, entry_lawful, top_lawful, sheet_lawful}
use Rattle.sheet.proofs.SectionSize.{section_length_lem}
use Rattle.sheet.proofs.JudgeLaws.{judged_unknown, known_id}
use Rattle.wire.specs.If.{choose◌then◌else◌}

-- ---- what stands at the front, part by part

numbers_seen : Seen (such (raw 2) 24 inOrder)
unfolding such_read
numbers_seen = record { some = (0 ∷ 0 ∷ [], (refl, refl)); view = λ s w. go s }
  where
    tested : (i j : ℕ) (r : List ℕ) → Dec (i ≤ j) → View (such (raw 2) 24 inOrder) (i ∷ j ∷ r)
    tested i j r (yes h) = whole (i ∷ j ∷ []) r (refl, le-leb i j h) refl
    tested i j r (no h) =
        let g : j < i = omega arith in
        wide (λ u. read_on _ (raw_read_lem 2 (i ∷ j ∷ []) (r ++ u) refl) ∙ rw (lt-leb i j g))

    go : (s : List ℕ) → View (such (raw 2) 24 inOrder) s
    go [] = early (0 ∷ 0 ∷ []) (0 ∷ 0 ∷ []) (refl, refl) refl (stays _ (raw_short 2 [] (omega arith)))
    go (i ∷ []) =
        early (i ∷ i ∷ []) (i ∷ []) (refl, le-leb i i (omega arith)) refl (stays _ (raw_short 2 (i ∷ []) (omega arith)))
    go (i ∷ j ∷ r) = tested i j r (dec_le i j)

descriptor_seen : Seen descriptor
unfolding descriptor_read
descriptor_seen = record { some = (record { tag = 0; body = [] }, omega arith); view = go }
  where
    go : (s : List ℕ) → Bytes s → View descriptor s
    go [] w =
        early (record { tag = 0; body = [] }) (0 ∷ 0 ∷ []) (omega arith) refl (stays _ (raw_short 2 [] (omega arith)))
    go (t ∷ []) w =
        early (record { tag = t; body = [] }) (0 ∷ []) (omega arith) refl (stays _ (raw_short 2 (t ∷ []) (omega arith)))
    go (t ∷ n ∷ r) w = behind ((raw_seen n).view r (λ i. w (suc (suc i))))
      where
        behind : View (raw n) r → View descriptor (t ∷ n ∷ r)
        behind (whole b u o e) =
            let h = w 1 in
            whole (record { tag = t; body = b }) u (omega (arith, o))
            (ap (λ x. t ∷ n ∷ x) e ∙ ap (λ k. t ∷ k ∷ (b ++ u)) (sym o))
        behind (early b u o e f) =
            let h = w 1 in
            early (record { tag = t; body = b }) u (omega (arith, o))
            (ap (λ x. t ∷ n ∷ x) e ∙ ap (λ k. t ∷ k ∷ b) (sym o))
            (read_on _ (raw_read_lem 2 (t ∷ n ∷ []) r refl) ∙ stays _ f)
        behind (wide f) = wide (λ u. read_on _ (raw_read_lem 2 (t ∷ n ∷ []) (r ++ u) refl) ∙ stays _ (f u))

if-seen : {A : Type 0} (b : Bool) {c d : Form A} → Seen c → Seen d → Seen (choose b then c else d)
if-seen true f g = f
if-seen false f g = g

no_row : (id : ℕ) → 6 ≤ row_of id → (i : ℕ) → i < 6 → InRow i id → ⊥
no_row id h i k g = let l = row_below id i k g in omega arith

-- by how a field is shown
module _ (field : Field → Form ℕ) (lawful : (f : Field) → Lawful (field f)) (seen : (f : Field) → Seen (field f)) where
  fields_seen : (fs : List Field) → Seen (each field fs)
  fields_seen = each_seen field lawful seen

  item_seen : (x : Item) → Seen (item_for field x)
  item_seen (plain n) = raw_seen n
  item_seen numbers = numbers_seen
  item_seen (packed fs) = fields_seen fs

  items_seen : (xs : List Item) → Seen (each (item_for field) xs)
  items_seen = each_seen (item_for field) (item_lawful field lawful) item_seen

  loop-seen : (fs : List Field) → Seen (loop_for field fs)
  loop-seen fs =
      then-seen (fields_lawful field lawful fs).complete (fields_seen fs) (counted_seen descriptor descriptor_lawful descriptor_seen)

  entry_seen : (row : ℕ) → Seen (entry_for field row)
  entry_seen row = then-seen (items_lawful field lawful (entry_of row)).complete (items_seen (entry_of row)) (loop-seen (side_of row))

  top_seen : (row : ℕ) → Seen (top_for field row)
  top_seen row = if-seen (has_top (shape_of row)) (loop-seen bare) (mute_seen ([], []))

  entries_seen : (row : ℕ) → Seen (entries_for field row)
  entries_seen row =
      if-seen (has_entries (shape_of row))
      (then-seen (fields_lawful field lawful _).complete (fields_seen (if has_top (shape_of row) then bare else []))
      (counted_seen (entry_for field row) (entry_lawful field lawful row) (entry_seen row))) (mute_seen ([], []))

  behind_seen : (row : ℕ) → Seen (behind_for field row)
  behind_seen row =
      then-seen (fields_lawful field lawful frame).complete (fields_seen frame)
      (then-seen (items_lawful field lawful (head_of row)).complete (items_seen (head_of row))
      (then-seen (top_lawful field lawful row).complete (top_seen row) (entries_seen row)))

  -- ---- the whole sheet

  data Front (s : List ℕ) : Type 0 where
    whole_sheet : (c : Content) (r : List ℕ) → OkFor field c → s ≡ shown_for field c ++ r → Front s
    begun : (c : Content) (u : List ℕ) → OkFor field c → s ++ u ≡ shown_for field c → read_for field s ≡ refused 22 → Front s
    unknown_id : 0 < length s → 6 ≤ row_of (get_or s 0 0) → Front s
    too_wide : 0 < length s → row_of (get_or s 0 0) < 6 → ((u : List ℕ) → read_for field (s ++ u) ≡ refused 24) → Front s

  -- no byte is the beginning of the shortest sheet
  nothing : Front []
  unfolding shown_for OkFor read_for such_read row_of first holds
  nothing =
      let b = (behind_seen (row_of 0x70)).some in
      begun (0x70, b.0) (0x70 ∷ (behind_for field (row_of 0x70)).show b.0) (omega arith, b.1) refl
      (stays _ (stays _ (raw_short 1 [] (omega arith))))

  known_front : (a : ℕ) (t : List ℕ) → row_of a < 6 → View (behind_for field (row_of a)) t → Front (a ∷ t)
  unfolding shown_for OkFor
  known_front a t h (whole b r o e) = whole_sheet (a, b) r (h, o) (ap (λ x. a ∷ x) e)
  known_front a t h (early b u o e f) = begun (a, b) u (h, o) (ap (λ x. a ∷ x) e) (known_id field a t h ∙ stays _ f)
  known_front a t h (wide f) = too_wide (omega arith) h (λ u. known_id field a (t ++ u) h ∙ stays _ (f u))

  front : (s : List ℕ) → Bytes s → Front s
  front [] w = nothing
  front (a ∷ t) w = go (dec_lt (row_of a) 6)
    where
      go : Dec (row_of a < 6) → Front (a ∷ t)
      go (yes h) = known_front a t h ((behind_seen (row_of a)).view t (λ i. w (suc i)))
      go (no h) = unknown_id (omega arith) (omega arith)

  -- ---- what is said

  module _ (s : List ℕ) where
    refused_so : (k : ℕ) → read_for field s ≡ refused k → judged_for field s ≡ refused k
    unfolding judged_for read_sheet_for
    refused_so k e = stays _ (stays _ e)

    module _ (c : Content) (o : OkFor field c) where
      read_so : (r : List ℕ) → s ≡ shown_for field c ++ r → read_for field s ≡ value (c, r)
      read_so r e = ap (read_for field) e ∙ (sheet_lawful field lawful).complete c r o

      read_whole : s ≡ shown_for field c → read_for field s ≡ value (c, [])
      read_whole e = read_so [] (e ∙ sym (append-nil (shown_for field c)))

      after_so : (r : List ℕ) → s ≡ shown_for field c ++ r → 0 < length r → judged_for field s ≡ refused 25
      unfolding judged_for read_sheet_for
      after_so r e h = stays _ (read_on _ (read_so r e) ∙ rw (lt-ltb 0 (length r) h))

      long_so : s ≡ shown_for field c → (row_at (row_in c)).most < section_length c → judged_for field s ≡ refused 26
      unfolding judged_for read_sheet_for
      long_so e h = stays _ (read_on _ (read_whole e) ∙ rw (lt-ltb (row_at (row_in c)).most (section_length c) h))

      fits_so : s ≡ shown_for field c → section_length c ≤ (row_at (row_in c)).most → judged_for field s ≡ value (section_length c)
      unfolding judged_for read_sheet_for
      fits_so e h = read_on _ (read_on _ (read_whole e) ∙ rw (le-ltb (row_at (row_in c)).most (section_length c) h))

      size_so : length (section_of c) ≡ 3 + section_length c
      unfolding OkFor
      size_so = section_length_lem c o.0

  -- the judge's word, and that it is true
  module _ (s : List ℕ) (w : Bytes s) where
    abbrev Said : Type 0
    Said = ((n : ℕ) × (judged_for field s ≡ value n) × AcceptedFor field s n)
        ⊎ ((k : ℕ) × (judged_for field s ≡ refused k) × FaultFor field s k)

    said : Said
    said = go (front s w)
      where
        alone : (c : Content) → OkFor field c → s ≡ shown_for field c → Dec (section_length c ≤ (row_at (row_in c)).most) → Said
        alone c o e (yes h) =
            inl (
              section_length c,
              fits_so s c o e h,
              record { content = c; ok = o; is = e; size = size_so s c o; most = h },
            )
        alone c o e (no h) =
            let n = size_so s c o in
            inr (26, long_so s c o e (omega arith), faults.long c o e (omega arith))

        behind : (c : Content) (r : List ℕ) → OkFor field c → s ≡ shown_for field c ++ r → Said
        behind c [] o e = alone c o (e ∙ append-nil (shown_for field c)) (dec_le (section_length c) (row_at (row_in c)).most)
        behind c (b ∷ r) o e = inr (25, after_so s c o (b ∷ r) e (omega arith), faults.after c (b ∷ r) o (omega arith) e)

        missing : (c : Content) (u : List ℕ) → OkFor field c → s ++ u ≡ shown_for field c → read_for field s ≡ refused 22 → Said
        missing c [] o e f = absurd (never (sym (read_whole s c o (sym (append-nil s) ∙ e)) ∙ f))
        missing c (b ∷ u) o e f = inr (22, refused_so s 22 f, faults.early c (b ∷ u) o (omega arith) e)

        go : Front s → Said
        go (whole_sheet c r o e) = behind c r o e
        go (begun c u o e f) = missing c u o e f
        go (unknown_id h k) = inr (23, judged_unknown field s h k, faults.unknown h (no_row (get_or s 0 0) k))
        go (too_wide h k f) =
            inr (
              24,
              refused_so s 24 (ap (read_for field) (sym (append-nil s)) ∙ f []),
              faults.wide (row_of (get_or s 0 0)) h k (row-in (get_or s 0 0) k)
                  (λ c more rest o e. never (sym (read_so (s ++ more) c o rest e) ∙ f more)),
            )

    -- two of the sentences are not true of the same bytes
    begins : (c : Content) (missing : List ℕ) → OkFor field c → s ++ missing ≡ shown_for field c → 0 < length s
        → get_or s 0 0 ≡ table_of c
    unfolding shown_for
    begins c u o e h = go s h e
      where
        go : (s : List ℕ) → 0 < length s → s ++ u ≡ shown_for field c → get_or s 0 0 ≡ table_of c
        go [] h e = absurd (omega arith)
        go (a ∷ t) h e = ap (λ x. get_or x 0 0) e

    early_so : (c : Content) (u : List ℕ) → OkFor field c → 0 < length u → s ++ u ≡ shown_for field c → judged_for field s ≡ refused 22
    unfolding OkFor
    early_so c u o h e = go (front s w)
      where
        read : read_for field (s ++ u) ≡ value (c, [])
        read = read_whole (s ++ u) c o e

        go : Front s → judged_for field s ≡ refused 22
        go (whole_sheet d r p q) =
            let x : read_for field (s ++ u) ≡ value (d, r ++ u) =
            read_so (s ++ u) d p (r ++ u) (ap (λ y. y ++ u) q ∙ append_assoc (shown_for field d) r u) in
            let z : ◌≡◌ {A = Content × List ℕ} (d, r ++ u) (c, []) = value_is (sym x ∙ read) in
            let n : length (r ++ u) ≡ 0 = ap (λ (y : Content × List ℕ). length y.1) z in
            let m = length-append r u in
            absurd (omega arith)
        go (begun d v p q f) = refused_so s 22 f
        go (unknown_id k l) = let t = begins c u o e k in let i = o.0 in absurd (omega (arith, ap row_of t))
        go (too_wide k l f) = absurd (never (sym read ∙ f u))

    wide_so : 0 < length s → row_of (get_or s 0 0) < 6
        → ((c : Content) (more rest : List ℕ) → OkFor field c → s ++ more ≡ shown_for field c ++ rest → ⊥)
        → judged_for field s ≡ refused 24
    wide_so h k f = go (front s w)
      where
        go : Front s → judged_for field s ≡ refused 24
        go (whole_sheet c r o e) = absurd (f c [] r o (append-nil s ∙ e))
        go (begun c u o e q) = absurd (f c u [] o (e ∙ sym (append-nil (shown_for field c))))
        go (unknown_id i l) = absurd (omega arith)
        go (too_wide i l q) = refused_so s 24 (ap (read_for field) (sym (append-nil s)) ∙ q [])

    unknown_so : 0 < length s → ((i : ℕ) → i < 6 → InRow i (get_or s 0 0) → ⊥) → judged_for field s ≡ refused 23
    unknown_so h f = go (dec_le 6 (row_of (get_or s 0 0)))
      where
        go : Dec (6 ≤ row_of (get_or s 0 0)) → judged_for field s ≡ refused 23
        go (yes k) = judged_unknown field s h k
        go (no k) = let l : row_of (get_or s 0 0) < 6 = omega arith in absurd (f _ l (row-in (get_or s 0 0) l))

    fault_said : {k : ℕ} → FaultFor field s k → judged_for field s ≡ refused k
    fault_said (faults.early c u o h e) = early_so c u o h e
    fault_said (faults.unknown h f) = unknown_so h f
    fault_said (faults.wide i h k g f) = let l = row_below (get_or s 0 0) i k g in wide_so h (omega arith) f
    fault_said (faults.after c r o h e) = after_so s c o r e h
    fault_said (faults.long c o e h) = let n = size_so s c o in long_so s c o e (omega arith)

    accepted_said : (n : ℕ) → AcceptedFor field s n → judged_for field s ≡ value n
    accepted_said n a =
        let m = size_so s a.content a.ok in
        let i = a.size in
        let j = a.most in
        let e : section_length a.content ≡ n = omega arith in
        fits_so s a.content a.ok a.is (omega arith) ∙ ap value e

  -- ---- exactly if

  pub refused_exactly_for : RefusedExactlyFor field
  refused_exactly_for s w k = (go (said s w), fault_said s w)
    where
      go : Said s w → judged_for field s ≡ refused k → FaultFor field s k
      go (inl x) e = absurd (never (sym x.1 ∙ e))
      go (inr x) e = subst (FaultFor field s) (refused_is (sym x.1 ∙ e)) x.2

  pub accepted_exactly_for : AcceptedExactlyFor field
  accepted_exactly_for s w n = (go (said s w), accepted_said s w n)
    where
      go : Said s w → judged_for field s ≡ value n → AcceptedFor field s n
      go (inl x) e = subst (AcceptedFor field s) (value_is (sym x.1 ∙ e)) x.2
      go (inr x) e = absurd (never (sym e ∙ x.1))

-- ---- of document 01's sheets

field_seen : (f : Field) → Seen (sheet_field f)
field_seen (kept w) = below_seen (2 ^ w) (pow_pos w)
field_seen (reserved w) = mute_seen (2 ^ w - 1)

pub refused_exactly_if : RefusedExactlyIf
refused_exactly_if = refused_exactly_for sheet_field field_lawful field_seen

pub accepted_exactly_if : AcceptedExactlyIf
accepted_exactly_if = accepted_exactly_for sheet_field field_lawful field_seen
