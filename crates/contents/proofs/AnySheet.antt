-- Whole tables: what a sheet shows can stand in a section, and what a section holds has a sheet; whichever way the sheet
-- shows a field.
use Prim.Native.Nat.{ℕ, ◌+◌, ◌*◌, ◌^◌, ◌<◌, ◌≤◌}
use mathlib.Core.Path.{◌≡◌, refl, sym, ap, ap₂, ◌∙◌, subst}
use mathlib.Core.List.{List, [], ◌∷◌, ◌++◌, append-nil}
use mathlib.Core.Bool.{false}
use native.Mathlib.Omega.{arith}
use borrow.Author.Tests.{ltb-false, le-ltb}
use lib.ListN.{length}
use lib.Dec.{ltb}
use Rattle.wire.specs.Bytes.{Bytes}
use Rattle.wire.specs.Reading.{Reading, value}
use Rattle.wire.proofs.IfLaws.{if-case}
use Rattle.wire.proofs.ReadingLaws.{value_is, never, through}
use Rattle.tables.specs.Tables.{row_at}
use Rattle.forms.specs.Form.{Form, each}
use Rattle.forms.specs.Fields.{Field, width, below, byte_of}
use Rattle.forms.specs.Laws.{Lawful}
use Rattle.forms.proofs.Lawful.{read_on}
use Rattle.sheet.specs.Content.{frame, head_of, shape_of, Body, Content, table_of, frame_of, body_of, row_in, rest_in}
use Rattle.sheet.specs.Sheet.{body_for, OkFor, shown_for, sheet_for}
use Rattle.sheet.specs.Section.{section_item, section_top, section_body, section_length, section_of, read_sheet_for}
use Rattle.sheet.proofs.SectionSize.{section_length_lem}
use Rattle.sheet.proofs.SheetLaws.{sheet_lawful}
use Rattle.contents.specs.Holds.{entries_bytes, Holds}
use Rattle.contents.specs.Ones.{OfItem, OfFields, length_bits, Pairwise, Each, OfEntry}
use Rattle.contents.proofs.SectionLaws.{numbers_of, shown_alike}
use Rattle.contents.proofs.TwoForms.{Kin, fields_kin, body_kin}

-- how a body is shown does not depend on the number of bytes that its entries are said to have
body_alike : (row n : ℕ) (b : Body) → (section_body row n).show b ≡ (section_body row 0).show b
body_alike row n b =
    ap (λ z. (each section_item (head_of row)).show b.0 ++ ((section_top row).show b.1.0 ++ z))
    (shown_alike (shape_of row) row n 0 b.1.1)

empty : (t : List ℕ) → ltb 0 (length t) ≡ false → t ≡ []
empty [] e = refl
empty (x ∷ t) e = let l = ltb-false 0 (length (x ∷ t)) e in absurd (omega arith)

-- by how the sheet shows a field
module _ (field : Field → Form ℕ) (lawful : (f : Field) → Lawful (field f)) (O : Field → ℕ → Type 0)
    (k : (f : Field) (v : ℕ) → Kin (below (2 ^ width f)) (field f) (O f) v) where
  module _ (c : Content) where
    abbrev row : ℕ
    row = row_in c

    abbrev n : ℕ
    n = length (entries_bytes c)

    frame_kin : Kin (byte_of frame) (each field frame) (Pairwise O frame) (frame_of c)
    frame_kin = fields_kin field O k frame (frame_of c)

    whole_kin : Kin (section_body row n) (body_for field row)
        (λ q. Pairwise (OfItem O) (head_of row) q.0
        × (Pairwise O (length_bits row) q.1.0.0
        × (Pairwise O (length_bits row) q.1.1.0 × Each (OfEntry O row) q.1.1.1)))
        (body_of c)
    whole_kin = body_kin field O k row n (body_of c) (ap length (shown_alike (shape_of row) row n 0 (rest_in c)))

    -- section_length counts the body
    body_short : (most : ℕ) → section_length c ≤ most → length ((section_body row n).show (body_of c)) ≤ most
    unfolding section_length
    body_short most h = let e = ap length (body_alike row n (body_of c)) in omega arith

    pub holds_of : OkFor field c → section_length c ≤ (row_at row).most → Holds c
    unfolding OkFor
    holds_of o h =
        let m = (numbers_of row o.0).most in
        let s = body_short (row_at row).most h in
        record {
          known = o.0;
          frame_fits = frame_kin.held o.1.0 (omega arith);
          body = whole_kin.held o.1.1 (omega arith);
          most = h;
        }

    pub meant_of : OkFor field c → OfFields O c
    unfolding OkFor
    meant_of o =
        let x = whole_kin.meant o.1.1 in
        record {
          in_frame = frame_kin.meant o.1.0;
          in_head = x.0;
          in_top = x.1.0;
          in_second = x.1.1.0;
          in_entries = x.1.1.1;
        }

    -- what a section holds, another that a sheet can show, as it shows the first; its section is as long
    pub record SameSheet : Type 0 where
      pub other : Content
      pub ok : OkFor field other
      pub known : row_in other < 6
      pub fits : section_length other ≤ (row_at (row_in other)).most
      pub shown : shown_for field other ≡ shown_for field c
      pub size : section_length other ≡ section_length c
      pub same : OfFields O c → other ≡ c

    pub same_sheet : Holds c → SameSheet
    unfolding OkFor shown_for section_length
    same_sheet h =
        let m = (numbers_of row h.known).most in
        let s = body_short (row_at row).most h.most in
        let f = frame_kin.alike h.frame_fits (omega arith) in
        let x = whole_kin.alike h.body (omega arith) in
        let size = sym (ap length (body_alike row n x.other)) ∙ x.size ∙ ap length (body_alike row n (body_of c)) in
        record {
          other = (table_of c, (f.other, x.other));
          ok = (h.known, (f.ok, x.ok));
          known = h.known;
          fits = subst (λ l. l + 4 * (row_at row).crc ≤ (row_at row).most) (sym size) h.most;
          shown = ap₂ (λ l m. table_of c ∷ (l ++ m)) f.shown x.shown;
          size = ap (λ m. m + 4 * (row_at row).crc) size;
          same = λ u. ap₂ (λ v b. (table_of c, (v, b))) (f.same u.in_frame)
              (x.same (u.in_head, (u.in_top, (u.in_second, u.in_entries))));
        }

    -- what a sheet can show, not too long, is what reading it gives
    pub read_again : OkFor field c → section_length c ≤ (row_at row).most → read_sheet_for field (shown_for field c) ≡ value c
    unfolding read_sheet_for
    read_again o h =
        read_on _ (ap (sheet_for field).read (sym (append-nil (shown_for field c)))
        ∙ (sheet_lawful field lawful).complete c [] o)
        ∙ rw (le-ltb (row_at row).most (section_length c) h)

    -- what a section holds, read from its sheet: a content of which the section is as long, and the same if O
    pub record OfSheet : Type 0 where
      pub content : Content
      pub reads : read_sheet_for field (shown_for field c) ≡ value content
      pub long : length (section_of content) ≡ length (section_of c)
      pub same : OfFields O c → content ≡ c

  pub of_sheet : (c : Content) → Holds c → OfSheet c
  of_sheet c h =
      let x = same_sheet c h in
      record {
        content = x.other;
        reads = ap (read_sheet_for field) (sym x.shown) ∙ read_again x.other x.ok x.fits;
        long = section_length_lem x.other x.known ∙ ap (λ l. 3 + l) x.size ∙ sym (section_length_lem c h.known);
        same = x.same;
      }

  -- what is read from a sheet
  pub record Held (s : List ℕ) (c : Content) : Type 0 where
    pub shows : s ≡ shown_for field c
    pub ok : OkFor field c
    pub holds : Holds c

  pub held : (s : List ℕ) (c : Content) → Bytes s → read_sheet_for field s ≡ value c → Held s c
  unfolding read_sheet_for
  held s c w e =
      let x = through ((sheet_for field).read s) _ c e in
      let d = x.0.0 in
      let t = x.0.1 in
      if-case P (ltb 0 (length t)) (λ _ f. absurd (never (sym f)))
      (λ ends. if-case P (ltb (row_at (row_in d)).most (section_length d)) (λ _ f. absurd (never (sym f)))
      (λ fits f.
      let y = (sheet_lawful field lawful).sound s d [] w (x.1 ∙ ap (λ u. value (d, u)) (empty t ends)) in
      let h = holds_of d y.1 (ltb-false _ _ fits) in
      subst (Held s) (value_is f) (record { shows = y.0 ∙ append-nil (shown_for field d); ok = y.1; holds = h })))
      x.2
    where
      P : Reading Content → Type 0
      P r = r ≡ value c → Held s c
