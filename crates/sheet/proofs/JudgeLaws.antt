-- What is said of a sheet, by what was read behind its table_id.
use Prim.Native.Nat.{ℕ, zero, suc, ◌+◌, ◌-◌, ◌*◌, ◌^◌, ◌<◌, ◌≤◌}
use mathlib.Core.Path.{◌≡◌, refl, sym, ap, ◌∙◌, subst}
use mathlib.Core.Bool.{Bool, true, false}
use mathlib.Core.List.{List, [], ◌∷◌, append-nil}
use native.Mathlib.Omega.{arith}
use native.Mathlib.Decide.{dec_le}
use borrow.Author.Tests.{lt-ltb, le-ltb, le-leb}
use lib.ListN.{length, get_or, drop, length-drop}
use lib.Seq.{drop-length}
use lib.Dec.{ltb}
use Rattle.std.specs.Prelude.{if◌then◌else◌, Option, Some, None, Result, Ok, Err, ok_or}
use Rattle.std.specs.Result.{IsErrAnd}
use Rattle.std.proofs.lemmas.Result.{err_from_is_err_and}
use Rattle.wire.specs.Bytes.{Bytes}
use Rattle.wire.specs.Number.{number_at}
use Rattle.wire.specs.Reading.{Reading, value, refused, ◌>>=◌}
use Rattle.tables.specs.Tables.{cell, row_of, row_at, place, place_or_unknown}
use Rattle.tables.specs.declared.Table.{Table}
use Rattle.forms.specs.Form.{Form, raw_read, raw, such_read}
use Rattle.forms.specs.Room.{sum}
use Rattle.forms.specs.Fields.{Field, sheet_field}
use Rattle.forms.proofs.Lawful.{read_on, stays}
use Rattle.forms.proofs.FieldLaws.{field_lawful}
use Rattle.forms.proofs.Puts.{sum_fits, sum_past}
use Rattle.sheet.specs.Content.{Content}
use Rattle.sheet.specs.Sheet.{behind_for, behind_id, sheet_read, read_for, sheet_of}
use Rattle.sheet.specs.Section.{section_length, read_sheet, read_sheet_for}
use Rattle.sheet.specs.Reads.{Judged, told, told_refusal, judged_for, judged_sheet}
use Rattle.sheet.specs.Inner.Places.{Ends, Known, Reached, Follows, number_of}
use Rattle.sheet.specs.Inner.Lengths.{cut, gain, count_at, spare, length_by, judged_length}
use Rattle.sheet.proofs.SheetLaws.{sheet_lawful}
use Rattle.sheet.proofs.Shapes.{place_known}
use Rattle.sheet.proofs.Sizes.{section_spare}
use Rattle.sheet.proofs.ReadLaws.{told_so}
use Rattle.sheet.specs.declared.Fault.{Fault}
use Rattle.sheet.specs.declared.Refusal.{Refusal}
use Rattle.sheet.specs.declared.Refusal.TheVariants.{Unknown}

-- ---- the table_id

pub judged_empty : (s : List ℕ) → length s ≡ 0 → judged_sheet s ≡ refused 22
unfolding judged_for read_sheet_for read_for such_read raw_read
judged_empty [] e = refl
judged_empty (a ∷ s) e = absurd (omega arith)

module _ (field : Field → Form ℕ) (a : ℕ) (t : List ℕ) where
  one_byte : raw_read 1 (a ∷ t) ≡ value (a ∷ [], t)
  unfolding raw_read
  one_byte = rw (le-leb 1 (length (a ∷ t)) (omega arith))

  pub unknown_id : 6 ≤ row_of a → judged_for field (a ∷ t) ≡ refused 23
  unfolding judged_for read_sheet_for read_for such_read
  unknown_id h = stays _ (stays _ (stays _ (read_on _ one_byte ∙ rw (le-ltb (row_of a) 6 h))))

  id_read : row_of a < 6 → such_read (raw 1) 23 (λ id. ltb (row_of (get_or id 0 0)) 6) (a ∷ t) ≡ value (a ∷ [], t)
  unfolding such_read
  id_read h = read_on _ one_byte ∙ rw (lt-ltb (row_of a) 6 h)

  pub known_id : row_of a < 6
      → read_for field (a ∷ t) ≡ ((behind_for field (row_of a)).read t >>= λ c. value ((a, c.0), c.1))
  unfolding read_for
  known_id h = read_on _ (id_read h)

pub judged_unknown : (field : Field → Form ℕ) (s : List ℕ) → 0 < length s → 6 ≤ row_of (get_or s 0 0)
    → judged_for field s ≡ refused 23
judged_unknown field [] h g = absurd (omega arith)
judged_unknown field (a ∷ t) h g = unknown_id field a t g

-- ---- behind it

module _ (a : ℕ) (t : List ℕ) (known : row_of a < 6) where
  abbrev s : List ℕ
  s = a ∷ t

  refused_behind : (k : ℕ) → (behind_id (row_of a)).read t ≡ refused k → judged_sheet s ≡ refused k
  unfolding judged_for read_sheet_for
  refused_behind k e = stays _ (stays _ (known_id sheet_field a t known ∙ stays _ e))

  module _ (e : ℕ) (p : Ends (behind_id (row_of a)) s 1 e) where
    content : Content
    content = (a, p.value_read)

    whole_read : sheet_read s ≡ value (content, drop e s)
    unfolding content
    whole_read = known_id sheet_field a t known ∙ read_on _ p.reads

    read_after : e < length s → judged_sheet s ≡ refused 25
    unfolding judged_for read_sheet_for
    read_after h = stays _ (read_on _ whole_read ∙ rw (lt-ltb 0 (length (drop e s)) (omega (arith, length-drop e s))))

    abbrev limit : ℕ
    limit = (row_at (row_of a)).most

    read_whole : e ≡ length s → read_sheet s ≡ (if ltb limit (section_length content) then refused 26 else value content)
    unfolding read_sheet_for content
    read_whole h = read_on _ whole_read ∙ rw (le-ltb 0 (length (drop e s)) (omega (arith, length-drop e s)))

    read-to-the-end : e ≡ length s → judged_sheet s ≡ judged_length limit (section_length content)
    unfolding judged_for judged_length
    read-to-the-end h =
        ap (λ x. x >>= λ c. value (section_length c)) (read_whole h) ∙ go (ltb limit (section_length content))
      where
        go : (b : Bool)
            → ◌≡◌ {A = Reading ℕ} ((if b then refused 26 else value content) >>= λ c. value (section_length c))
            (if b then refused 26 else value (section_length content))
        go true = refl
        go false = refl

-- ---- section_length, where the sheet is read to its end

-- no limit of the table is near the greatest number, and neither is what the entries of a sheet can have more than those of its section
most_small : (row : ℕ) → row < 6 → (row_at row).most < 5000
unfolding cell
most_small zero h = omega arith
most_small (suc zero) h = omega arith
most_small (suc (suc zero)) h = omega arith
most_small (suc (suc (suc zero))) h = omega arith
most_small (suc (suc (suc (suc zero)))) h = omega arith
most_small (suc (suc (suc (suc (suc zero))))) h = omega arith
most_small (suc (suc (suc (suc (suc (suc n)))))) h = absurd (omega arith)

cut_small : (row n : ℕ) → row < 6 → n < 65536 → cut row * n < 200000
unfolding cut
cut_small zero n h g = omega arith
cut_small (suc zero) n h g = omega arith
cut_small (suc (suc zero)) n h g = omega arith
cut_small (suc (suc (suc zero))) n h g = omega arith
cut_small (suc (suc (suc (suc zero)))) n h g = omega arith
cut_small (suc (suc (suc (suc (suc zero))))) n h g = omega arith
cut_small (suc (suc (suc (suc (suc (suc m)))))) n h g = absurd (omega arith)

spare_small : (row : ℕ) (s : List ℕ) → row < 6 → Bytes s → spare row s < 200001
unfolding spare number_at
spare_small row s h b =
    let i = b (count_at row) in
    let j = b (count_at row + 1) in
    let k = cut_small row (get_or s (count_at row) 0 * 256 + get_or s (count_at row + 1) 0) h (omega arith) in
    omega arith

-- a sum that does not fit is past every limit
length_judged : (row m : ℕ) (s : List ℕ) → row < 6 → Bytes s → m + spare row s ≡ length s + gain row
    → judged_length (row_at row).most m ≡ judged_length (row_at row).most (length_by row s)
unfolding length_by judged_length
length_judged row m s h b e = go (dec_le (length s + gain row) (2 ^ 64 - 1))
  where
    n : ℕ
    n = sum (length s) (gain row) - spare row s

    go : Dec (length s + gain row ≤ 2 ^ 64 - 1) → judged_length (row_at row).most m ≡ judged_length (row_at row).most n
    go (yes f) =
        let i = sum_fits (length s) (gain row) (omega arith) in let j : m ≡ n =
        omega arith in ap (judged_length (row_at row).most) j
    go (no f) =
        let i = sum_past (length s) (gain row) (omega arith) in
        let j = spare_small row s h b in
        let k = most_small row h in
        rw (lt-ltb (row_at row).most m (omega arith), lt-ltb (row_at row).most n (omega arith))

module _ (a : ℕ) (t : List ℕ) (known : row_of a < 6) (bytes : Bytes (a ∷ t)) (e : ℕ)
    (p : Ends (behind_id (row_of a)) (a ∷ t) 1 e) (end : e ≡ length (a ∷ t)) where
  whole_sheet : judged_sheet (a ∷ t) ≡ judged_length (row_at (row_of a)).most (length_by (row_of a) (a ∷ t))
  unfolding content
  whole_sheet =
      let c : Content = (a, p.value_read) in
      let r : sheet_read (a ∷ t) ≡ value (c, []) =
      whole_read a t known e p
      ∙ ap (λ n. value (c, drop n (a ∷ t))) end
      ∙ ap (λ l. value (c, l)) (drop-length (a ∷ t)) in
      let w = (sheet_lawful sheet_field field_lawful).sound (a ∷ t) c [] bytes r in
      let q : sheet_of c ≡ a ∷ t = sym (w.0 ∙ append-nil (sheet_of c)) in
      read-to-the-end a t known e p end
      ∙ length_judged (row_of a) (section_length c) (a ∷ t) known bytes
      (subst (λ l. section_length c + spare (row_of a) l ≡ length l + gain (row_of a)) q (section_spare c w.1))

-- ---- as the judge knows it

module _ (t : Table) where
  refused_at : (s : List ℕ) (k : ℕ) → Known s (place t) → (behind_id (place t)).read (drop 1 s) ≡ refused k
      → judged_sheet s ≡ refused k
  refused_at [] k h e = let l = h.there in absurd (omega arith)
  refused_at (a ∷ s) k h e =
      let i = h.has in
      refused_behind a s (omega (arith, place_known t)) k (subst (λ n. (behind_id n).read s ≡ refused k) (sym i) e)

  pub judged_refused : (s : List ℕ) {x : Reached} {f : Fault} → Known s (place t) → x ≡ Err f → Follows (behind_id (place t)) s 1 x
      → (r : Judged) → IsErrAnd r (λ e. told_refusal e ≡ refused (number_of f)) → told r ≡ judged_sheet s
  judged_refused s {f = f} h e p r g =
      let w = err_from_is_err_and r g in
      ap told w.1 ∙ w.2 ∙ sym (refused_at s (number_of f) h ((told_so e p).onward h.there))

  pub judged_after : (s : List ℕ) {x : Reached} {e : ℕ} → Known s (place t) → x ≡ Ok e → Follows (behind_id (place t)) s 1 x
      → e < length s → judged_sheet s ≡ refused 25
  judged_after [] h q p g = let l = h.there in absurd (omega arith)
  judged_after (a ∷ s) {e = e} h q p g =
      let i = h.has in
      read_after a s (omega (arith, place_known t)) e
      (subst (λ n. Ends (behind_id n) (a ∷ s) 1 e) (sym i) ((told_so q p).onward h.there)) g

  pub judged_whole : (s : List ℕ) {x : Reached} {e : ℕ} → Known s (place t) → Bytes s → x ≡ Ok e
      → Follows (behind_id (place t)) s 1 x → length s ≤ e
      → judged_sheet s ≡ judged_length (row_at (place t)).most (length_by (place t) s)
  judged_whole [] h b q p g = let l = h.there in absurd (omega arith)
  judged_whole (a ∷ s) {e = e} h b q p g =
      let i = h.has in
      let j : Ends (behind_id (place t)) (a ∷ s) 1 e = (told_so q p).onward h.there in
      let w = j.within in
      whole_sheet a s (omega (arith, place_known t)) b e (subst (λ n. Ends (behind_id n) (a ∷ s) 1 e) (sym i) j) (omega arith)
      ∙ ap (λ n. judged_length (row_at n).most (length_by n (a ∷ s))) i

-- ---- by what its table_id is

known_row : (o : Option Table) {t : Table} → ok_or o Unknown ≡ Ok t → place_or_unknown o ≡ place t
known_row None e = absurd (cc)
known_row (Some u) e = cc

unknown_row : (o : Option Table) {e : Refusal} → ok_or o Unknown ≡ Err e → (place_or_unknown o ≡ 6) × (told_refusal e ≡ refused 23)
unknown_row None e = (refl, cc)
unknown_row (Some u) e = absurd (cc)

module _ (s : List ℕ) (o : Option Table) (there : length s ≡ 0 → ⊥) (is : place_or_unknown o ≡ row_of (get_or s 0 0)) where
  pub judged_unlisted : {x : Result Table Refusal} {e : Refusal} → x ≡ ok_or o Unknown → x ≡ Err e
      → (r : Judged) → IsErrAnd r (λ k. k ≡ e) → told r ≡ judged_sheet s
  judged_unlisted p q r h =
      let w = err_from_is_err_and r h in
      let u = unknown_row o (sym p ∙ q) in
      ap told w.1 ∙ ap told_refusal w.2 ∙ u.1 ∙ sym (judged_unknown sheet_field s (omega arith) (omega arith))

  pub listed : {x : Result Table Refusal} {t : Table} → x ≡ ok_or o Unknown → x ≡ Ok t → Known s (place t)
  listed p q = record { there = omega arith; has = sym is ∙ known_row o (sym p ∙ q) }
