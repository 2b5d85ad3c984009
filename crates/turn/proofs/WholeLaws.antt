-- Laws of whole sections and sheets, written at a room's start.
use Prim.Native.Nat.{ℕ, zero, suc, ◌+◌, ◌-◌, ◌*◌, ◌/◌, ◌%◌, ◌^◌, ◌<◌, ◌≤◌}
use mathlib.Core.Path.{◌≡◌, refl, sym, ap, ap₂, ◌∙◌, subst}
use mathlib.Core.List.{List, [], ◌∷◌, ◌++◌, append-nil}
use mathlib.Core.Bool.{Bool, true, false}
use native.Mathlib.Omega.{arith}
use borrow.Author.Tests.{eqb-true, lt-ltb, le-ltb}
use lib.ListN.{length, get_or, take, length-append}
use lib.Dec.{eqb, lit<}
use Prim.{tt}
use Rattle.std.specs.Prelude.{if◌then◌else◌, Option, Some, None, Ok, Err}
use Rattle.std.specs.Result.{IsErrAnd}
use Rattle.std.proofs.lemmas.Result.{err_from_is_err_and}
use Rattle.wire.specs.Bytes.{Bytes}
use Rattle.wire.specs.Parts.{Part}
use Rattle.wire.specs.Reading as reading
use Rattle.wire.proofs.IfLaws.{true_not_false}
use Rattle.wire.proofs.ReadingLaws.{value_is, refused_is, never, through}
use Rattle.wire.specs.Reading.{◌>>=◌}
use Rattle.crc.specs.Crc.{crc, bytes_of}
use Rattle.crc.proofs.Bytes.{bytes_lt}
use Rattle.tables.specs.Tables.{row_of, row_at, place, place_or_unknown}
use Rattle.tables.specs.declared.Table.{Table}
use Rattle.tables.specs.declared.Row.{Row}
use Rattle.verdict.specs.Verdict as verdict
use Rattle.verdict.specs.declared.Refusal as verdict_refusal
use Rattle.verdict.specs.declared.Refusal.TheVariants as variants
use Rattle.section.specs.Reading.{judged}
use Rattle.forms.specs.Form.{each_show, EachOk}
use Rattle.forms.specs.Fields.{room, pack, sheet_fields}
use Rattle.forms.specs.Room.{put, sum}
use Rattle.forms.proofs.Puts.{sum_fits, put_put, length_put}
pub use Rattle.forms.proofs.Outcomes.{take_put}
use Rattle.sheet.specs.Content.{Content, frame, table_of, frame_of, body_of, row_in}
use Rattle.sheet.specs.Sheet.{sheet_body, sheet_of, shown_for, OkFor}
use Rattle.sheet.specs.Section.{bodyBytes, section_length, front, seal, section_of, content_of, read_sheet}
use Rattle.sheet.specs.Reads.{Judged, told, told_refusal as told_refusal_of, judged_for, judged_sheet}
use Rattle.turn.specs.Inner.Ways.{put_number}
use Rattle.turn.specs.Inner.Bodies.{BodyTurned, crc_size, leading_of, begun, sealed, SectionWritten, SheetWritten}
use Rattle.turn.specs.Turn as turn
use Rattle.turn.specs.Answers.{SectionAnswer, SheetAnswer, toldSection, toldRefusal, toldSheet}
use Rattle.sheet.proofs.SectionSize.{front_is, front_length, second, section_length_lem, seal_length}
use Rattle.contents.specs.Holds.{Holds}
use Rattle.contents.proofs.SectionLaws.{numbers_of, first_byte}
use Rattle.contents.proofs.Held.{held}
use Rattle.contents.proofs.SheetSize.{sheet_fits}
use Rattle.contents.proofs.ReadBack.{of_accepted}
use Rattle.turn.proofs.PieceLaws.{number_put}
use Rattle.forms.specs.declared.Place.{Place}
use Rattle.sheet.specs.declared.Refusal.{Refusal}
use Rattle.sheet.specs.declared.Refusal.TheVariants.{Early, Unknown, Wide, After, Long}
use Rattle.turn.specs.declared.SectionRefusal.TheVariants as section
use Rattle.turn.specs.declared.SheetRefusal.TheVariants as sheet

-- ---- the frame

pub frame_shown : (vs : List ℕ) → (sheet_fields frame).show vs ≡ []
unfolding each_show
frame_shown [] = refl
frame_shown (a ∷ []) = refl
frame_shown (a ∷ b ∷ vs) = refl

frame_ones : (vs : List ℕ) → (sheet_fields frame).Ok vs → pack frame vs ≡ 7
unfolding EachOk pack room
frame_ones [] o = absurd o
frame_ones (a ∷ []) o = absurd o.1
frame_ones (a ∷ b ∷ []) o = let e = o.0 in let f = o.1.0 in omega arith
frame_ones (a ∷ b ∷ c ∷ vs) o = absurd o.1.1

sheet_is : (c : Content) → sheet_of c ≡ table_of c ∷ (sheet_body (row_in c)).show (body_of c)
unfolding shown_for
sheet_is c = ap (λ l. table_of c ∷ (l ++ (sheet_body (row_in c)).show (body_of c))) (frame_shown (frame_of c))

-- a part behind one that is known
behind : {s : List ℕ} (x l y : List ℕ) → s ≡ x ++ (l ++ y) → Part s (length x) l
behind x l y e = record { front = x; back = y; whole = e; place = refl }

-- ---- a section

-- the syntax bit x and the reserved bits before section_length n
leading_is : (x n : ℕ) → x ≤ 1 → n ≤ 4093 → ((leading_of x + n) / 256 % 256 ≡ x * 128 + 7 * 16 + n / 256)
    × ((leading_of x + n) % 256 ≡ n % 256) × (leading_of x ≤ 0xF000)
leading_is zero n h g = (omega arith, omega arith, omega arith)
leading_is (suc zero) n h g = (omega arith, omega arith, omega arith)
leading_is (suc (suc x)) n h g = absurd (omega arith)

pub begun_is : (o : List ℕ) (id syntax n : ℕ) {o₁ o' : List ℕ} {x v : ℕ} → o₁ ≡ put o 0 (id ∷ []) → x ≡ leading_of syntax → v ≡ sum x n
    → o' ≡ put_number o₁ 1 v → o' ≡ begun o id syntax n
begun_is o id syntax n h₁ hx hv h = h ∙ ap₂ (λ o n. put_number o 1 n) h₁ (hv ∙ ap (λ x. sum x n) hx)

crc_bytes : (x : ℕ) → x ≤ 1 → crc_size x ≡ 4 * x
crc_bytes zero h = refl
crc_bytes (suc zero) h = refl
crc_bytes (suc (suc x)) h = absurd (omega arith)

-- four bytes of a CRC_32, put as two numbers
four_put : (o : List ℕ) (to v : ℕ) → v < 2 ^ 32 → length o < 2 ^ 64 → to + 4 ≤ length o
    → put_number (put_number o to (v / 65536)) (sum to 2) (v % 65536) ≡ put o to (bytes_of v)
four_put o to v hv lo f =
    let p = number_put o to (v / 65536) lo (omega arith) in
    let a : ℕ = v / 65536 / 256 % 256 in
    let b : ℕ = v / 65536 % 256 in
    let c : ℕ = v % 65536 / 256 % 256 in
    let d : ℕ = v % 65536 % 256 in
    let l : length (put o to (a ∷ b ∷ [])) ≡ length o = length_put o to (a ∷ b ∷ []) (omega arith) in
    let ha : a ≡ v / 2 ^ 24 = omega arith in
    let hb : b ≡ v / 2 ^ 16 % 2 ^ 8 = omega arith in
    let hc : c ≡ v / 2 ^ 8 % 2 ^ 8 = omega arith in
    let hd : d ≡ v % 2 ^ 8 = omega arith in
    ap₂ (λ x y. put_number x y (v % 65536)) p (sum_fits to 2 (omega arith))
    ∙ number_put (put o to (a ∷ b ∷ [])) (to + 2) (v % 65536) (omega arith) (omega arith)
    ∙ put_put o to (a ∷ b ∷ []) (omega arith) (c ∷ d ∷ []) (omega arith)
    ∙ ap₂ (λ x y. put o to (x ∷ y ∷ c ∷ d ∷ [])) ha hb
    ∙ ap₂ (λ x y. put o to (v / 2 ^ 24 ∷ v / 2 ^ 16 % 2 ^ 8 ∷ x ∷ y ∷ [])) hc hd

crc_small : (s : List ℕ) → crc s < 2 ^ 32
unfolding crc
crc_small s = bytes_lt s (2 ^ 32 - 1) (lit< tt)

-- the room, and what each step made of it; m are the bytes of the section, of which `end` stand before the CRC_32
module _ (s o : List ℕ) (w : Bytes s) (lo : length o < 2 ^ 64) (n number : ℕ) {id m end : ℕ} {row : Row} {o₂ o₃ : List ℕ} {q : Place}
    (hr : row ≡ row_at number) (hm : m ≡ sum n 3) (he : end ≡ m - crc_size row.crc) (hid : id ≡ get_or s 0 0)
    (h₂ : o₂ ≡ begun o id row.syntax n) (h₃ : BodyTurned true number s (record { at = 1; to = 3 }) end o₂ q o₃) where
  -- all but the CRC_32
  pub record Fronted (c : Content) : Type 0 where
    pub room : o₃ ≡ put o 0 (front c)
    pub ends : end ≡ length (front c)
    pub holds : Holds c

  fronted : (c : Content) → read_sheet s ≡ reading.value c → n ≡ section_length c → number ≡ row_in c → 4096 ≤ length o → Fronted c
  unfolding section_length OkFor
  fronted c r hn hnumber big =
      let h = held s c w r in
      let k = h.holds in
      let facts = numbers_of (row_in c) k.known in
      let most = facts.most in
      let sm = k.most in
      let b = bodyBytes c in
      let L : ℕ = length b in
      let fl = front_length c in
      let row_is : row ≡ row_at (row_in c) = hr ∙ ap row_at hnumber in
      let n-is : n ≡ L + 4 * (row_at (row_in c)).crc = hn in
      let m-is : m ≡ n + 3 = hm ∙ sum_fits n 3 (omega arith) in
      let size : crc_size row.crc ≡ 4 * (row_at (row_in c)).crc =
      ap (λ (x : Row). crc_size x.crc) row_is ∙ crc_bytes (row_at (row_in c)).crc facts.crc_bit in
      let e-is : end ≡ 3 + L = omega arith in
      let body = (sheet_body (row_in c)).show (body_of c) in
      let si : s ≡ table_of c ∷ (body ++ []) = h.shows ∙ sheet_is c ∙ ap (λ l. table_of c ∷ l) (sym (append-nil body)) in
      let part : Part s 1 body = behind (table_of c ∷ []) body [] si in
      let id-is : id ≡ table_of c = hid ∙ ap (λ z. get_or z 0 0) si in
      let lead : ℕ = leading_of row.syntax in
      let v : ℕ = lead + n in
      let bit : row.syntax ≤ 1 = subst (λ (r : Row). r.syntax ≤ 1) (sym row_is) facts.syntax in
      let leading = leading_is row.syntax n bit (omega arith) in
      let small = leading.2 in
      let x : ℕ = v / 256 % 256 in
      let y : ℕ = v % 256 in
      let u : List ℕ = id ∷ x ∷ y ∷ [] in
      let l₁ : length (put o 0 (id ∷ [])) ≡ length o = length_put o 0 (id ∷ []) (omega arith) in
      let p₂ : o₂ ≡ put o 0 u =
      h₂ ∙ ap (put_number (put o 0 (id ∷ [])) 1) (sum_fits lead n (omega arith))
      ∙ number_put (put o 0 (id ∷ [])) 1 v (omega arith) (omega arith)
      ∙ put_put o 0 (id ∷ []) (omega arith) (x ∷ y ∷ []) (omega arith) in
      let l₂ : length o₂ ≡ length o = ap length p₂ ∙ length_put o 0 u (omega arith) in
      let t = subst (λ i. BodyTurned true i s (record { at = 1; to = 3 }) end o₂ q o₃) hnumber h₃ in
      let ok = h.ok.1.1 in
      let d = t.turned (body_of c) (ok.0, ((ok.1.0, k.body.1.0), (ok.1.1, k.body.1.1))) part (omega arith) (sym e-is)
      (omega arith) in
      let ones = frame_ones (frame_of c) h.ok.1.0 in
      let x-is : x ≡ second c =
      leading.0
      ∙ ap (λ (r : Row). r.syntax * 128 + 7 * 16 + n / 256) row_is
      ∙ ap₂ (λ i j. (row_at (row_in c)).syntax * 128 + i * 16 + j / 256) (sym ones) hn in
      let y-is : y ≡ section_length c % 256 = leading.1 ∙ ap (λ i. i % 256) hn in
      record {
        room =
            d.room ∙ ap (λ z. put z 3 b) p₂ ∙ put_put o 0 u (omega arith) b (omega arith)
            ∙ ap (λ i. put o 0 (i ∷ x ∷ y ∷ b)) id-is
            ∙ ap₂ (λ i j. put o 0 (table_of c ∷ i ∷ j ∷ b)) x-is y-is
            ∙ ap (put o 0) (sym (front_is c));
        ends = e-is ∙ sym fl;
        holds = k;
      }

  sealed_is : (c : Content) → Fronted c → 4096 ≤ length o → (t : Bool) → eqb (row_at (row_in c)).crc 1 ≡ t
      → (if t then put_number (put_number o₃ end (crc (take end o₃) / 65536)) (sum end 2) (crc (take end o₃) % 65536) else o₃)
      ≡ put o 0 (front c ++ (if t then bytes_of (crc (front c)) else []))
  unfolding section_of
  sealed_is c f big true h =
      let most = (numbers_of (row_in c) f.holds.known).most in
      let sl = section_length_lem c f.holds.known in
      let ql = seal_length c f.holds.known in
      let ml = f.holds.most in
      let la = length-append (front c) (seal c) in
      let one = eqb-true (row_at (row_in c)).crc 1 h in
      let ends = f.ends in
      let l₃ : length o₃ ≡ length o = ap length f.room ∙ length_put o 0 (front c) (omega arith) in
      let C : ℕ = crc (front c) in
      let of-front : crc (take end o₃) ≡ C = ap crc (ap₂ take ends f.room ∙ take_put o (front c) (omega arith)) in
      let nought : length (front c) ≡ 0 + length (front c) = omega arith in
      ap (λ v. put_number (put_number o₃ end (v / 65536)) (sum end 2) (v % 65536)) of-front
      ∙ four_put o₃ end C (crc_small (front c)) (omega arith) (omega arith)
      ∙ ap₂ (λ i j. put i j (bytes_of C)) f.room (ends ∙ nought)
      ∙ put_put o 0 (front c) (omega arith) (bytes_of C) (omega arith)
  sealed_is c f big false h = f.room ∙ ap (put o 0) (sym (append-nil (front c)))

  pub section_written : {o₄ : List ℕ} → o₄ ≡ sealed o₃ end row.crc → SectionWritten s n number o o₄
  unfolding section_of seal
  section_written h₄ = record {
    written = λ c r hn hnumber big.
        h₄ ∙ ap (λ (x : Row). sealed o₃ end x.crc) (hr ∙ ap row_at hnumber)
        ∙ sealed_is c (fronted c r hn hnumber big) big (eqb (row_at (row_in c)).crc 1) refl;
  }

-- the row of a table_id that a table has
pub table_row : (o : Option Table) {t : Table} {id x : ℕ} → o ≡ Some t → place_or_unknown o ≡ row_of id → id ≡ x → place t ≡ row_of x
table_row o e f g = sym (ap place_or_unknown e) ∙ f ∙ ap row_of g

-- no table has it
pub table_none : (o : Option Table) {id x : ℕ} → o ≡ None → place_or_unknown o ≡ row_of id → id ≡ x → 6 ≤ row_of x
table_none o e f g = let h = sym (ap place_or_unknown e) ∙ f ∙ ap row_of g in omega arith

-- no table
pub written_never : {s o : List ℕ} {n number : ℕ} → Bytes s → 6 ≤ number → SectionWritten s n number o o
written_never {s} w h = record { written = λ c r hn hr big. let k = (held s c w r).holds.known in absurd (omega arith) }

-- ---- a sheet

module _ {s o : List ℕ} (w : Bytes s) (number : ℕ) {row : Row} {id end : ℕ} {o₁ o₂ : List ℕ} {q : Place}
    (hr : row ≡ row_at number) (he : end ≡ length s - crc_size row.crc) (hid : id ≡ get_or s 0 0) (h₁ : o₁ ≡ put o 0 (id ∷ []))
    (h₂ : BodyTurned false number s (record { at = 3; to = 1 }) end o₁ q o₂) where
  pub sheet_written : SheetWritten s number o q.to o₂
  unfolding section_of
  sheet_written = record {
    written = λ c acc r hnumber big.
        let x = of_accepted s w acc in
        let cc' : x.content ≡ c = value_is (sym x.reads ∙ r) in
        let k : Holds c = subst Holds cc' x.holds in
        let is : section_of c ≡ s = ap section_of (sym cc') ∙ x.is in
        let m = numbers_of (row_in c) k.known in
        let b = bodyBytes c in
        let sl = section_length_lem c k.known in
        let lw = ap length is in
        let fl = front_length c in
        let la = length-append (front c) (seal c) in
        let ql = seal_length c k.known in
        let km = k.most in
        let mm = m.most in
        let size : crc_size row.crc ≡ 4 * (row_at (row_in c)).crc =
        ap (λ (x : Row). crc_size x.crc) (hr ∙ ap row_at hnumber) ∙ crc_bytes (row_at (row_in c)).crc m.crc_bit in
        let e-is : 3 + length b ≡ end = omega arith in
        let hd = table_of c ∷ second c ∷ (section_length c % 256) ∷ [] in
        let si : s ≡ hd ++ (b ++ seal c) = sym is ∙ ap (λ z. z ++ seal c) (front_is c) in
        let part : Part s 3 b = behind hd b (seal c) si in
        let body = (sheet_body (row_in c)).show (body_of c) in
        let fits = sheet_fits c k in
        let sh = sheet_is c in
        let lsh = ap length sh in
        let p₁ : length o₁ ≡ length o = ap length h₁ ∙ length_put o 0 (id ∷ []) (omega arith) in
        let t = subst (λ i. BodyTurned false i s (record { at = 3; to = 1 }) end o₁ q o₂) hnumber h₂ in
        let d = t.turned (body_of c) k.body part (omega arith) e-is (omega arith) in
        let id-is : id ≡ table_of c = hid ∙ ap (λ z. get_or z 0 0) si in
        let dw = d.written in (
          d.room
              ∙ ap (λ z. put z 1 body) h₁
              ∙ put_put o 0 (id ∷ []) (omega arith) body (omega arith)
              ∙ ap (λ i. put o 0 (i ∷ body)) id-is
              ∙ ap (put o 0) (sym sh),
          omega arith,
        );
  }

pub sheet_never : {s o : List ℕ} {number : ℕ} → Bytes s → 6 ≤ number → SheetWritten s number o 0 o
sheet_never {s} w h = record {
  written = λ c acc r hr big.
      let x = of_accepted s w acc in
      let cc' : x.content ≡ c = value_is (sym x.reads ∙ r) in
      let k = (subst Holds cc' x.holds).known in
      absurd (omega arith);
}

-- ---- the answers

pub to_section_lem : (n : ℕ) (s : List ℕ) (c : Content) → 4096 ≤ n → read_sheet s ≡ reading.value c
    → turn.to_section n s ≡ turn.gives (section_of c)
unfolding turn.to_section
to_section_lem n s c h e = rw (le-ltb n 4096 h, e) refl

pub to_sheet_lem : (n : ℕ) (s : List ℕ) (c : Content) → 5120 ≤ n → judged s ≡ verdict.accepted → content_of s ≡ reading.value c
    → turn.to_sheet n s ≡ turn.gives (sheet_of c)
unfolding turn.to_sheet
to_sheet_lem n s c h e f = rw (le-ltb n 5120 h, e, f) refl

-- a refusal is told, and the room is as it was
pub told_refusal : {x : turn.Outcome} {k p : ℕ} (o : List ℕ) → x ≡ turn.refuses k p
    → (turn.refused_with k p ≡ turn.answer x) × (o ≡ turn.roomAfter o x)
told_refusal o e = (ap turn.answer (sym e), ap (turn.roomAfter o) (sym e))

pub section_no_room : (n : ℕ) (s : List ℕ) → n < 4096 → turn.to_section n s ≡ turn.refuses 21 0
unfolding turn.to_section
section_no_room n s h = rw (lt-ltb n 4096 h) refl

refused_through : {A B : Type 0} (r : reading.Reading A) (f : A → B) (k : ℕ)
    → (r >>= λ a. reading.value (f a)) ≡ reading.refused k → r ≡ reading.refused k
refused_through (reading.value a) f k e = absurd (never e)
refused_through (reading.refused j) f k e = ap reading.refused (refused_is e)

pub section_refused : (n : ℕ) (s : List ℕ) (k : ℕ) → 4096 ≤ n → judged_sheet s ≡ reading.refused k →
    turn.to_section n s ≡ turn.refuses k 0
unfolding turn.to_section judged_for
section_refused n s k h e = let r = refused_through (read_sheet s) section_length k e in rw (le-ltb n 4096 h, r) refl

-- what each refusal of the judge comes to
refusal_told : (s o : List ℕ) (e : Refusal) → 4096 ≤ length o → told_refusal_of e ≡ judged_sheet s
    → (toldSection (Err (section.Sheet e)) ≡ turn.answer (turn.to_section (length o) s))
    × (o ≡ turn.roomAfter o (turn.to_section (length o) s))
refusal_told s o Early h p = told_refusal o (section_refused (length o) s 22 h (sym p))
refusal_told s o Unknown h p = told_refusal o (section_refused (length o) s 23 h (sym p))
refusal_told s o Wide h p = told_refusal o (section_refused (length o) s 24 h (sym p))
refusal_told s o After h p = told_refusal o (section_refused (length o) s 25 h (sym p))
refusal_told s o Long h p = told_refusal o (section_refused (length o) s 26 h (sym p))

pub section_told : (s o : List ℕ) {j : Judged} {e : Refusal} → 4096 ≤ length o → told j ≡ judged_sheet s → j ≡ Err e
    → (r : SectionAnswer) → IsErrAnd r (λ k. k ≡ section.Sheet e)
    → (toldSection r ≡ turn.answer (turn.to_section (length o) s)) × (o ≡ turn.roomAfter o (turn.to_section (length o) s))
section_told s o {e = e} h p q r g =
    let w = err_from_is_err_and r g in
    let x = refusal_told s o e h (sym (ap told q) ∙ p) in
    (ap toldSection (w.1 ∙ ap Err w.2) ∙ x.0, x.1)

-- what an accepted sheet gives
pub record Made (n : ℕ) (s : List ℕ) (k : ℕ) : Type 0 where
  pub content : Content
  pub reads : read_sheet s ≡ reading.value content
  pub length_is : k ≡ section_length content
  pub row : row_of (get_or s 0 0) ≡ row_in content
  pub gives : turn.to_section n s ≡ turn.gives (section_of content)
  pub bytes : sum k 3 ≡ length (section_of content)

pub section_made : (n : ℕ) (s : List ℕ) (k : ℕ) → Bytes s → 4096 ≤ n → judged_sheet s ≡ reading.value k → Made n s k
unfolding judged_for
section_made n s k w h e =
    let x = through (read_sheet s) _ k e in
    let c = x.0 in
    let y = held s c w x.1 in
    let l = section_length_lem c y.holds.known in
    let hk : k ≡ section_length c = sym (value_is x.2) in
    let m = y.holds.most in
    let mm = (numbers_of (row_in c) y.holds.known).most in
    let si = y.shows ∙ sheet_is c in
    record {
      content = c;
      reads = x.1;
      length_is = hk;
      row = ap (λ z. row_of (get_or z 0 0)) si;
      gives = to_section_lem n s c h x.1;
      bytes = sum_fits k 3 (omega arith) ∙ omega arith;
    }

pub sheet_no_room : (n : ℕ) (s : List ℕ) → n < 5120 → turn.to_sheet n s ≡ turn.refuses 21 0
unfolding turn.to_sheet
sheet_no_room n s h = rw (lt-ltb n 5120 h) refl

pub sheet_large : (n : ℕ) (s : List ℕ) → 5120 ≤ n → turn.to_sheet n s ≡ turn.sheet_if (judged s) (turn.sheet_from (content_of s))
unfolding turn.to_sheet
sheet_large n s h = rw (le-ltb n 5120 h)

refusal_kept : (v : verdict.Said) (l o : List ℕ) → verdict.is_accepted v ≡ false
    → (toldRefusal v ≡ turn.answer (turn.sheet_if v l)) × (o ≡ turn.roomAfter o (turn.sheet_if v l))
refusal_kept verdict.accepted l o e = absurd (true_not_false e)
refusal_kept (verdict.refused k p) l o e = (refl, refl)

not_accepted : (r : verdict_refusal.Refusal) → verdict.is_accepted (verdict.told_refusal r) ≡ false
not_accepted variants.TooShort = refl
not_accepted variants.UnknownTable = refl
not_accepted variants.WrongSyntax = refl
not_accepted variants.LengthOutside = refl
not_accepted variants.SizeDiffers = refl
not_accepted variants.CrcFails = refl
not_accepted variants.NumberAboveLast = refl
not_accepted (variants.LoopPast p) = refl
not_accepted (variants.DescriptorPast p) = refl
not_accepted (variants.BytesLeft p) = refl

pub sheet_refused : (s o : List ℕ) {v : verdict.Verdict} {e : verdict_refusal.Refusal} → 5120 ≤ length o → verdict.told v ≡ judged s
    → v ≡ Err e → (r : SheetAnswer) → IsErrAnd r (λ k. k ≡ sheet.Section e)
    → (toldSheet r ≡ turn.answer (turn.to_sheet (length o) s)) × (o ≡ turn.roomAfter o (turn.to_sheet (length o) s))
sheet_refused s o {e = e} h p q r g =
    let w = err_from_is_err_and r g in
    let j : judged s ≡ verdict.told_refusal e = sym p ∙ ap verdict.told q in
    let l = turn.sheet_from (content_of s) in
    let x = refusal_kept (verdict.told_refusal e) l o (not_accepted e) in
    let z : turn.to_sheet (length o) s ≡ turn.sheet_if (verdict.told_refusal e) l =
    sheet_large (length o) s h ∙ ap (λ v. turn.sheet_if v l) j in
    (ap toldSheet (w.1 ∙ ap Err w.2) ∙ x.0 ∙ ap turn.answer (sym z), x.1 ∙ ap (turn.roomAfter o) (sym z))

pub record SheetMade (n : ℕ) (s : List ℕ) : Type 0 where
  pub content : Content
  pub reads : content_of s ≡ reading.value content
  pub row : row_of (get_or s 0 0) ≡ row_in content
  pub gives : turn.to_sheet n s ≡ turn.gives (sheet_of content)

pub sheet_made : (n : ℕ) (s : List ℕ) → Bytes s → 5120 ≤ n → judged s ≡ verdict.accepted → SheetMade n s
sheet_made n s w h e =
    let x = of_accepted s w e in
    record {
      content = x.content;
      reads = x.reads;
      row = ap (λ z. row_of (get_or z 0 0)) (sym x.is) ∙ ap row_of (first_byte x.content);
      gives = to_sheet_lem n s x.content h e x.reads;
    }
