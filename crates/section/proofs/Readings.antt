-- How the reading of a section goes on or stops.
use Prim.Native.Nat.{ℕ, ◌+◌, ◌-◌, ◌<◌, ◌≤◌}
use mathlib.Core.Path.{◌≡◌, refl, ap, ◌∙◌, sym}
use mathlib.Core.List.{List, []}
use mathlib.Core.Bool.{true, false}
use native.Mathlib.Omega.{arith}
use borrow.Author.Tests.{lt-ltb, le-ltb, ltb-false, le-leb, lt-leb, eq-eqb, ne_eqb}
use lib.ListN.{length, get_or, take, drop, length-drop}
use lib.Seq.{drop-drop}
use lib.Dec.{ltb}
use Rattle.wire.specs.Bytes.{len12_at}
use Rattle.wire.specs.Trail.{Trail, ended, before, answer}
use Rattle.wire.proofs.IfLaws.{if-case}
use Rattle.std.proofs.lemmas.List.{drop-take}
use Rattle.wire.proofs.PartLaws.{len12_drop}
use Rattle.verdict.specs.Verdict.{Said, accepted, refused, is_accepted}
use Rattle.verdict.proofs.FirstFault.{first_fault, nothing_behind, fault_first}
use Rattle.loops.specs.Descriptors.{Placed, descriptors}
use Rattle.section.specs.Entries.{entries}
use Rattle.tables.specs.Tables.{row_of}
use Rattle.section.specs.Reading.{LoopsRead, ◌and_then◌, size_of, fills, leaves_room, loop_then, one_loop, second_loop, two_loops, topped, plain, inside, opening, header, wrong_syntax, length_outside, size_differs, crc_fails, above_last, body, row_for, read, judged}
use Rattle.tables.specs.declared.Row.{Row}

pub then-on : (v : Said) (x : LoopsRead) → is_accepted v ≡ true → (v and_then x) ≡ x
unfolding ◌and_then◌
then-on v x q = rw q

pub then-stop : (v : Said) (x : LoopsRead) → is_accepted v ≡ false → (v and_then x) ≡ ended v
unfolding ◌and_then◌
then-stop v x q = rw q

pub then_ends : (v : Said) (x : LoopsRead) → (v and_then x).ends ≡ first_fault v x.ends
then_ends accepted x = ap answer (then-on accepted x refl)
then_ends (refused k p) x = ap answer (then-stop (refused k p) x refl)

-- a loop with nothing behind it says what its descriptors say
pub loop-alone : (d : Trail Placed Said) → (loop_then d (ended accepted)).ends ≡ d.ends
loop-alone d = then_ends d.ends (before d.items (ended accepted)) ∙ nothing_behind d.ends

-- what is at the place p of l, where m is what is left there
module _ (l : List ℕ) (p n : ℕ) (same : n ≡ len12_at l p) where
  size_same : size_of (drop p l) ≡ 2 + n
  size_same =
      let e : len12_at (drop p l) 0 ≡ len12_at l p = len12_drop l p 0 ∙ ap (len12_at l) (omega arith) in
      omega arith

  left_same : length (drop p l) ≡ length l - p
  left_same = length-drop p l

  pub fills_past : length l - p < 2 + n → fills p (drop p l) ≡ refused 8 p
  unfolding fills
  fills_past h = rw (size_same, left_same, lt-ltb (length l - p) (2 + n) h)

  pub fills_short : 2 + n < length l - p → fills p (drop p l) ≡ refused 10 (p + (2 + n))
  unfolding fills
  fills_short h = rw (size_same, left_same, le-ltb (length l - p) (2 + n) (omega arith), lt-ltb (2 + n) (length l - p) h)

  pub fills_just : length l - p ≡ 2 + n → fills p (drop p l) ≡ accepted
  unfolding fills
  fills_just h = rw (size_same, left_same, le-ltb (length l - p) (2 + n) (omega arith), le-ltb (2 + n) (length l - p) (omega arith))

  pub room_past : length l - p < 2 + n + 2 → leaves_room p (drop p l) ≡ refused 8 p
  unfolding leaves_room
  room_past h = rw (size_same, left_same, lt-ltb (length l - p) (2 + n + 2) h)

  pub room_just : 2 + n + 2 ≤ length l - p → leaves_room p (drop p l) ≡ accepted
  unfolding leaves_room
  room_just h = rw (size_same, left_same, le-ltb (length l - p) (2 + n + 2) h)

  -- what a test that held tells
  pub fills_tells : is_accepted (fills p (drop p l)) ≡ true → p + (2 + n) ≡ length l
  unfolding fills
  fills_tells = rw (size_same, left_same)
      (if-case (λ v. is_accepted v ≡ true → p + (2 + n) ≡ length l) (ltb (length l - p) (2 + n))
      (λ _ q. let z : ◌≡◌ {A = ℕ} 0 1 = cc in absurd (omega arith))
      (λ h. if-case (λ v. is_accepted v ≡ true → p + (2 + n) ≡ length l) (ltb (2 + n) (length l - p))
      (λ _ q. let z : ◌≡◌ {A = ℕ} 0 1 = cc in absurd (omega arith))
      (λ g q. omega (arith, ltb-false (length l - p) (2 + n) h, ltb-false (2 + n) (length l - p) g))))

  pub room_tells : is_accepted (leaves_room p (drop p l)) ≡ true → p + (2 + n) + 2 ≤ length l
  unfolding leaves_room
  room_tells = rw (size_same, left_same)
      (if-case (λ v. is_accepted v ≡ true → p + (2 + n) + 2 ≤ length l) (ltb (length l - p) (2 + n + 2))
      (λ _ q. let z : ◌≡◌ {A = ℕ} 0 1 = cc in absurd (omega arith))
      (λ h q. omega (arith, ltb-false (length l - p) (2 + n + 2) h)))

pub ruleset fills_laws = (fills_past, fills_short, fills_just)

-- loops at a place
module _ (l : List ℕ) (p : ℕ) where
  pub one_loop_lem : one_loop p (drop p l) ≡
      (fills p (drop p l) and_then loop_then (descriptors (p + 2) (drop (p + 2) l)) (ended accepted))
  unfolding one_loop
  one_loop_lem = ap (λ x. fills p (drop p l) and_then loop_then (descriptors (p + 2) x) (ended accepted)) (drop-drop 2 p l)

  pub second_loop_lem : (fixed : ℕ) → second_loop fixed p (drop p l) ≡
      (fills p (drop p l) and_then entries fixed (p + 2) (drop (p + 2) l))
  unfolding second_loop
  second_loop_lem fixed = ap (λ x. fills p (drop p l) and_then entries fixed (p + 2) x) (drop-drop 2 p l)

  pub two_loops_lem : (fixed n : ℕ) → n ≡ len12_at l p
      → two_loops fixed p (drop p l)
      ≡ (leaves_room p (drop p l) and_then
      loop_then (descriptors (p + 2) (drop (p + 2) (take (p + (2 + n)) l))) (second_loop fixed (p + (2 + n)) (drop (p + (2 + n)) l)))
  unfolding two_loops
  two_loops_lem fixed n same =
      let e : len12_at (drop p l) 0 ≡ n = len12_drop l p 0 ∙ ap (len12_at l) (omega arith) ∙ sym same in
      let f : p + 2 + n ≡ p + (2 + n) = omega arith in
      let top : take n (drop 2 (drop p l)) ≡ drop (p + 2) (take (p + (2 + n)) l) =
      ap (take n) (drop-drop 2 p l) ∙ sym (drop-take (p + 2) n l) ∙ ap (λ k. drop (p + 2) (take k l)) f in
      rw (e, top, drop-drop (2 + n) p l)

-- how they end
module _ (l : List ℕ) (p : ℕ) where
  pub one_loop_ends : (one_loop p (drop p l)).ends ≡ first_fault (fills p (drop p l)) (descriptors (p + 2) (drop (p + 2) l)).ends
  one_loop_ends =
      ap answer (one_loop_lem l p)
      ∙ then_ends _ _
      ∙ ap (first_fault (fills p (drop p l))) (loop-alone (descriptors (p + 2) (drop (p + 2) l)))

  pub second_loop_ends : (fixed : ℕ)
      → (second_loop fixed p (drop p l)).ends ≡ first_fault (fills p (drop p l)) (entries fixed (p + 2) (drop (p + 2) l)).ends
  second_loop_ends fixed = ap answer (second_loop_lem l p fixed) ∙ then_ends _ _

  pub two_loops_ends : (fixed : ℕ)
      → (two_loops fixed p (drop p l)).ends
      ≡ first_fault (leaves_room p (drop p l))
      (first_fault (descriptors (p + 2) (drop (p + 2) (take (p + (2 + len12_at l p)) l))).ends
      (second_loop fixed (p + (2 + len12_at l p)) (drop (p + (2 + len12_at l p)) l)).ends)
  two_loops_ends fixed =
      ap answer (two_loops_lem l p fixed _ refl) ∙ then_ends _ _ ∙ ap (first_fault (leaves_room p (drop p l))) (then_ends _ _)

-- the shapes of tables
module _ (fixed p : ℕ) (m : List ℕ) where
  pub topped_one : fixed ≡ 0 → topped fixed p m ≡ one_loop p m
  unfolding topped
  topped_one f = rw (eq-eqb fixed 0 f)

  pub topped_two : (fixed ≡ 0 → ⊥) → topped fixed p m ≡ two_loops fixed p m
  unfolding topped
  topped_two f = rw (ne_eqb fixed 0 f)

  pub plain_none : fixed ≡ 0 → plain fixed p m ≡ ended accepted
  unfolding plain
  plain_none f = rw (eq-eqb fixed 0 f)

  pub plain_entries : (fixed ≡ 0 → ⊥) → plain fixed p m ≡ before [] (entries fixed p m)
  unfolding plain
  plain_entries f = rw (ne_eqb fixed 0 f)

module _ (row : Row) (p : ℕ) (m : List ℕ) where
  pub inside_topped : row.top ≡ 1 → inside row p m ≡ topped row.fixed p m
  unfolding inside
  inside_topped t = rw (eq-eqb row.top 1 t)

  pub inside_plain : (row.top ≡ 1 → ⊥) → inside row p m ≡ plain row.fixed p m
  unfolding inside
  inside_plain t = rw (ne_eqb row.top 1 t)

pub ruleset inside_laws = (inside_topped, inside_plain, topped_one, topped_two, plain_none, plain_entries)

-- the header's tests, one after the other
module _ (row : Row) (s : List ℕ) where
  pub header-3 : wrong_syntax row s ≡ true → header row s ≡ refused 3 0
  unfolding header
  header-3 a = rw a

  module _ (a : wrong_syntax row s ≡ false) where
    pub header-4 : length_outside row s ≡ true → header row s ≡ refused 4 0
    unfolding header
    header-4 b = rw (a, b)

    module _ (b : length_outside row s ≡ false) where
      pub header-5 : size_differs s ≡ true → header row s ≡ refused 5 0
      unfolding header
      header-5 c = rw (a, b, c)

      module _ (c : size_differs s ≡ false) where
        pub header-6 : crc_fails row s ≡ true → header row s ≡ refused 6 0
        unfolding header
        header-6 d = rw (a, b, c, d)

        module _ (d : crc_fails row s ≡ false) where
          pub header-7 : above_last row s ≡ true → header row s ≡ refused 7 0
          unfolding header
          header-7 e = rw (a, b, c, d, e)

          pub header_ok : above_last row s ≡ false → header row s ≡ accepted
          unfolding header
          header_ok e = rw (a, b, c, d, e)

-- the bytes before the CRC_32
module _ (row : Row) (s : List ℕ) where
  pub body_crc : row.crc ≡ 1 → body row s ≡ take (length s - 4) s
  body_crc e = rw (eq-eqb row.crc 1 e)

  pub body_all : (row.crc ≡ 1 → ⊥) → body row s ≡ s
  body_all e = rw (ne_eqb row.crc 1 e)

-- the whole section
module _ (s : List ℕ) where
  pub opening_short : length s < 3 → opening s ≡ refused 1 0
  unfolding opening
  opening_short h = rw (lt-ltb (length s) 3 h)

  pub opening_unknown : 3 ≤ length s → 6 ≤ row_of (get_or s 0 0) → opening s ≡ refused 2 0
  unfolding opening
  opening_unknown h g = rw (le-ltb (length s) 3 h, le-leb 6 (row_of (get_or s 0 0)) g)

  pub opening_known : 3 ≤ length s → row_of (get_or s 0 0) < 6 → opening s ≡ accepted
  unfolding opening
  opening_known h g = rw (le-ltb (length s) 3 h, lt-leb 6 (row_of (get_or s 0 0)) g)

  pub judged_opening : (k p : ℕ) → opening s ≡ refused k p → judged s ≡ refused k p
  unfolding judged read
  judged_opening k p e = ap answer (then-stop (opening s) _ (ap is_accepted e)) ∙ e

  pub judged_ends : judged s ≡ first_fault (opening s)
      (first_fault (header (row_for s) s) (inside (row_for s) (row_for s).before (drop (row_for s).before (body (row_for s) s))).ends)
  unfolding judged read
  judged_ends = then_ends (opening s) _ ∙ ap (first_fault (opening s)) (then_ends (header (row_for s) s) _)

  -- behind opening and header, with the row and the bytes before the CRC_32 as the code has them
  pub judged_inside : (row : Row) (b : List ℕ) → row ≡ row_for s → b ≡ body row s → opening s ≡ accepted → header row s ≡ accepted
      → judged s ≡ (inside row row.before (drop row.before b)).ends
  judged_inside row b r q o h =
      judged_ends
      ∙ ap (λ v. first_fault v (first_fault (header (row_for s) s) (within (row_for s)))) o
      ∙ ap (λ (w : Row). first_fault (header w s) (within w)) (sym r)
      ∙ ap (λ v. first_fault v (within row)) h
      ∙ ap (λ (x : List ℕ). (inside row row.before (drop row.before x)).ends) (sym q)
    where
      within : Row → Said
      within w = (inside w w.before (drop w.before (body w s))).ends

  module _ (o : opening s ≡ accepted) where
    pub read_on : read s ≡ (header (row_for s) s and_then inside (row_for s) (row_for s).before
        (drop (row_for s).before (body (row_for s) s)))
    unfolding read
    read_on = then-on (opening s) _ (ap is_accepted o)

    pub judged_header : (k p : ℕ) → header (row_for s) s ≡ refused k p → judged s ≡ refused k p
    unfolding judged
    judged_header k p e = ap answer (read_on ∙ then-stop (header (row_for s) s) _ (ap is_accepted e)) ∙ e

    pub read_through : header (row_for s) s ≡ accepted
        → read s ≡ inside (row_for s) (row_for s).before (drop (row_for s).before (body (row_for s) s))
    read_through e = read_on ∙ then-on (header (row_for s) s) _ (ap is_accepted e)

pub ruleset judged_laws = (judged_ends, fault_first)
