-- Demand 2, "A section is accepted exactly if ..", and demand 1, "the first of them in document 01's order .. no other
-- input is refused": what the judge says of any bytes is that they are in the grammar, or which refusal applies first.
-- No bytes are both, and no bytes have two first refusals.
use Prim.Native.Nat.{ℕ, suc, ◌+◌, ◌-◌, ◌*◌, ◌/◌, ◌<◌, ◌≤◌}
use mathlib.Core.Path.{◌≡◌, refl, ap, ◌∙◌, sym, subst}
use mathlib.Core.Logic.{◌⊎◌, inl, inr, ◌↔◌}
use mathlib.Core.Bool.{true, false}
use mathlib.Core.List.{List, [], ◌∷◌, ◌++◌, append-nil, append_assoc}
use native.Mathlib.Omega.{arith}
use native.Mathlib.Decide.{dec_lt, ℕ_discrete}
use lib.ListN.{length, get_or, take, drop, length-append, length-drop, take-append-drop}
use lib.Seq.{take_at, drop_at, length-take-le, take-take}
use Rattle.wire.specs.Bytes.{len12_at}
use Rattle.wire.specs.Trail.{answer}
use Rattle.crc.specs.Crc.{crc}
use Rattle.tables.specs.Tables.{row_of, row_at, InRow}
use Rattle.verdict.specs.Verdict.{Said, accepted, refused}
use Rattle.loops.specs.Descriptors.{Placed}
use Rattle.section.specs.Reading.{opening, header, wrong_syntax, length_outside, size_differs, crc_fails, above_last, body, row_for, inside, read, judged}
use Rattle.section.specs.Grammar.{Cut, Header, Section}
use Rattle.section.specs.Demands.{Claims}
use Rattle.section.specs.Faults as faults
use Rattle.section.specs.Faults.{Applies, too_short, unknown, syntax, below, above, size, register, numbers, First, lowest}
use Rattle.tables.specs.declared.Row.{Row}
use Rattle.section.proofs.Readings.{opening_short, opening_unknown, opening_known, judged_opening, judged_header, read_through, header-3, header-4, header-5, header-6, header-7, header_ok, body_crc, body_all}
use Rattle.tables.proofs.RowLaws.{fixed_two}
use Rattle.tables.proofs.RowLaws.{shape, row-in, row_below, row_is}
use Rattle.section.proofs.HeaderTests.{syntax_test, length_test, size_test, crc_test, last_test}
use Rattle.section.proofs.InSection as in_section_lem

-- ---- the cut: one row, one middle

module _ (i : ℕ) (s middle : List ℕ) (c : Cut i s middle) where
  row_of_cut : row_for s ≡ row_at i
  row_of_cut = ap row_at (row_is (get_or s 0 0) i c.known c.table)

  -- what stands before the CRC_32 is head and middle, where the table has one and where it has none
  pub body_cut : body (row_at i) s ≡ c.head ++ middle
  body_cut = go (ℕ_discrete (row_at i).crc 1)
    where
      all : s ≡ (c.head ++ middle) ++ c.tail
      all = c.whole ∙ sym (append_assoc c.head middle c.tail)

      none : (l : List ℕ) → length l ≡ 0 → l ≡ []
      none [] e = refl
      none (x ∷ l) e = absurd (omega arith)

      go : Dec ((row_at i).crc ≡ 1) → body (row_at i) s ≡ c.head ++ middle
      go (yes e) =
          let l : length s ≡ length (c.head ++ middle) + length c.tail = ap length all ∙ length-append (c.head ++ middle) c.tail in
          let t : length c.tail ≡ 4 = c.last ∙ ap (λ n. 4 * n) e in
          body_crc (row_at i) s e ∙ ap (take (length s - 4)) all ∙ take_at (c.head ++ middle) c.tail (length s - 4) (omega arith)
      go (no e) =
          let t : length c.tail ≡ 0 = c.last ∙ ap (λ n. 4 * n) ((shape i c.known).bare e).0 in
          body_all (row_at i) s e ∙ all ∙ ap (λ x. (c.head ++ middle) ++ x) (none c.tail t) ∙ append-nil (c.head ++ middle)

  -- the reading goes over the middle
  inside_cut : inside (row_at i) (row_at i).before (drop (row_at i).before (body (row_at i) s)) ≡ inside (row_at i)
      (row_at i).before middle
  inside_cut =
      ap (inside (row_at i) (row_at i).before)
      (ap (drop (row_at i).before) body_cut ∙ drop_at c.head middle (row_at i).before c.before)

-- and there is one, where the sizes are right
module _ (i : ℕ) (s : List ℕ) (known : i < 6) (table : InRow i (get_or s 0 0)) (least : (row_at i).least ≤ len12_at s 1)
    (most : len12_at s 1 ≤ (row_at i).most)
    (size : length s ≡ 3 + len12_at s 1) where
  abbrev Cuts : Type 0
  Cuts = (middle : List ℕ) × Cut i s middle × (((row_at i).top ≡ 1 → ⊥) → (row_at i).fixed ≡ 0 → middle ≡ [])

  cuts : Cuts
  cuts = go (ℕ_discrete (row_at i).crc 1)
    where
      go : Dec ((row_at i).crc ≡ 1) → Cuts
      go (yes e) =
          let b : ℕ = (row_at i).before in
          let n : ℕ = length s - 4 in
          let r = shape i known in
          let f = r.room e in
          let w : s ≡ take b s ++ (drop b (take n s) ++ drop n s) =
          sym (take-append-drop n s)
          ∙ ap (λ x. x ++ drop n s) (sym (take-append-drop b (take n s)) ∙ ap (λ x. x ++ drop b (take n s))
          (take-take b n s (omega arith)))
          ∙ append_assoc (take b s) (drop b (take n s)) (drop n s) in (
            drop b (take n s),
            record {
              known = known;
              table = table;
              head = take b s;
              tail = drop n s;
              whole = w;
              before = length-take-le b s (omega arith);
              last = length-drop n s ∙ small (omega arith) ∙ ap (λ k. 4 * k) (sym e);
            },
            λ t g. let z : ◌≡◌ {A = ℕ} 0 1 = sym (r.empty t g) ∙ e in absurd (omega arith),
          )
        where
          small : 4 ≤ length s → length s - (length s - 4) ≡ 4
          small h = omega arith
      go (no e) =
          let r = (shape i known).bare e in (
            [],
            record {
              known = known;
              table = table;
              head = s;
              tail = [];
              whole = sym (append-nil s);
              before = omega arith;
              last = sym (ap (λ k. 4 * k) r.0);
            },
            λ _ _. refl,
          )

-- ---- refusals 1 to 7: when each does not apply

module _ (s : List ℕ) where
  -- none of the first k - 1 refusals applies
  abbrev Clear : ℕ → Type 0
  Clear k = (j : ℕ) → j < k → Applies s j → ⊥

  numbered : {j : ℕ} → Applies s j → (0 < j) × (j < 8)
  numbered (too_short h) = omega arith
  numbered (unknown f) = omega arith
  numbered (syntax i h g n) = omega arith
  numbered (below i h g n) = omega arith
  numbered (above i h g n) = omega arith
  numbered (size n) = omega arith
  numbered (register i h g e n) = omega arith
  numbered (numbers i h g e n) = omega arith

  clear-1 : Clear 1
  clear-1 j h a = omega (arith, numbered a)

  clear_more : (k : ℕ) → Clear k → (Applies s k → ⊥) → Clear (suc k)
  clear_more k c n j h a = elim (ℕ_discrete j k) [ yes e ↦ n (subst (Applies s) e a) | no e ↦ c j (omega arith) a ]

  clear_all : Clear 8 → (j : ℕ) → Applies s j → ⊥
  clear_all c j a = c j (numbered a).1 a

  not-1 : 3 ≤ length s → Applies s 1 → ⊥
  not-1 g (too_short h) = omega arith

  module _ (row : ℕ) (known : row < 6) (table : InRow row (get_or s 0 0)) where
    -- a row that has the id is this one
    same_row : (i : ℕ) → i < 6 → InRow i (get_or s 0 0) → i ≡ row
    same_row i h g = sym (row_is (get_or s 0 0) i h g) ∙ row_is (get_or s 0 0) row known table

    not-2 : Applies s 2 → ⊥
    not-2 (unknown f) = f row known table

    not-3 : get_or s 1 0 / 128 ≡ (row_at row).syntax → Applies s 3 → ⊥
    not-3 e (syntax i h g n) = n (e ∙ ap (λ k. (row_at k).syntax) (sym (same_row i h g)))

    not-4 : (row_at row).least ≤ len12_at s 1 → len12_at s 1 ≤ (row_at row).most → Applies s 4 → ⊥
    not-4 a b (below i h g n) = let e = ap (λ k. (row_at k).least) (same_row i h g) in omega arith
    not-4 a b (above i h g n) = let e = ap (λ k. (row_at k).most) (same_row i h g) in omega arith

    not-5 : length s ≡ 3 + len12_at s 1 → Applies s 5 → ⊥
    not-5 e (size n) = n e

    not-6 : ((row_at row).crc ≡ 1 → crc s ≡ 0) → Applies s 6 → ⊥
    not-6 f (register i h g e n) = n (f (ap (λ k. (row_at k).crc) (sym (same_row i h g)) ∙ e))

    not-7 : ((row_at row).syntax ≡ 1 → get_or s 6 0 ≤ get_or s 7 0) → Applies s 7 → ⊥
    not-7 f (numbers i h g e n) = let l = f (ap (λ k. (row_at k).syntax) (sym (same_row i h g)) ∙ e) in omega arith

-- ---- what the judge says

module _ (s : List ℕ) where
  claims : {v : Said} → judged s ≡ v → Claims s v → Claims s (judged s)
  claims e x = subst (Claims s) (sym e) x

  module _ (long : 3 ≤ length s) (known : row_of (get_or s 0 0) < 6) where
    opened : opening s ≡ accepted
    opened = opening_known s long known

    table : InRow (row_of (get_or s 0 0)) (get_or s 0 0)
    table = row-in (get_or s 0 0) known

    clear-3 : Clear s 3
    clear-3 = clear_more s 2 (clear_more s 1 (clear-1 s) (not-1 s long)) (not-2 s _ known table)

    refusal : (k : ℕ) → header (row_for s) s ≡ refused k 0 → Applies s k → Clear s k → Claims s (judged s)
    refusal k e a c = claims (judged_header s opened k 0 e) (lowest a c)

    past_header : Header (row_for s) s → ((row_for s).crc ≡ 1 → crc s ≡ 0) → Clear s 8 → header (row_for s) s ≡
        accepted → Claims s (judged s)
    unfolding judged
    past_header h r c ok = go (cuts (row_of (get_or s 0 0)) s known table h.least h.most h.size)
      where
        row : ℕ
        row = row_of (get_or s 0 0)

        judge : (middle : List ℕ) (t : Cut row s middle)
            → in_section_lem.Either (row_at row) (row_at row).before (fixed_two row) middle → Claims s (judged s)
        judge middle t (inl (loops, w)) =
            claims (ap answer
            (read_through s opened ok
            ∙ inside_cut row s middle t
            ∙ in_section_lem.read_whole (row_at row) (row_at row).before (fixed_two row) w))
            (loops, record { row = row; middle = middle; cut = t; header = h; holds = r; inside = w })
        judge middle t (inr (k, q, f)) =
            claims (ap answer (read_through s opened ok ∙ inside_cut row s middle t)
            ∙ in_section_lem.read_fault (row_at row) (row_at row).before (fixed_two row) f)
            (faults.First.inside (clear_all s c) row middle t f)

        go : Cuts row s known table h.least h.most h.size → Claims s (judged s)
        go (middle, t, e) = judge middle t (in_section_lem.whole_or_fault (row_at row) (row_at row).before (fixed_two row) middle e)

    -- the tests, in their order
    by_header : Claims s (judged s)
    by_header = three (syntax_test (row_for s) s)
      where
        row : ℕ
        row = row_of (get_or s 0 0)

        seven : (a : wrong_syntax (row_for s) s ≡ false) (b : length_outside (row_for s) s ≡ false)
            (c : size_differs s ≡ false) (d : crc_fails (row_for s) s ≡ false)
            → (((row_for s).syntax ≡ 1 → get_or s 6 0 ≤ get_or s 7 0) → Header (row_for s) s) →
            ((row_for s).crc ≡ 1 → crc s ≡ 0) → Clear s 7
            → ((above_last (row_for s) s ≡ true) × (((row_for s).syntax ≡ 1) × (get_or s 7 0 < get_or s 6 0)))
            ⊎ ((above_last (row_for s) s ≡ false) × ((row_for s).syntax ≡ 1 → get_or s 6 0 ≤ get_or s 7 0)) → Claims s (judged s)
        seven a b c d h r clear (inl (t, (e, f))) = refusal 7 (header-7 (row_for s) s a b c d t) (numbers row known table e f) clear
        seven a b c d h r clear (inr (t, f)) =
            past_header (h f) r (clear_more s 7 clear (not-7 s row known table f)) (header_ok (row_for s) s a b c d t)

        six : (a : wrong_syntax (row_for s) s ≡ false) (b : length_outside (row_for s) s ≡ false) (c : size_differs s ≡ false)
            → (((row_for s).syntax ≡ 1 → get_or s 6 0 ≤ get_or s 7 0) → Header (row_for s) s) → Clear s 6
            → ((crc_fails (row_for s) s ≡ true) × (((row_for s).crc ≡ 1) × (crc s ≡ 0 → ⊥)))
            ⊎ ((crc_fails (row_for s) s ≡ false) × ((row_for s).crc ≡ 1 → crc s ≡ 0))
            → Claims s (judged s)
        six a b c h clear (inl (t, (e, f))) = refusal 6 (header-6 (row_for s) s a b c t) (register row known table e f) clear
        six a b c h clear (inr (t, f)) = seven a b c t h f (clear_more s 6 clear (not-6 s row known table f)) (last_test (row_for s) s)

        five : (a : wrong_syntax (row_for s) s ≡ false) (b : length_outside (row_for s) s ≡ false) → get_or s 1 0 /
            128 ≡ (row_for s).syntax
            → (row_for s).least ≤ len12_at s 1 → len12_at s 1 ≤ (row_for s).most → Clear s 5
            → ((size_differs s ≡ true) × (length s ≡ 3 + len12_at s 1 → ⊥))
            ⊎ ((size_differs s ≡ false) × (length s ≡ 3 + len12_at s 1))
            → Claims s (judged s)
        five a b x y z clear (inl (t, f)) = refusal 5 (header-5 (row_for s) s a b t) (size f) clear
        five a b x y z clear (inr (t, f)) =
            six a b t (λ n. record { syntax = x; least = y; most = z; size = f; numbers = n })
            (clear_more s 5 clear (not-5 s row known table f)) (crc_test (row_for s) s)

        four : (a : wrong_syntax (row_for s) s ≡ false) → get_or s 1 0 / 128 ≡ (row_for s).syntax → Clear s 4
            → ((length_outside (row_for s) s ≡ true) × ((len12_at s 1 < (row_for s).least) ⊎ ((row_for s).most < len12_at s 1)))
            ⊎ ((length_outside (row_for s) s ≡ false)
            × (((row_for s).least ≤ len12_at s 1) × (len12_at s 1 ≤ (row_for s).most)))
            → Claims s (judged s)
        four a x clear (inl (t, inl f)) = refusal 4 (header-4 (row_for s) s a t) (below row known table f) clear
        four a x clear (inl (t, inr f)) = refusal 4 (header-4 (row_for s) s a t) (above row known table f) clear
        four a x clear (inr (t, (y, z))) = five a t x y z (clear_more s 4 clear (not-4 s row known table y z)) (size_test (row_for s) s)

        three : ((wrong_syntax (row_for s) s ≡ true) × (get_or s 1 0 / 128 ≡ (row_for s).syntax → ⊥))
            ⊎ ((wrong_syntax (row_for s) s ≡ false) × (get_or s 1 0 / 128 ≡ (row_for s).syntax))
            → Claims s (judged s)
        three (inl (t, f)) = refusal 3 (header-3 (row_for s) s t) (syntax row known table f) clear-3
        three (inr (t, f)) = four t f (clear_more s 3 clear-3 (not-3 s row known table f)) (length_test (row_for s) s)

  -- THE VERDICT IS TRUE of any bytes
  pub verdict_true : Claims s (judged s)
  verdict_true = start (dec_lt (length s) 3)
    where
      rowed : 3 ≤ length s → Dec (row_of (get_or s 0 0) < 6) → Claims s (judged s)
      rowed long (yes h) = by_header long h
      rowed long (no h) =
          claims (judged_opening s 2 0 (opening_unknown s long (omega arith)))
          (lowest (unknown (λ i k g. let l = row_below (get_or s 0 0) i k g in omega arith)) (clear_more s 1 (clear-1 s) (not-1 s long)))

      start : Dec (length s < 3) → Claims s (judged s)
      start (yes h) = claims (judged_opening s 1 0 (opening_short s h)) (lowest (too_short h) (clear-1 s))
      start (no h) = rowed (omega arith) (dec_lt (row_of (get_or s 0 0)) 6)

-- ---- no bytes have two verdicts

section_clear : (s : List ℕ) (loops : List (List Placed)) → Section s loops → (j : ℕ) → Applies s j → ⊥
section_clear s loops x =
    let r = x.row in
    let k = x.cut.known in
    let t = x.cut.table in
    let h = x.header in
    clear_all s
    (clear_more s 7
    (clear_more s 6
    (clear_more s 5
    (clear_more s 4
    (clear_more s 3 (clear_more s 2 (clear_more s 1 (clear-1 s) (not-1 s (omega (arith, h.size)))) (not-2 s r k t))
    (not-3 s r k t h.syntax))
    (not-4 s r k t h.least h.most))
    (not-5 s r k t h.size))
    (not-6 s r k t x.holds))
    (not-7 s r k t h.numbers))

module _ (s : List ℕ) where
  -- where none of 1 to 7 applies, the reading goes over the middle of any cut
  clear_read : ((j : ℕ) → Applies s j → ⊥) → (i : ℕ) (middle : List ℕ) → Cut i s middle → read s ≡ inside
      (row_at i) (row_at i).before middle
  clear_read clear i middle c = start (dec_lt (length s) 3)
    where
      known : row_of (get_or s 0 0) < 6
      known = omega (arith, row_is (get_or s 0 0) i c.known c.table, c.known)

      row : ℕ
      row = row_of (get_or s 0 0)

      in_it : InRow row (get_or s 0 0)
      in_it = row-in (get_or s 0 0) known

      a : wrong_syntax (row_for s) s ≡ false
      a = elim (syntax_test (row_for s) s) [ inl x ↦ absurd (clear 3 (syntax row known in_it x.1)) | inr x ↦ x.0 ]

      b : length_outside (row_for s) s ≡ false
      b =
          elim (length_test (row_for s) s) [
            | inl x ↦ absurd (elim x.1 [ inl f ↦ clear 4 (below row known in_it f) | inr f ↦ clear 4 (above row known in_it f) ])
            | inr x ↦ x.0
          ]

      d : size_differs s ≡ false
      d = elim (size_test (row_for s) s) [ inl x ↦ absurd (clear 5 (size x.1)) | inr x ↦ x.0 ]

      e : crc_fails (row_for s) s ≡ false
      e = elim (crc_test (row_for s) s) [ inl x ↦ absurd (clear 6 (register row known in_it x.1.0 x.1.1)) | inr x ↦ x.0 ]

      f : above_last (row_for s) s ≡ false
      f = elim (last_test (row_for s) s) [ inl x ↦ absurd (clear 7 (numbers row known in_it x.1.0 x.1.1)) | inr x ↦ x.0 ]

      start : Dec (length s < 3) → read s ≡ inside (row_at i) (row_at i).before middle
      start (yes h) = absurd (clear 1 (too_short h))
      start (no h) =
          read_through s (opening_known s (omega arith) known) (header_ok (row_for s) s a b d e f)
          ∙ ap (λ (r : Row). inside r r.before (drop r.before (body r s))) (row_of_cut i s middle c)
          ∙ inside_cut i s middle c

  -- a section is read without a fault, and its loops are those of the grammar
  pub section_read : (loops : List (List Placed)) → Section s loops → read s ≡ record { items = loops; ends = accepted }
  section_read loops x =
      clear_read (section_clear s loops x) x.row x.middle x.cut
      ∙ in_section_lem.read_whole (row_at x.row) (row_at x.row).before (fixed_two x.row) x.inside

  pub section_judged : (loops : List (List Placed)) → Section s loops → judged s ≡ accepted
  unfolding judged
  section_judged loops x = ap answer (section_read loops x)

  -- the lowest of 1 to 7 is the only one that the judge can say
  lowest_judged : (k : ℕ) → Applies s k → ((j : ℕ) → j < k → Applies s j → ⊥) → judged s ≡ refused k 0
  lowest_judged k a c = go (judged s) (verdict_true s)
    where
      other : (n : ℕ) → Applies s n → ((j : ℕ) → j < n → Applies s j → ⊥) → Dec (n < k) → Dec (k < n) → refused n 0 ≡ refused k 0
      other n b d (yes h) e = absurd (c n h b)
      other n b d (no h) (yes e) = absurd (d k e a)
      other n b d (no h) (no e) = let f : n ≡ k = omega arith in ap (λ m. refused m 0) f

      go : (v : Said) → Claims s v → v ≡ refused k 0
      go accepted (loops, x) = absurd (section_clear s loops x k a)
      go (refused n q) (lowest b d) = other n b d (dec_lt n k) (dec_lt k n)
      go (refused n q) (faults.First.inside clear i middle t f) = absurd (clear k a)

  pub first_judged : {k q : ℕ} → First s k q → judged s ≡ refused k q
  unfolding judged
  first_judged (lowest {k = k} a c) = lowest_judged k a c
  first_judged (faults.First.inside clear i middle t f) =
      ap answer (clear_read clear i middle t) ∙ in_section_lem.read_fault (row_at i) (row_at i).before (fixed_two i) f

  -- DEMAND 2
  pub accepted_exactly_if : judged s ≡ accepted ↔ ((loops : List (List Placed)) × Section s loops)
  accepted_exactly_if = (λ e. subst (Claims s) e (verdict_true s), λ x. section_judged x.0 x.1)

  -- DEMAND 1
  pub refused_exactly_if : (k q : ℕ) → judged s ≡ refused k q ↔ First s k q
  refused_exactly_if k q = (λ e. subst (Claims s) e (verdict_true s), first_judged)
