-- Of accepted sections TDT (0x70) and TOT (0x73) have no sub-table; those of 0x50 to 0x6F are of schedules.
use Prim.Native.Nat.{ℕ, ◌<◌, ◌≤◌}
use mathlib.Core.Path.{◌≡◌, refl, sym, ap, ◌∙◌}
use mathlib.Core.Bool.{Bool, true, false, not, ◌||◌, false≢true}
use mathlib.Core.Logic.{◌⊎◌, inl, inr, ◌↔◌}
use mathlib.Core.List.{List}
use native.Mathlib.Omega.{arith}
use lib.ListN.{get_or}
use lib.Dec.{eqb, ltb, leb}
use borrow.Author.Tests.{eqb-true, eqb-false, ne_eqb, ltb-true, ltb-false, lt-ltb, le-ltb, leb-true, le-leb, not-true}
use Rattle.tables.specs.Tables.{TDT, TOT, UNKNOWN, cell, row_of, InRow}
use Rattle.tables.proofs.RowLaws.{row_is, unnumbered_from}
use Rattle.verdict.specs.Verdict.{accepted}
use Rattle.section.specs.Reading.{judged}
use Rattle.section.proofs.Exactly.{accepted_exactly_if}
use Rattle.head.specs.Head.{number_in, last_in, has_no_sub_table}
use Rattle.head.proofs.Ids.{and_left, and_right}
use Rattle.head.proofs.TableIds.{in_row}
use Rattle.roll.specs.Marks.{segment_of}
use Rattle.roll.specs.Segments.{is_schedule}
use Rattle.roll.specs.Roll.{segment_end_in, end_unfit}
use Rattle.sequence.specs.Step.{Schedule, Contradicts, below, above, in_another}

-- "83 (TDT, TOT)"
module _ (s : List ℕ) (a : judged s ≡ accepted) where
  abbrev row : ℕ
  row = row_of (get_or s 0 0)

  known : row < UNKNOWN
  known =
      let x = ((accepted_exactly_if s).0 a).1 in
      let e = row_is (get_or s 0 0) x.row x.cut.known x.cut.table in
      omega (arith, x.cut.known)

  pub no_sub_table_ids : has_no_sub_table s ≡ true ↔ ((get_or s 0 0 ≡ 0x70) ⊎ (get_or s 0 0 ≡ 0x73))
  unfolding has_no_sub_table cell
  no_sub_table_ids = (λ h. to (eqb row TDT) refl (unnumbered_from row refl (not-true _ h)), from)
    where
      tdt : InRow TDT (get_or s 0 0) → get_or s 0 0 ≡ 0x70
      tdt (inl (a, b)) = omega arith
      tdt (inr (a, b)) = omega arith

      tot : InRow TOT (get_or s 0 0) → get_or s 0 0 ≡ 0x73
      tot (inl (a, b)) = omega arith
      tot (inr (a, b)) = omega arith

      to : (b : Bool) → eqb row TDT ≡ b → TDT ≤ row → (get_or s 0 0 ≡ 0x70) ⊎ (get_or s 0 0 ≡ 0x73)
      to true e h = inl (tdt (in_row (get_or s 0 0) TDT (omega arith) (eqb-true _ _ e)))
      to false e h =
          let n = eqb-false row TDT e in
          let k = known in
          let last : row ≡ TOT = omega (arith, n) in
          inr (tot (in_row (get_or s 0 0) TOT (omega arith) last))

      from : (get_or s 0 0 ≡ 0x70) ⊎ (get_or s 0 0 ≡ 0x73) → has_no_sub_table s ≡ true
      from (inl e) =
          let r = row_is (get_or s 0 0) TDT (omega arith) (inl (omega arith, omega arith)) in
          ap not (le-ltb row TDT (omega arith))
      from (inr e) =
          let r = row_is (get_or s 0 0) TOT (omega arith) (inl (omega arith, omega arith)) in
          ap not (le-ltb row TDT (omega arith))

-- "for table_id 0x50 to 0x6F"
pub schedule_ids : (id : ℕ) → is_schedule id ≡ true ↔ Schedule id
unfolding is_schedule
schedule_ids id = (
  λ h. (leb-true 0x50 id (and_left (leb 0x50 id) (leb id 0x6F) h), leb-true id 0x6F (and_right (leb 0x50 id) (leb id 0x6F) h)),
  λ x. rw (le-leb 0x50 id x.0, le-leb id 0x6F x.1),
)

pub no_schedule : (id : ℕ) → (Schedule id → ⊥) → is_schedule id ≡ false
no_schedule id n = go (is_schedule id) refl
  where
    go : (b : Bool) → is_schedule id ≡ b → is_schedule id ≡ false
    go true e = absurd (n ((schedule_ids id).0 e))
    go false e = e

-- 84
module _ (s : List ℕ) where
  abbrev tests : Bool
  tests =
      ltb (segment_end_in s) (number_in s)
      || (ltb (last_in s) (segment_end_in s) || not (eqb (segment_of (segment_end_in s)) (segment_of (number_in s))))

  tests_contradict : tests ≡ true → Contradicts s
  tests_contradict h =
      go (ltb (segment_end_in s) (number_in s)) (ltb (last_in s) (segment_end_in s))
      (eqb (segment_of (segment_end_in s)) (segment_of (number_in s)))
      refl refl refl h
    where
      go : (a b c : Bool) → ltb (segment_end_in s) (number_in s) ≡ a → ltb (last_in s) (segment_end_in s) ≡ b
          → eqb (segment_of (segment_end_in s)) (segment_of (number_in s)) ≡ c → (a || (b || not c)) ≡ true → Contradicts s
      go true b c p q r h = below (ltb-true _ _ p)
      go false true c p q r h = above (ltb-true _ _ q)
      go false false true p q r h = absurd (false≢true h)
      go false false false p q r h = in_another (eqb-false _ _ r)

  contradict_tests : Contradicts s → tests ≡ true
  contradict_tests (below h) = rw (lt-ltb _ _ h)
  contradict_tests (above h) = go (ltb (segment_end_in s) (number_in s))
    where
      go : (a : Bool) → (a || (ltb (last_in s) (segment_end_in s) || not
          (eqb (segment_of (segment_end_in s)) (segment_of (number_in s))))) ≡ true
      go true = refl
      go false = rw (lt-ltb (last_in s) (segment_end_in s) h)
  contradict_tests (in_another h) = go (ltb (segment_end_in s) (number_in s)) (ltb (last_in s) (segment_end_in s))
    where
      go : (a b : Bool) → (a || (b || not (eqb (segment_of (segment_end_in s)) (segment_of (number_in s))))) ≡ true
      go true b = refl
      go false true = refl
      go false false = rw (ne_eqb (segment_of (segment_end_in s)) (segment_of (number_in s)) h)

  pub unfit_exactly : end_unfit s ≡ true ↔ (Schedule (get_or s 0 0) × Contradicts s)
  unfolding end_unfit
  unfit_exactly = (
    λ h. (
      (schedule_ids (get_or s 0 0)).0 (and_left (is_schedule (get_or s 0 0)) tests h),
      tests_contradict (and_right (is_schedule (get_or s 0 0)) tests h),
    ),
    λ x. rw ((schedule_ids (get_or s 0 0)).1 x.0) (contradict_tests x.1),
  )

  -- where 84 does not apply, the end fits its number
  pub fits : Schedule (get_or s 0 0) → end_unfit s ≡ false
      → (number_in s ≤ segment_end_in s) × (segment_end_in s ≤ last_in s) × (segment_of (segment_end_in s) ≡ segment_of (number_in s))
  fits x h = (number, last, segment)
    where
      contradicts : Contradicts s → ⊥
      contradicts c = false≢true (sym h ∙ unfit_exactly.1 (x, c))

      number : number_in s ≤ segment_end_in s
      number = go (ltb (segment_end_in s) (number_in s)) refl
        where
          go : (b : Bool) → ltb (segment_end_in s) (number_in s) ≡ b → number_in s ≤ segment_end_in s
          go true e = absurd (contradicts (below (ltb-true _ _ e)))
          go false e = ltb-false _ _ e

      last : segment_end_in s ≤ last_in s
      last = go (ltb (last_in s) (segment_end_in s)) refl
        where
          go : (b : Bool) → ltb (last_in s) (segment_end_in s) ≡ b → segment_end_in s ≤ last_in s
          go true e = absurd (contradicts (above (ltb-true _ _ e)))
          go false e = ltb-false _ _ e

      segment : segment_of (segment_end_in s) ≡ segment_of (number_in s)
      segment = go (eqb (segment_of (segment_end_in s)) (segment_of (number_in s))) refl
        where
          go : (b : Bool) → eqb (segment_of (segment_end_in s)) (segment_of (number_in s)) ≡ b
              → segment_of (segment_end_in s) ≡ segment_of (number_in s)
          go true e = eqb-true _ _ e
          go false e = absurd (contradicts (in_another (eqb-false _ _ e)))
