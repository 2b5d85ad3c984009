-- One section for any roll: refused exactly with the first refusal for it, itself unchanged; and else taken.
use Prim.Native.Nat.{ℕ, ◌+◌, ◌/◌, ◌<◌, ◌≤◌}
use mathlib.Core.Path.{◌≡◌, refl, sym, ap, ◌∙◌, subst}
use mathlib.Core.Bool.{Bool, true, false, not, ◌||◌, false≢true}
use mathlib.Core.Logic.{◌⊎◌, inl, inr, ◌↔◌, ⊎_elim}
use mathlib.Core.List.{List}
use native.Mathlib.Omega.{arith}
use lib.ListN.{get_or}
use lib.Dec.{eqb}
use borrow.Author.Tests.{eqb-true, eqb-false, eq-eqb}
use Rattle.std.specs.Prelude.{if◌then◌else◌, Some}
use Rattle.wire.specs.Bytes.{Bytes}
use Rattle.wire.proofs.IfLaws.{if-case}
use Rattle.verdict.specs.Verdict.{accepted, is_accepted}
use Rattle.verdict.proofs.SaidLaws.{is_accepted_lem, is_refused}
use Rattle.section.specs.Reading.{judged}
use Rattle.section.proofs.Exactly.{accepted_exactly_if, refused_exactly_if, section_judged}
use Rattle.roll.specs.Answer.{Says, missing, refusing}
use Rattle.roll.specs.Marks.{segment_at, has, unmarked, marked, Whole, smallest, smallest_missing}
use Rattle.roll.specs.Segments.{is_schedule, marked_until, smallest_in_segments}
use Rattle.roll.proofs.Outcomes.{marked_by_segment, segment_after_long, asked_no_refusal}
use Rattle.head.specs.SubTable.{sub_table_of, compared, same_ids}
use Rattle.head.specs.Head.{version_in, number_in, last_in, is_current, has_no_sub_table}
use Rattle.roll.specs.Roll.{another, starts_afresh, segment_end_in, end_unfit, segment_after, marked_by, begun_with, continued, roll_after, answered, asked, Outcome, answering, refusal, taking_current, taking_accepted, taking}
use Rattle.sequence.specs.Promise.{Promised, PromisedAsked}
use Rattle.head.specs.Stands.{Versioned, OfSubTable}
use Rattle.sequence.specs.Step.{Schedule, Applies, no_sub_table, another as another-one, not_current, segment-end, turn_of, FirstFor, of_the_judge, of_the_roll}
use Rattle.sequence.specs.Step.{ComeFor, Answers, AfterTaking, Known, CameIn, AnswersInSegments, GoesOn, EndFor, ComeInFor, AfterTakingInSegments, Asked}
use Rattle.sequence.specs.Step.{AnswersAny, CompleteExactlyIf, MissingExactlyIf, RefusesExactlyIf, RefusalKeeps, TakesElse, TakesElseInSegments, ChangeEmpties}
use Rattle.sequence.proofs.MarkLaws.{unmarked_has_none, unmarked_whole, marked_has, marked_only, marked_more, put_whole, until_has, until_elsewhere, until_emptied}
use Rattle.head.proofs.Ids.{compared_as_it_stands, same_same_ids}
use Rattle.sequence.proofs.TableIds.{no_sub_table_ids, schedule_ids, no_schedule, unfit_exactly, fits}
use Rattle.head.proofs.HeadLaws.{version_is, current_is, not_current_is, is_not_current, of_sub_table}
use Rattle.sequence.proofs.SmallestMissing.{smallest_answers}
use Rattle.sequence.proofs.SegmentAnswers.{smallest_in_segments_lem, answers_along, complete_exactly, missing_exactly}
use Rattle.sequence.proofs.InSegments.{none_known, none_came, known_after, came_after}
use Rattle.roll.specs.declared.Marks.{Marks}
use Rattle.roll.specs.declared.Roll.{Roll}

-- ---- the four tests of the roll's own, as the statement has them

module _ (r : Roll) (s : List ℕ) where
  another_applies : another r s ≡ true → Applies r s 82
  unfolding another
  another_applies h = go r.begun refl (sym h)
    where
      go : (b : Bool) → r.begun ≡ b
          → true ≡ (if b then not (same_ids (compared r.sub_table) (sub_table_of s)) else false) → Applies r s 82
      go true e q = another-one e (λ x. false≢true (ap not (sym ((of_sub_table r.sub_table s).1 x)) ∙ sym q))
      go false e q = absurd (false≢true (sym q))

  applies_another : r.begun ≡ true → (OfSubTable r.sub_table s → ⊥) → another r s ≡ true
  unfolding another
  applies_another e n = rw e (go (same_ids (compared r.sub_table) (sub_table_of s)) refl)
    where
      go : (b : Bool) → same_ids (compared r.sub_table) (sub_table_of s) ≡ b
          → not (same_ids (compared r.sub_table) (sub_table_of s)) ≡ true
      go true q = absurd (n ((of_sub_table r.sub_table s).0 q))
      go false q = rw q

  none_another : (Applies r s 82 → ⊥) → another r s ≡ false
  none_another n = go (another r s) refl
    where
      go : (b : Bool) → another r s ≡ b → another r s ≡ false
      go true e = absurd (n (another_applies e))
      go false e = e

  -- ---- whatever is first refuses, and leaves the roll

  has_sub_table : judged s ≡ accepted → (Applies r s 83 → ⊥) → has_no_sub_table s ≡ false
  has_sub_table a n = go (has_no_sub_table s) refl
    where
      go : (b : Bool) → has_no_sub_table s ≡ b → has_no_sub_table s ≡ false
      go true e = absurd (n (no_sub_table ((no_sub_table_ids s a).0 e)))
      go false e = e

  is_current_too : (Applies r s 81 → ⊥) → is_current s ≡ true
  is_current_too n = go (is_current s) refl
    where
      go : (b : Bool) → is_current s ≡ b → is_current s ≡ true
      go true e = e
      go false e = absurd (n (not_current (version_in s) (not_current_is s e)))

  pub first_refuses : {k p : ℕ} → FirstFor r s k p → taking r s ≡ refusal r k p
  unfolding taking taking_accepted taking_current
  first_refuses {k} {p} (of_the_judge f) = rw ((refused_exactly_if s k p).1 f)
  first_refuses (of_the_roll loops x (no_sub_table e) none) =
      let a = section_judged s loops x in
      rw (a, (no_sub_table_ids s a).1 e)
  first_refuses (of_the_roll loops x (another-one e n) none) =
      let a = section_judged s loops x in
      rw (a, has_sub_table a (none 83 (omega arith)), applies_another e n)
  first_refuses (of_the_roll loops x (not_current v h) none) =
      let a = section_judged s loops x in
      rw (a, has_sub_table a (none 83 (omega arith)), none_another (none 82 (omega arith)), is_not_current s v h)
  first_refuses (of_the_roll loops x (segment-end i c) none) =
      let a = section_judged s loops x in
      rw (
        a,
        has_sub_table a (none 83 (omega arith)),
        none_another (none 82 (omega arith)),
        is_current_too (none 81 (omega arith)),
        (unfit_exactly s).1 (i, c),
      )

  -- ---- a step, by the five tests

  pub data Went : Type 0 where
    first_applies : {k p : ℕ} → FirstFor r s k p → Went
    took : another r s ≡ false → is_current s ≡ true → end_unfit s ≡ false → taking r s ≡ answering (roll_after r s) → Went

  only-83 : (j : ℕ) → turn_of j < turn_of 83 → Applies r s j → ⊥
  only-83 j h (no_sub_table e) = omega arith
  only-83 j h (another-one e n) = omega arith
  only-83 j h (not_current v x) = omega arith
  only-83 j h (segment-end i c) = omega arith

  not-83 : judged s ≡ accepted → has_no_sub_table s ≡ false → (j : ℕ) → turn_of j < turn_of 82 → Applies r s j → ⊥
  not-83 a q j h (no_sub_table e) = false≢true (sym q ∙ (no_sub_table_ids s a).1 e)
  not-83 a q j h (another-one e n) = omega arith
  not-83 a q j h (not_current v x) = omega arith
  not-83 a q j h (segment-end i c) = omega arith

  not-82 : judged s ≡ accepted → has_no_sub_table s ≡ false → another r s ≡ false → (j : ℕ) → turn_of j < turn_of 81
      → Applies r s j → ⊥
  not-82 a q u j h (no_sub_table e) = false≢true (sym q ∙ (no_sub_table_ids s a).1 e)
  not-82 a q u j h (another-one e n) = false≢true (sym u ∙ applies_another e n)
  not-82 a q u j h (not_current v x) = omega arith
  not-82 a q u j h (segment-end i c) = omega arith

  not-81 : judged s ≡ accepted → has_no_sub_table s ≡ false → another r s ≡ false → is_current s ≡ true → (j : ℕ)
      → turn_of j < turn_of 84 → Applies r s j → ⊥
  not-81 a q u v j h (no_sub_table e) = false≢true (sym q ∙ (no_sub_table_ids s a).1 e)
  not-81 a q u v j h (another-one e n) = false≢true (sym u ∙ applies_another e n)
  not-81 a q u v j h (not_current w x) = false≢true (sym (is_not_current s w x) ∙ v)
  not-81 a q u v j h (segment-end i c) = omega arith

  pub went : Went
  unfolding taking taking_accepted taking_current
  went = go (is_accepted (judged s)) (has_no_sub_table s) (another r s) (is_current s) (end_unfit s) refl refl refl refl refl
    where
      go : (a n b c f : Bool) → is_accepted (judged s) ≡ a → has_no_sub_table s ≡ n → another r s ≡ b → is_current s ≡ c
          → end_unfit s ≡ f → Went
      go false n b c f p q u v g = first_applies (of_the_judge ((refused_exactly_if s _ _).0 (is_refused (judged s) p)))
      go true true b c f p q u v g =
          let a = is_accepted_lem (judged s) p in
          let x = (accepted_exactly_if s).0 a in
          first_applies (of_the_roll x.0 x.1 (no_sub_table ((no_sub_table_ids s a).0 q)) only-83)
      go true false true c f p q u v g =
          let a = is_accepted_lem (judged s) p in
          let x = (accepted_exactly_if s).0 a in
          first_applies (of_the_roll x.0 x.1 (another_applies u) (not-83 a q))
      go true false false false f p q u v g =
          let a = is_accepted_lem (judged s) p in
          let x = (accepted_exactly_if s).0 a in
          first_applies (of_the_roll x.0 x.1 (not_current (version_in s) (not_current_is s v)) (not-82 a q u))
      go true false false true true p q u v g =
          let a = is_accepted_lem (judged s) p in
          let x = (accepted_exactly_if s).0 a in
          let y = (unfit_exactly s).0 g in
          first_applies (of_the_roll x.0 x.1 (segment-end y.0 y.1) (not-81 a q u v))
      go true false false true false p q u v g = took u v g (rw (p, q, u, v, g))

-- ---- what is answered is no refusal

same_refusal : {k p j q : ℕ} → refusing k p ≡ refusing j q → (k ≡ j) × (p ≡ q)
same_refusal e = (cc, cc)

-- a step that takes the section is none of the refusals
pub took_none : (r : Roll) (s : List ℕ) → taking r s ≡ answering (roll_after r s) → (k p : ℕ) → FirstFor r s k p → ⊥
took_none r s t k p f =
    asked_no_refusal (roll_after r s) k p
    (sym (ap (λ (x : Outcome). x.says) t) ∙ ap (λ (x : Outcome). x.says) (first_refuses r s f))

-- ---- the statements

pub refuses_exactly_if : RefusesExactlyIf Promised
refuses_exactly_if r s o is k p = (
  λ e. to (went r s) (sym (ap (λ (x : Outcome). x.says) is) ∙ e),
  λ f. ap (λ (x : Outcome). x.says) (is ∙ first_refuses r s f),
)
  where
    to : Went r s → (taking r s).says ≡ refusing k p → FirstFor r s k p
    to (first_applies {k = j} f) e =
        let same = same_refusal (sym (ap (λ (x : Outcome). x.says) (first_refuses r s f)) ∙ e) in
        subst (λ i. FirstFor r s i p) same.0 (subst (λ i. FirstFor r s j i) same.1 f)
    to (took u v g t) e = absurd (asked_no_refusal (roll_after r s) k p (sym (ap (λ (x : Outcome). x.says) t) ∙ e))

pub refusal_keeps : RefusalKeeps Promised
refusal_keeps r s o is k p f = ap (λ (x : Outcome). x.roll) (is ∙ first_refuses r s f)

-- ---- a section that is taken

pub own_sub_table : (s : List ℕ) → OfSubTable (sub_table_of s) s
own_sub_table s = (of_sub_table (sub_table_of s) s).0 (same_same_ids _ _ (compared_as_it_stands s))

module _ (r : Roll) (s : List ℕ) (b : Bytes s) where
  -- where the roll starts afresh, it does not go on
  not_on : starts_afresh r s ≡ true → GoesOn r s → ⊥
  unfolding starts_afresh
  not_on h x =
      false≢true (sym (rw (x.begun, eq-eqb _ _ (sym (version_is s r.version 1 x.version).0), eq-eqb _ _ x.last)) ∙ h)

  -- where it does not, version and last number are the same
  pub same_numbers : starts_afresh r s ≡ false → (r.begun ≡ true) × (r.version ≡ version_in s) × (r.last ≡ last_in s)
  unfolding starts_afresh
  same_numbers h = go r.begun (eqb r.version (version_in s)) (eqb r.last (last_in s)) refl refl refl (sym h)
    where
      go : (g v l : Bool) → r.begun ≡ g → eqb r.version (version_in s) ≡ v → eqb r.last (last_in s) ≡ l
          → false ≡ (if g then (not v || not l) else true)
          → (r.begun ≡ true) × (r.version ≡ version_in s) × (r.last ≡ last_in s)
      go true true true e p q x = (e, eqb-true _ _ p, eqb-true _ _ q)
      go true true false e p q x = absurd (false≢true x)
      go true false l e p q x = absurd (false≢true x)
      go false v l e p q x = absurd (false≢true x)

  pub same_sub_table : r.begun ≡ true → another r s ≡ false → OfSubTable r.sub_table s
  same_sub_table e u = go (same_ids (compared r.sub_table) (sub_table_of s)) refl
    where
      go : (a : Bool) → same_ids (compared r.sub_table) (sub_table_of s) ≡ a → OfSubTable r.sub_table s
      go true h = (of_sub_table r.sub_table s).0 h
      go false h =
          absurd (false≢true (sym u
          ∙ applies_another r s e (λ x. false≢true (sym h ∙ (of_sub_table r.sub_table s).1 x))))

  -- a roll that keeps what this section has
  pub record Keeps (q : Roll) : Type 0 where
    pub begun : q.begun ≡ true
    pub ids : OfSubTable q.sub_table s
    pub version : Versioned s q.version 1
    pub last : q.last ≡ get_or s 7 0

  begun_keeps : is_current s ≡ true → Keeps (begun_with s)
  unfolding begun_with
  begun_keeps v = record { begun = refl; ids = own_sub_table s; version = current_is s v; last = refl }

  continued_keeps : another r s ≡ false → is_current s ≡ true → starts_afresh r s ≡ false → Keeps (continued r s)
  unfolding continued
  continued_keeps u v h =
      let on = same_numbers h in
      record {
        begun = on.0;
        ids = same_sub_table on.0 u;
        version = subst (λ n. Versioned s n 1) (sym on.1) (current_is s v);
        last = on.2;
      }

  goes_on : is_current s ≡ true → starts_afresh r s ≡ false → GoesOn r s
  goes_on v h =
      let on = same_numbers h in
      record { begun = on.0; version = subst (λ n. Versioned s n 1) (sym on.1) (current_is s v); last = on.2 }

  after_keeps : another r s ≡ false → is_current s ≡ true → Keeps (roll_after r s)
  unfolding roll_after
  after_keeps u v = if-case Keeps (starts_afresh r s) (λ _. begun_keeps v) (continued_keeps u v)

  -- ---- of a table that is no schedule

  module _ (plain : is_schedule (get_or s 0 0) ≡ false) where
    plain_marks : (m : Marks) → marked_by m s ≡ marked m (number_in s)
    unfolding marked_by
    plain_marks m = rw plain

    begun_marks : starts_afresh r s ≡ true → (n : ℕ) → (has (begun_with s).marks n ≡ true) ↔ ComeFor r s n
    unfolding begun_with
    begun_marks h n = rw (plain_marks unmarked) (to, from)
      where
        to : has (marked unmarked (number_in s)) n ≡ true → ComeFor r s n
        to x = ⊎_elim (λ e. ComeFor.just (sym e)) (λ e. absurd (false≢true (sym (unmarked_has_none n) ∙ e)))
            (marked_only unmarked (number_in s) unmarked_whole (b 6) n x)

        from : ComeFor r s n → has (marked unmarked (number_in s)) n ≡ true
        from (ComeFor.just e) =
            ap (has (marked unmarked (number_in s))) (sym e) ∙ marked_has unmarked (number_in s) unmarked_whole (b 6)
        from (ComeFor.earlier e v l x) = absurd (not_on h (record { begun = e; version = v; last = l }))

    continued_marks : Whole r.marks → GoesOn r s → (n : ℕ) → (has (continued r s).marks n ≡ true) ↔ ComeFor r s n
    unfolding continued
    continued_marks w on n = rw (plain_marks r.marks) (to, from)
      where
        to : has (marked r.marks (number_in s)) n ≡ true → ComeFor r s n
        to x = ⊎_elim (λ e. ComeFor.just (sym e)) (λ e. ComeFor.earlier on.begun on.version on.last e)
            (marked_only r.marks (number_in s) w (b 6) n x)

        from : ComeFor r s n → has (marked r.marks (number_in s)) n ≡ true
        from (ComeFor.just e) = ap (has (marked r.marks (number_in s))) (sym e) ∙ marked_has r.marks (number_in s) w (b 6)
        from (ComeFor.earlier e v l x) = marked_more r.marks (number_in s) w (b 6) n x

    pub after_marks : (r.begun ≡ true → Whole r.marks) → is_current s ≡ true → (n : ℕ)
        → (has (roll_after r s).marks n ≡ true) ↔ ComeFor r s n
    unfolding roll_after
    after_marks w v n =
        if-case (λ (q : Roll). (has q.marks n ≡ true) ↔ ComeFor r s n) (starts_afresh r s) (λ h. begun_marks h n)
        (λ h. let on = goes_on v h in continued_marks (w on.begun) on n)

    pub taken_by : Whole r.marks → another r s ≡ false → is_current s ≡ true
        → AfterTaking r s (answering (roll_after r s))
    unfolding asked answered smallest_missing
    taken_by w u v =
        let kept = after_keeps u v in
        let marks = after_marks (λ _. w) v in
        let q = roll_after r s in
        record {
          begun = kept.begun;
          ids = kept.ids;
          version = kept.version;
          last = kept.last;
          marks = marks;
          says =
              rw (kept.begun, kept.ids.table, plain)
              (subst (λ n. Answers (ComeFor r s) n (smallest (has q.marks) (q.last + 1) 0)) kept.last
              (smallest_answers (has q.marks) (ComeFor r s) (λ n. (marks n).0) (λ n. (marks n).1) q.last));
        }

  -- ---- of a schedule

  module _ (schedule : Schedule (get_or s 0 0)) (fit : end_unfit s ≡ false) where
    is_schedule_lem : is_schedule (get_or s 0 0) ≡ true
    is_schedule_lem = (schedule_ids (get_or s 0 0)).1 schedule

    segment_marks : (m : Marks) → marked_by m s ≡ marked_until m (number_in s) (segment_end_in s)
    unfolding marked_by
    segment_marks m = rw is_schedule_lem

    abbrev Ends : Roll → Type 0
    Ends q = (k e : ℕ) → Known q.marks q.last k e ↔ EndFor r s k e

    abbrev Comes : Roll → Type 0
    Comes q = (n : ℕ) → CameIn q.marks q.last n ↔ ComeInFor r s n

    begun_ends : starts_afresh r s ≡ true → Ends (begun_with s)
    unfolding begun_with
    begun_ends h k e =
        let f = fits s schedule fit in
        let x = known_after unmarked (last_in s) (number_in s) (segment_end_in s) unmarked_whole (b 6) f.1 f.2 k e in
        rw (segment_marks unmarked)
        ((λ y. ⊎_elim (λ z. EndFor.just z.0 z.1) (λ z. absurd (none_known _ _ _ z.1)) (x.0 y)), λ y. x.1 (from y))
      where
        from : EndFor r s k e → ((number_in s / 8 ≡ k) × (segment_end_in s ≡ e)) ⊎
            ((number_in s / 8 ≡ k → ⊥) × Known unmarked (last_in s) k e)
        from (EndFor.just p q) = inl (p, q)
        from (EndFor.earlier on p q) = absurd (not_on h on)

    begun_comes : starts_afresh r s ≡ true → Comes (begun_with s)
    unfolding begun_with
    begun_comes h n =
        let f = fits s schedule fit in
        let x = came_after unmarked (last_in s) (number_in s) (segment_end_in s) unmarked_whole (b 6) f.1 f.2 n in
        rw (segment_marks unmarked)
        ((λ y. ⊎_elim (λ z. ComeInFor.just z) (λ z. absurd (none_came _ _ z.0)) (x.0 y)), λ y. x.1 (from y))
      where
        from : ComeInFor r s n
            → (number_in s ≡ n)
            ⊎ (CameIn unmarked (last_in s) n
            × (number_in s / 8 ≡ n / 8 → Known unmarked (last_in s) (n / 8) (segment_end_in s)))
        from (ComeInFor.just p) = inl p
        from (ComeInFor.earlier on p q) = absurd (not_on h on)

    module _ (w : Whole r.marks) (on : GoesOn r s) where
      within : segment_end_in s ≤ r.last
      within = let f = fits s schedule fit in subst (λ n. segment_end_in s ≤ n) (sym on.last) f.1

      continued_ends : Ends (continued r s)
      unfolding continued
      continued_ends k e =
          let f = fits s schedule fit in
          let x = known_after r.marks r.last (number_in s) (segment_end_in s) w (b 6) within f.2 k e in
          rw (segment_marks r.marks)
          ((λ y. ⊎_elim (λ z. EndFor.just z.0 z.1) (λ z. EndFor.earlier on z.0 z.1) (x.0 y)), λ y. x.1 (from y))
        where
          from : EndFor r s k e
              → ((number_in s / 8 ≡ k) × (segment_end_in s ≡ e)) ⊎ ((number_in s / 8 ≡ k → ⊥) × Known r.marks r.last k e)
          from (EndFor.just p q) = inl (p, q)
          from (EndFor.earlier o p q) = inr (p, q)

      continued_comes : Comes (continued r s)
      unfolding continued
      continued_comes n =
          let f = fits s schedule fit in
          let x = came_after r.marks r.last (number_in s) (segment_end_in s) w (b 6) within f.2 n in
          rw (segment_marks r.marks)
          ((λ y. ⊎_elim (λ z. ComeInFor.just z) (λ z. ComeInFor.earlier on z.0 z.1) (x.0 y)), λ y. x.1 (from y))
        where
          from : ComeInFor r s n
              → (number_in s ≡ n)
              ⊎ (CameIn r.marks r.last n
              × (number_in s / 8 ≡ n / 8 → Known r.marks r.last (n / 8) (segment_end_in s)))
          from (ComeInFor.just p) = inl p
          from (ComeInFor.earlier o p q) = inr (p, q)

    pub after_ends : (r.begun ≡ true → Whole r.marks) → is_current s ≡ true → Ends (roll_after r s)
    unfolding roll_after
    after_ends w v = if-case Ends (starts_afresh r s) begun_ends (λ h. let on = goes_on v h in continued_ends (w on.begun) on)

    pub after_comes : (r.begun ≡ true → Whole r.marks) → is_current s ≡ true → Comes (roll_after r s)
    unfolding roll_after
    after_comes w v = if-case Comes (starts_afresh r s) begun_comes (λ h. let on = goes_on v h in continued_comes (w on.begun) on)

    pub taken_in_segments : Whole r.marks → another r s ≡ false → is_current s ≡ true
        → AfterTakingInSegments r s (answering (roll_after r s))
    unfolding asked answered
    taken_in_segments w u v =
        let kept = after_keeps u v in
        let ends = after_ends (λ _. w) v in
        let comes = after_comes (λ _. w) v in
        let q = roll_after r s in
        record {
          begun = kept.begun;
          ids = kept.ids;
          version = kept.version;
          last = kept.last;
          ends = ends;
          marks = comes;
          says =
              rw (kept.begun, kept.ids.table, is_schedule_lem)
              (subst (λ n. AnswersInSegments (EndFor r s) (ComeInFor r s) n (smallest_in_segments q.marks q.last)) kept.last
              (answers_along ends comes (smallest_in_segments_lem q.marks q.last)));
        }

    -- an end that changes
    emptied : Whole r.marks → GoesOn r s → starts_afresh r s ≡ false
        → ((segment_at r.marks (number_in s / 8)).end ≡ Some (segment_end_in s) → ⊥)
        → ((n : ℕ) → n / 8 ≡ number_in s / 8 → (has (roll_after r s).marks n ≡ true) ↔ (n ≡ number_in s))
        × ((k : ℕ) → (k ≡ number_in s / 8 → ⊥) → segment_at (roll_after r s).marks k ≡ segment_at r.marks k)
    unfolding roll_after continued
    emptied w on h changed =
        rw (h, segment_marks r.marks)
        ((λ n same. (alone n same, there n)), until_elsewhere r.marks (number_in s) (segment_end_in s) w (b 6))
      where
        alone : (n : ℕ) → n / 8 ≡ number_in s / 8 → has (marked_until r.marks (number_in s) (segment_end_in s)) n ≡ true → n ≡ number_in s
        alone n same x = go (eqb n (number_in s)) refl
          where
            go : (c : Bool) → eqb n (number_in s) ≡ c → n ≡ number_in s
            go true e = eqb-true n (number_in s) e
            go false e =
                absurd (false≢true (sym (until_emptied r.marks (number_in s) (segment_end_in s) w (b 6) changed n same
                (eqb-false n (number_in s) e)) ∙ x))

        there : (n : ℕ) → n ≡ number_in s → has (marked_until r.marks (number_in s) (segment_end_in s)) n ≡ true
        there n e =
            ap (has (marked_until r.marks (number_in s) (segment_end_in s))) e
            ∙ until_has r.marks (number_in s) (segment_end_in s) w (b 6)

pub takes_else : TakesElse Promised
takes_else r s o is b w none plain = go (went r s)
  where
    go : Went r s → AfterTaking r s o
    go (first_applies f) = absurd (none _ _ f)
    go (took u v g t) = subst (AfterTaking r s) (sym (is ∙ t)) (taken_by r s b (no_schedule (get_or s 0 0) plain) w u v)

pub takes_else_in_segments : TakesElseInSegments Promised
takes_else_in_segments r s o is b w none schedule = go (went r s)
  where
    go : Went r s → AfterTakingInSegments r s o
    go (first_applies f) = absurd (none _ _ f)
    go (took u v g t) = subst (AfterTakingInSegments r s) (sym (is ∙ t)) (taken_in_segments r s b schedule g w u v)

-- the eight numbers of the section's segment, and the other segments
abbrev Emptied : Roll → List ℕ → Roll → Type 0
Emptied r s q =
    ((n : ℕ) → n / 8 ≡ get_or s 6 0 / 8 → (has q.marks n ≡ true) ↔ (n ≡ get_or s 6 0))
    × ((k : ℕ) → (k ≡ get_or s 6 0 / 8 → ⊥) → segment_at q.marks k ≡ segment_at r.marks k)

pub change_empties : ChangeEmpties Promised
change_empties r s o is b w none schedule on changed = go (went r s) (starts_afresh r s) refl
  where
    go : Went r s → (a : Bool) → starts_afresh r s ≡ a → Emptied r s o.roll
    go (first_applies f) a e = absurd (none _ _ f)
    go (took u v g t) true e = absurd (not_on r s b e on)
    go (took u v g t) false e =
        subst (Emptied r s) (sym (ap (λ (x : Outcome). x.roll) (is ∙ t))) (emptied r s b schedule g w on e changed)

-- ---- marks stay such as a program can hold

pub marked_by_whole : (m : Marks) (s : List ℕ) → Whole m → Whole (marked_by m s)
unfolding Whole
marked_by_whole m s w =
    subst Whole (marked_by_segment m s refl refl)
    (put_whole m (number_in s / 8) (segment_after (segment_at m (number_in s / 8)) s) w
    (λ h. segment_after_long (segment_at m (number_in s / 8)) s (w.1 (number_in s / 8) h)))

pub after_whole : (r : Roll) (s : List ℕ) → Whole r.marks → Whole (roll_after r s).marks
unfolding roll_after begun_with continued
after_whole r s w =
    if-case (λ (q : Roll). Whole q.marks) (starts_afresh r s) (λ _. marked_by_whole unmarked s unmarked_whole)
    (λ _. marked_by_whole r.marks s w)

pub taking_whole : (r : Roll) (s : List ℕ) → Whole r.marks → Whole (taking r s).roll.marks
taking_whole r s w = go (went r s)
  where
    go : Went r s → Whole (taking r s).roll.marks
    go (first_applies f) = subst (λ (x : Outcome). Whole x.roll.marks) (sym (first_refuses r s f)) w
    go (took u v g t) = subst (λ (x : Outcome). Whole x.roll.marks) (sym t) (after_whole r s w)

-- ---- asked without a section

pub asked_any : (r : Roll) → Asked r (asked r)
unfolding asked answered smallest_missing
asked_any r = go r.begun (is_schedule r.sub_table.table_id) refl refl
  where
    go : (b c : Bool) → r.begun ≡ b → is_schedule r.sub_table.table_id ≡ c
        → Asked r (if b then (if c then smallest_in_segments r.marks r.last else smallest_missing r.marks r.last) else missing 0)
    go true true e i =
        Asked.in_segments e ((schedule_ids r.sub_table.table_id).0 i) (smallest_in_segments_lem r.marks r.last)
    go true false e i =
        Asked.begun e (λ x. false≢true (sym i ∙ (schedule_ids r.sub_table.table_id).1 x))
        (smallest_answers (has r.marks) (λ n. has r.marks n ≡ true) (λ n h. h) (λ n h. h) r.last)
    go false c e i = Asked.empty e

pub answers_any : AnswersAny PromisedAsked
answers_any r x is = subst (Asked r) (sym is) (asked_any r)

module _ (r : Roll) (begun : r.begun ≡ true) (schedule : Schedule r.sub_table.table_id) where
  by_segments : {x : Says} → Asked r x → AnswersInSegments (Known r.marks r.last) (CameIn r.marks r.last) r.last x
  by_segments (Asked.empty e) = absurd (false≢true (sym e ∙ begun))
  by_segments (Asked.begun e n a) = absurd (n schedule)
  by_segments (Asked.in_segments e i a) = a

pub complete_exactly_if : CompleteExactlyIf PromisedAsked
complete_exactly_if r x is begun schedule = complete_exactly (by_segments r begun schedule (answers_any r x is))

pub missing_exactly_if : MissingExactlyIf PromisedAsked
missing_exactly_if r x is begun schedule n = missing_exactly (by_segments r begun schedule (answers_any r x is)) n
