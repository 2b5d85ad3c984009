-- Of a schedule: the smallest number that has not come and was not left out, or complete, is what the sentences on
-- schedules ask; and these leave one answer.
use Prim.Native.Nat.{ℕ, ◌*◌, ◌/◌, ◌≤◌}
use mathlib.Core.Path.{◌≡◌, refl, sym, ap, ◌∙◌, subst}
use mathlib.Core.Bool.{Bool, true, false, ◌||◌, false≢true}
use mathlib.Core.Logic.{◌⊎◌, inl, inr, ◌↔◌, ⊎_elim}
use native.Mathlib.Omega.{arith}
use lib.Dec.{ltb}
use borrow.Author.Tests.{ltb-true, ltb-false, lt-ltb}
use Rattle.wire.proofs.TestLaws.{or_exactly}
use Rattle.roll.specs.Answer.{Says, missing, complete}
use Rattle.roll.specs.Marks.{segment_at, has}
use Rattle.roll.specs.Segments.{end_at, came_by, left_out_by, come_or_left_out, smallest_in_segments}
use Rattle.roll.proofs.Ends.{at_once, counting_counts, counts_counting}
use Rattle.sequence.specs.Step.{Known, CameIn, LeftOut, EachSegment, SmallestPast, Answers, all, least, AnswersInSegments}
use Rattle.sequence.proofs.SmallestMissing.{smallest_answers}
use Rattle.roll.specs.declared.Marks.{Marks}
use Rattle.std.specs.Prelude.{Option, None, Some}

-- ---- ends

pub known_once : {m : Marks} {last k e f : ℕ} → Known m last k e → Known m last k f → e ≡ f
known_once x y = at_once (sym x.kept ∙ y.kept)

module _ (m : Marks) (last k e : ℕ) where
  known-end : Known m last k e → end_at m last k ≡ Some e
  unfolding end_at
  known-end x =
      let inside = x.inside in
      counts_counting last k (segment_at m k).end e (record { is = x.kept; inside = omega arith; within = x.within })

  end_known : end_at m last k ≡ Some e → Known m last k e
  unfolding end_at
  end_known h =
      let c = counting_counts last k (segment_at m k).end e h in
      let inside = c.inside in
      record { kept = c.is; inside = (omega arith, omega arith); within = c.within }

-- ---- one number

module _ (m : Marks) (last : ℕ) where
  come_or_left_out_lem : (n : ℕ) → come_or_left_out m last n ≡ true → CameIn m last n ⊎ LeftOut (Known m last) n
  unfolding come_or_left_out came_by left_out_by
  come_or_left_out_lem n h = go (end_at m last (n / 8)) refl h
    where
      go : (x : Option ℕ) → end_at m last (n / 8) ≡ x → (came_by x (has m n) || left_out_by x n) ≡ true
          → CameIn m last n ⊎ LeftOut (Known m last) n
      go None e h = absurd (false≢true h)
      go (Some end) e h = by (has m n) refl h
        where
          by : (b : Bool) → has m n ≡ b → (b || ltb end n) ≡ true → CameIn m last n ⊎ LeftOut (Known m last) n
          by true p h = inl (record { end = end; known = end_known m last (n / 8) end e; mark = p })
          by false p h = inr (end, end_known m last (n / 8) end e, ltb-true end n h)

  counted : (n : ℕ) → CameIn m last n ⊎ LeftOut (Known m last) n → come_or_left_out m last n ≡ true
  unfolding come_or_left_out came_by left_out_by
  counted n (inl c) = rw (known-end m last (n / 8) c.end c.known, c.mark)
  counted n (inr (e, known, above)) = rw (known-end m last (n / 8) e known) ((or_exactly (has m n) (ltb e n)).1 (inr (lt-ltb e n above)))

  -- ---- all numbers

  in_segments : {x : Says} → Answers (λ n. CameIn m last n ⊎ LeftOut (Known m last) n) last x
      → AnswersInSegments (Known m last) (CameIn m last) last x
  in_segments (all h) = AnswersInSegments.all each
    where
      -- of each number up to the end it is known that it has come
      up_to : (k e : ℕ) → Known m last k e → (n : ℕ) → 8 * k ≤ n → n ≤ e → CameIn m last n ⊎ LeftOut (Known m last) n → CameIn m last n
      up_to k e known n from to (inl c) = c
      up_to k e known n from to (inr (f, other, above)) =
          let inside = known.inside in
          let same : n / 8 ≡ k = omega arith in
          let once = known_once (subst (λ i. Known m last i f) same other) known in
          absurd (omega arith)

      each : EachSegment (Known m last) (CameIn m last) last
      each k l = ⊎_elim came left_out (h (8 * k) (omega arith))
        where
          first : 8 * k / 8 ≡ k
          first = omega arith

          came : CameIn m last (8 * k) → (e : ℕ) × Known m last k e × ((n : ℕ) → 8 * k ≤ n → n ≤ e → CameIn m last n)
          came c =
              let known = subst (λ i. Known m last i c.end) first c.known in
              let within = known.within in
              (c.end, known, λ n from to. up_to k c.end known n from to (h n (omega arith)))

          left_out : LeftOut (Known m last) (8 * k)
              → (e : ℕ) × Known m last k e × ((n : ℕ) → 8 * k ≤ n → n ≤ e → CameIn m last n)
          left_out (e, known, above) = let inside = known.inside in absurd (omega arith)
  in_segments (least n within not_come before) =
      AnswersInSegments.least n (record {
        within = within;
        not_come = λ c. not_come (inl c);
        not_left_out = λ x. not_come (inr x);
        before = before;
      })

  pub smallest_in_segments_lem : AnswersInSegments (Known m last) (CameIn m last) last (smallest_in_segments m last)
  unfolding smallest_in_segments
  smallest_in_segments_lem =
      in_segments (smallest_answers (come_or_left_out m last) (λ n. CameIn m last n ⊎ LeftOut (Known m last) n)
      come_or_left_out_lem counted last)

-- ---- the sentences by themselves

module _ {ends ends' : ℕ → ℕ → Type 0} {come come' : ℕ → Type 0} (e : (k f : ℕ) → ends k f ↔ ends' k f)
    (c : (n : ℕ) → come n ↔ come' n) where
  left_out_along : (n : ℕ) → LeftOut ends n → LeftOut ends' n
  left_out_along n (f, is, above) = (f, (e (n / 8) f).0 is, above)

  left_out_back : (n : ℕ) → LeftOut ends' n → LeftOut ends n
  left_out_back n (f, is, above) = (f, (e (n / 8) f).1 is, above)

  -- whoever has the same ends and the same numbers has the same answer
  pub answers_along : {last : ℕ} {x : Says} → AnswersInSegments ends come last x → AnswersInSegments ends' come' last x
  answers_along (AnswersInSegments.all h) =
      AnswersInSegments.all (λ k l. let x = h k l in (x.0, (e k x.0).0 x.1, λ n from to. (c n).0 (x.2 n from to)))
  answers_along (AnswersInSegments.least n s) =
      AnswersInSegments.least n (record {
        within = s.within;
        not_come = λ x. s.not_come ((c n).1 x);
        not_left_out = λ x. s.not_left_out (left_out_back n x);
        before = λ j l. ⊎_elim (λ x. inl ((c j).0 x)) (λ x. inr (left_out_along j x)) (s.before j l);
      })

module _ {ends : ℕ → ℕ → Type 0} {come : ℕ → Type 0} {last : ℕ} where
  -- where each segment has come, no number is the smallest missing
  none_missing : EachSegment ends come last → (n : ℕ) → SmallestPast ends come last n → ⊥
  none_missing h n s =
      let within = s.within in
      let x = h (n / 8) (omega arith) in
      go x (ltb x.0 n) refl
    where
      go : (x : (e : ℕ) × ends (n / 8) e × ((i : ℕ) → 8 * (n / 8) ≤ i → i ≤ e → come i)) (b : Bool) → ltb x.0 n ≡ b → ⊥
      go (e, is, upto) true p = s.not_left_out (e, is, ltb-true e n p)
      go (e, is, upto) false p = s.not_come (upto n (omega arith) (ltb-false e n p))

  pub in_segments_once : {x y : Says} → AnswersInSegments ends come last x → AnswersInSegments ends come last y → x ≡ y
  in_segments_once (AnswersInSegments.all h) (AnswersInSegments.all g) = refl
  in_segments_once (AnswersInSegments.all h) (AnswersInSegments.least n s) = absurd (none_missing h n s)
  in_segments_once (AnswersInSegments.least n s) (AnswersInSegments.all g) = absurd (none_missing g n s)
  in_segments_once (AnswersInSegments.least n s) (AnswersInSegments.least m t) = go (ltb n m) (ltb m n) refl refl
    where
      go : (a b : Bool) → ltb n m ≡ a → ltb m n ≡ b → missing n ≡ missing m
      go true b p q = absurd (⊎_elim s.not_come s.not_left_out (t.before n (ltb-true n m p)))
      go false true p q = absurd (⊎_elim t.not_come t.not_left_out (s.before m (ltb-true m n q)))
      go false false p q =
          let x = ltb-false n m p in
          let y = ltb-false m n q in
          let same : n ≡ m = omega arith in
          ap missing same

  complete_is : AnswersInSegments ends come last complete → EachSegment ends come last
  complete_is (AnswersInSegments.all h) = h

  missing_is : {n : ℕ} → AnswersInSegments ends come last (missing n) → SmallestPast ends come last n
  missing_is (AnswersInSegments.least n s) = s

  pub complete_exactly : {x : Says} → AnswersInSegments ends come last x → (x ≡ complete) ↔ EachSegment ends come last
  complete_exactly a = (
    λ e. complete_is (subst (AnswersInSegments ends come last) e a),
    λ h. in_segments_once a (AnswersInSegments.all h),
  )

  pub missing_exactly : {x : Says} → AnswersInSegments ends come last x → (n : ℕ)
      → (x ≡ missing n) ↔ SmallestPast ends come last n
  missing_exactly a n = (
    λ e. missing_is (subst (AnswersInSegments ends come last) e a),
    λ s. in_segments_once a (AnswersInSegments.least n s),
  )

-- ---- marks above an end mean nothing

module _ (m o : Marks) (last : ℕ) (ends : (k e : ℕ) → Known m last k e ↔ Known o last k e)
    (comes : (n : ℕ) → (LeftOut (Known m last) n → ⊥) → CameIn m last n ↔ CameIn o last n) where
  -- a number up to its segment's end is not left out
  up-to-end : (n e : ℕ) → Known m last (n / 8) e → n ≤ e → LeftOut (Known m last) n → ⊥
  up-to-end n e known l (f, other, above) = let same = known_once known other in omega arith

  pub answers_alike : {x : Says} → AnswersInSegments (Known m last) (CameIn m last) last x
      → AnswersInSegments (Known o last) (CameIn o last) last x
  answers_alike (AnswersInSegments.all h) = AnswersInSegments.all each
    where
      each : EachSegment (Known o last) (CameIn o last) last
      each k l =
          let x = h k l in
          let known = x.1 in
          let inside = known.inside in (
            x.0,
            (ends k x.0).0 known,
            λ n from to.
                let same : n / 8 ≡ k = omega arith in
                (comes n (up-to-end n x.0 (subst (λ i. Known m last i x.0) (sym same) known) to)).0 (x.2 n from to),
          )
  answers_alike (AnswersInSegments.least n s) =
      AnswersInSegments.least n (record {
        within = s.within;
        not_come = λ c. s.not_come ((comes n s.not_left_out).1 c);
        not_left_out = λ (e, known, above). s.not_left_out (e, (ends (n / 8) e).1 known, above);
        before = λ j l. ⊎_elim (came j) (λ (e, known, above). inr (e, (ends (j / 8) e).0 known, above)) (s.before j l);
      })
    where
      came : (j : ℕ) → CameIn m last j → CameIn o last j ⊎ LeftOut (Known o last) j
      came j c = go (ltb c.end j) refl
        where
          go : (b : Bool) → ltb c.end j ≡ b → CameIn o last j ⊎ LeftOut (Known o last) j
          go true p = inr (c.end, (ends (j / 8) c.end).0 c.known, ltb-true c.end j p)
          go false p = inl ((comes j (up-to-end j c.end c.known (ltb-false c.end j p))).0 c)
