-- Over whole sequences of sections from an empty roll: the marks are the numbers that have come since the last fresh
-- start, and the answer is the smallest that has not, or complete; of a schedule, by its segments.
use Prim.Native.Nat.{ℕ, ◌+◌, ◌/◌, ◌≤◌}
use mathlib.Core.Path.{◌≡◌, refl, sym, ap, ◌∙◌, subst}
use mathlib.Core.Bool.{Bool, true, false, not, false≢true}
use mathlib.Core.Logic.{◌⊎◌, inl, inr, ◌↔◌, ⊎_elim}
use mathlib.Core.List.{List, [], ◌∷◌}
use native.Mathlib.Omega.{arith}
use lib.Dec.{ltb}
use lib.ListN.{get_or}
use borrow.Author.Tests.{ltb-true, ltb-false}
use Rattle.wire.specs.Bytes.{Bytes}
use Rattle.wire.proofs.IfLaws.{if-case}
use Rattle.roll.specs.Answer.{Says, missing, complete}
use Rattle.roll.specs.Marks.{has, unmarked, Whole, smallest, smallest_missing}
use Rattle.roll.specs.Segments.{is_schedule, smallest_in_segments}
use Rattle.head.specs.SubTable.{sub_table_of, compared, same_ids}
use Rattle.head.specs.Head.{version_in, last_in, is_current}
use Rattle.roll.specs.Roll.{another, starts_afresh, segment_end_in, end_unfit, begun_with, continued, roll_after, answered, asked, Outcome, answering, taking}
use Rattle.sequence.specs.Sequence.{belongs, unrefused, taken_of, Come, EndOf, ComeInSegments, Answered, nothing, some, Kept, Agrees, Next, took, unchanged, AllBytes, none, more, Run, start, step, MarksAre, EachFares, AnswersAre, CompleteExactlyIf, MissingExactlyIf}
use Rattle.sequence.specs.Promise.{Promised, PromisedAsked}
use Rattle.sequence.specs.Step.{Schedule, Answers, all, least, Known, CameIn, AnswersInSegments, GoesOn, ComeFor, EndFor, ComeInFor}
use Rattle.sequence.proofs.MarkLaws.{unmarked_whole}
use Rattle.sequence.proofs.TableIds.{schedule_ids, no_schedule}
use Rattle.sequence.proofs.SmallestMissing.{smallest_answers}
use Rattle.sequence.proofs.SegmentAnswers.{smallest_in_segments_lem, answers_along, complete_exactly, missing_exactly}
use Rattle.sequence.proofs.Exactly.{same_numbers, own_sub_table, after_marks, after_ends, after_comes, marked_by_whole}
use Rattle.head.proofs.Ids.{compared_as_it_stands, same_ids_same}
use Rattle.head.proofs.HeadLaws.{version_is, current_is}
use Rattle.head.specs.Stands.{Versioned}
use Rattle.head.specs.declared.SubTable.{SubTable}
use Rattle.sequence.proofs.Steps.{Refuses, taken_or_refused}
use Rattle.roll.specs.declared.Roll.{Roll}

-- ---- what is kept of the section

kept_begun : (s : List ℕ) → Bytes s → Kept s (begun_with s)
unfolding begun_with
kept_begun s b = record {
  begun = refl;
  ids = refl;
  version = refl;
  last = refl;
  whole = marked_by_whole unmarked s unmarked_whole;
}

kept_continued : {u : List ℕ} {r : Roll} → Kept u r → (s : List ℕ) → Bytes s → sub_table_of u ≡ sub_table_of s
    → starts_afresh r s ≡ false → Kept s (continued r s)
unfolding continued
kept_continued {u} {r} k s b i h =
    let on = same_numbers r s b h in
    record {
      begun = k.begun;
      ids = k.ids ∙ i;
      version = on.1;
      last = on.2;
      whole = marked_by_whole r.marks s k.whole;
    }

kept_after : {u : List ℕ} {r : Roll} → Kept u r → (s : List ℕ) → Bytes s → sub_table_of u ≡ sub_table_of s → Kept s (roll_after r s)
unfolding roll_after
kept_after {r = r} k s b i = if-case (Kept s) (starts_afresh r s) (λ _. kept_begun s b) (kept_continued k s b i)

kept_first : (r : Roll) → r.begun ≡ false → (s : List ℕ) → Bytes s → Kept s (roll_after r s)
unfolding roll_after starts_afresh
kept_first r e s b = rw e (kept_begun s b)

-- two sections of one sub-table are of one table
table_same : (u s : List ℕ) → sub_table_of u ≡ sub_table_of s → get_or u 0 0 ≡ get_or s 0 0
table_same u s i = sym (own_sub_table u).table ∙ ap (λ (x : SubTable). x.table_id) i ∙ (own_sub_table s).table

-- ---- what has come, by the roll and by the sections

-- an empty roll goes on with nothing
none_before : {r : Roll} {s : List ℕ} → r.begun ≡ false → GoesOn r s → ⊥
none_before e on = false≢true (sym e ∙ on.begun)

module _ {u s : List ℕ} {r : Roll} (k : Kept u r) where
  on_same : GoesOn r s → (version_in s ≡ version_in u) × (last_in s ≡ last_in u)
  on_same on = ((version_is s r.version 1 on.version).0 ∙ k.version, sym on.last ∙ k.last)

  same_on : is_current s ≡ true → version_in s ≡ version_in u → last_in s ≡ last_in u → GoesOn r s
  same_on v p q = record {
    begun = k.begun;
    version = subst (λ n. Versioned s n 1) (p ∙ sym k.version) (current_is s v);
    last = k.last ∙ sym q;
  }

-- an empty roll: this section alone
module _ (r : Roll) (empty : r.begun ≡ false) (s : List ℕ) where
  first_come : (n : ℕ) → ComeFor r s n ↔ Come (s ∷ []) n
  first_come n = (to, from)
    where
      to : ComeFor r s n → Come (s ∷ []) n
      to (ComeFor.just e) = Come.just e
      to (ComeFor.earlier e v l x) = absurd (false≢true (sym empty ∙ e))

      from : Come (s ∷ []) n → ComeFor r s n
      from (Come.just e) = ComeFor.just e

  first-end : (k e : ℕ) → EndFor r s k e ↔ EndOf (s ∷ []) k e
  first-end k e = (to, from)
    where
      to : EndFor r s k e → EndOf (s ∷ []) k e
      to (EndFor.just p q) = EndOf.just p q
      to (EndFor.earlier on p q) = absurd (none_before empty on)

      from : EndOf (s ∷ []) k e → EndFor r s k e
      from (EndOf.just p q) = EndFor.just p q

  first_come_in : (n : ℕ) → ComeInFor r s n ↔ ComeInSegments (s ∷ []) n
  first_come_in n = (to, from)
    where
      to : ComeInFor r s n → ComeInSegments (s ∷ []) n
      to (ComeInFor.just p) = ComeInSegments.just p
      to (ComeInFor.earlier on p q) = absurd (none_before empty on)

      from : ComeInSegments (s ∷ []) n → ComeInFor r s n
      from (ComeInSegments.just p) = ComeInFor.just p

-- a roll that has taken u last
module _ {u : List ℕ} {t : List (List ℕ)} {r : Roll} (k : Kept u r) (s : List ℕ) (v : is_current s ≡ true) where
  next_come : ((n : ℕ) → has r.marks n ≡ true → Come (u ∷ t) n) → ((n : ℕ) → Come (u ∷ t) n → has r.marks n ≡ true)
      → (n : ℕ) → ComeFor r s n ↔ Come (s ∷ u ∷ t) n
  next_come sound whole n = (to, from)
    where
      to : ComeFor r s n → Come (s ∷ u ∷ t) n
      to (ComeFor.just e) = Come.just e
      to (ComeFor.earlier e w l x) =
          let same = on_same k (record { begun = e; version = w; last = l }) in
          Come.earlier same.0 same.1 (sound n x)

      from : Come (s ∷ u ∷ t) n → ComeFor r s n
      from (Come.just e) = ComeFor.just e
      from (Come.earlier p q c) =
          let on = same_on {s = s} k v p q in
          ComeFor.earlier on.begun on.version on.last (whole n c)

  module _ (ends : (j e : ℕ) → Known r.marks r.last j e ↔ EndOf (u ∷ t) j e)
      (comes : (n : ℕ) → CameIn r.marks r.last n ↔ ComeInSegments (u ∷ t) n) where
    next-end : (j e : ℕ) → EndFor r s j e ↔ EndOf (s ∷ u ∷ t) j e
    next-end j e = (to, from)
      where
        to : EndFor r s j e → EndOf (s ∷ u ∷ t) j e
        to (EndFor.just p q) = EndOf.just p q
        to (EndFor.earlier on p q) = let same = on_same k on in EndOf.earlier same.0 same.1 p ((ends j e).0 q)

        from : EndOf (s ∷ u ∷ t) j e → EndFor r s j e
        from (EndOf.just p q) = EndFor.just p q
        from (EndOf.earlier a b p q) = EndFor.earlier (same_on {s = s} k v a b) p ((ends j e).1 q)

    next_come_in : (n : ℕ) → ComeInFor r s n ↔ ComeInSegments (s ∷ u ∷ t) n
    next_come_in n = (to, from)
      where
        to : ComeInFor r s n → ComeInSegments (s ∷ u ∷ t) n
        to (ComeInFor.just p) = ComeInSegments.just p
        to (ComeInFor.earlier on p q) =
            let same = on_same k on in
            ComeInSegments.earlier same.0 same.1 (λ x. (ends (n / 8) (segment_end_in s)).0 (q x)) ((comes n).0 p)

        from : ComeInSegments (s ∷ u ∷ t) n → ComeInFor r s n
        from (ComeInSegments.just p) = ComeInFor.just p
        from (ComeInSegments.earlier a b q p) =
            ComeInFor.earlier (same_on {s = s} k v a b) ((comes n).1 p) (λ x. (ends (n / 8) (segment_end_in s)).1 (q x))

-- ---- the roll after a section that is taken

both : {A B C : Type 0} → A ↔ B → B ↔ C → A ↔ C
both x y = (λ a. y.0 (x.0 a), λ c. x.1 (y.1 c))

-- of a table that is no schedule, and of a schedule
module _ (r : Roll) (s : List ℕ) (t : List (List ℕ)) (b : Bytes s) (v : is_current s ≡ true) (kept : Kept s (roll_after r s))
    (w : r.begun ≡ true → Whole r.marks) where
  agrees_plain : (Schedule (get_or s 0 0) → ⊥) → ((n : ℕ) → ComeFor r s n ↔ Come (s ∷ t) n) → Agrees (s ∷ t) (roll_after r s)
  agrees_plain plain same =
      let marks = after_marks r s b (no_schedule (get_or s 0 0) plain) w v in
      Agrees.begun kept plain (λ n h. (same n).0 ((marks n).0 h)) (λ n c. (marks n).1 ((same n).1 c))

  agrees_in_segments : Schedule (get_or s 0 0) → end_unfit s ≡ false → ((k e : ℕ) → EndFor r s k e ↔ EndOf (s ∷ t) k e)
      → ((n : ℕ) → ComeInFor r s n ↔ ComeInSegments (s ∷ t) n) → Agrees (s ∷ t) (roll_after r s)
  agrees_in_segments is fit ends comes =
      Agrees.in_segments kept is (λ k e. both (after_ends r s b is fit w v k e) (ends k e))
      (λ n. both (after_comes r s b is fit w v n) (comes n))

pub schedule? : (s : List ℕ) → Schedule (get_or s 0 0) ⊎ (Schedule (get_or s 0 0) → ⊥)
schedule? s = go (is_schedule (get_or s 0 0)) refl
  where
    go : (a : Bool) → is_schedule (get_or s 0 0) ≡ a → Schedule (get_or s 0 0) ⊎ (Schedule (get_or s 0 0) → ⊥)
    go true e = inl ((schedule_ids (get_or s 0 0)).0 e)
    go false e = inr (λ x. false≢true (sym e ∙ (schedule_ids (get_or s 0 0)).1 x))

after_agrees : {t : List (List ℕ)} {r : Roll} → Agrees t r → (s : List ℕ) → Bytes s → belongs t s ≡ true → is_current s ≡ true
    → end_unfit s ≡ false → Agrees (s ∷ t) (roll_after r s)
after_agrees (Agrees.empty {r} e) s b h v f =
    let kept = kept_first r e s b in
    let w : r.begun ≡ true → Whole r.marks = λ x. absurd (false≢true (sym e ∙ x)) in
    ⊎_elim (λ is. agrees_in_segments r s [] b v kept w is f (first-end r e s) (first_come_in r e s))
    (λ plain. agrees_plain r s [] b v kept w plain (first_come r e s)) (schedule? s)
after_agrees (Agrees.begun {s = u} {t} {r} k plain sound whole) s b h v f =
    let i = same_ids_same (sub_table_of u) (sub_table_of s) h in
    agrees_plain r s (u ∷ t) b v (kept_after k s b i) (λ _. k.whole) (λ x. plain (subst Schedule (sym (table_same u s i)) x))
    (next_come k s v sound whole)
after_agrees (Agrees.in_segments {s = u} {t} {r} k is ends comes) s b h v f =
    let i = same_ids_same (sub_table_of u) (sub_table_of s) h in
    agrees_in_segments r s (u ∷ t) b v (kept_after k s b i) (λ _. k.whole) (subst Schedule (table_same u s i) is) f
    (next-end k s v ends comes) (next_come_in k s v ends comes)

-- the roll compares with what it has taken
another_kept : {u : List ℕ} {r : Roll} → Kept u r → (s : List ℕ) → another r s ≡ not (same_ids (sub_table_of u) (sub_table_of s))
unfolding another
another_kept {u} k s = rw k.begun (ap (λ i. not (same_ids i (sub_table_of s))) (ap compared k.ids ∙ compared_as_it_stands u))

another_agrees : {t : List (List ℕ)} {r : Roll} → Agrees t r → (s : List ℕ) → another r s ≡ not (belongs t s)
unfolding another
another_agrees (Agrees.empty e) s = rw e
another_agrees (Agrees.begun k plain sound whole) s = another_kept k s
another_agrees (Agrees.in_segments k is ends comes) s = another_kept k s

-- the kept table is that of the last section taken
kept_table : {u : List ℕ} {r : Roll} → Kept u r → r.sub_table.table_id ≡ get_or u 0 0
kept_table {u} k = ap (λ (x : SubTable). x.table_id) k.ids ∙ (own_sub_table u).table

agrees_answers : {t : List (List ℕ)} {r : Roll} → Agrees t r → Answered t (asked r)
unfolding asked answered smallest_missing
agrees_answers (Agrees.empty e) = rw e nothing
agrees_answers (Agrees.begun {s} {t} {r} k plain sound whole) =
    rw (k.begun, kept_table k, no_schedule (get_or s 0 0) plain)
    (some plain (subst (λ (n : ℕ). Answers (Come (s ∷ t)) n (smallest (has r.marks) (r.last + 1) 0)) k.last
    (smallest_answers (has r.marks) (Come (s ∷ t)) sound whole r.last)))
agrees_answers (Agrees.in_segments {s} {t} {r} k is ends comes) =
    rw (k.begun, kept_table k, (schedule_ids (get_or s 0 0)).1 is)
    (Answered.in_segments is
    (subst (λ (n : ℕ). AnswersInSegments (EndOf (s ∷ t)) (ComeInSegments (s ∷ t)) n (smallest_in_segments r.marks r.last)) k.last
    (answers_along ends comes (smallest_in_segments_lem r.marks r.last))))

-- one section more, and the roll after it
next : {t : List (List ℕ)} {r : Roll} → Agrees t r → (s : List ℕ) → Bytes s
    → Next t r s (taking r s) × ((unrefused t s ≡ true → Agrees (s ∷ t) (taking r s).roll))
next {t} {r} g s b = go (taken_or_refused r s t (another_agrees g s))
  where
    go : ((unrefused t s ≡ true)
        × ((belongs t s ≡ true) × ((is_current s ≡ true) × ((end_unfit s ≡ false) × (taking r s ≡ answering (roll_after r s))))))
        ⊎ ((unrefused t s ≡ false) × Refuses t r s)
        → Next t r s (taking r s) × ((unrefused t s ≡ true → Agrees (s ∷ t) (taking r s).roll))
    go (inl (p, (h, (v, (f, e))))) =
        let a = after_agrees g s b h v f in (
          took p (subst (λ (o : Outcome). Answered (s ∷ t) o.says) (sym e) (agrees_answers a)),
          λ _. subst (λ (o : Outcome). Agrees (s ∷ t) o.roll) (sym e) a,
        )
    go (inr (p, y)) = (unchanged p y.number y.place y.first y.same, λ q. absurd (false≢true (sym p ∙ q)))

run_agrees : {given : List (List ℕ)} {r : Roll} → Run Promised given r → Agrees (taken_of given) r
unfolding taken_of
run_agrees (start r e) = Agrees.empty e
run_agrees (step {given} {r} x s b o is) =
    let g = run_agrees x in
    subst (λ (o : Outcome). Agrees (taken_of (s ∷ given)) o.roll) (sym is) (go g (next g s b).0 (next g s b).1)
  where
    go : Agrees (taken_of given) r → Next (taken_of given) r s (taking r s)
        → (unrefused (taken_of given) s ≡ true → Agrees (s ∷ taken_of given) (taking r s).roll)
        → Agrees (taken_of (s ∷ given)) (taking r s).roll
    go g (took p w) a = rw p (a p)
    go g (unchanged p k j f same) a = rw p (subst (λ (o : Outcome). Agrees (taken_of given) o.roll) (sym same) g)

pub marks_are : MarksAre Promised
marks_are given r x = run_agrees x

pub each_fares : EachFares Promised
each_fares given r x s b o is = subst (Next (taken_of given) r s) (sym is) (next (marks_are given r x) s b).0

pub answers_are : AnswersAre Promised PromisedAsked
answers_are given r x a is = subst (Answered (taken_of given)) (sym is) (agrees_answers (marks_are given r x))

-- where a schedule's section was taken last, the answer goes by segments
scheduled : {s : List ℕ} {t : List (List ℕ)} {x : Says} → Schedule (get_or s 0 0) → Answered (s ∷ t) x
    → AnswersInSegments (EndOf (s ∷ t)) (ComeInSegments (s ∷ t)) (last_in s) x
scheduled is (some plain a) = absurd (plain is)
scheduled is (Answered.in_segments i a) = a

pub complete_exactly_if : CompleteExactlyIf Promised PromisedAsked
complete_exactly_if given r x y is s t e schedule =
    complete_exactly (scheduled schedule (subst (λ l. Answered l y) e (answers_are given r x y is)))

pub missing_exactly_if : MissingExactlyIf Promised PromisedAsked
missing_exactly_if given r x y is s t e schedule n =
    missing_exactly (scheduled schedule (subst (λ l. Answered l y) e (answers_are given r x y is))) n

-- what an answer of those says
pub complete_all : {come : ℕ → Type 0} {last : ℕ} → Answers come last complete → (n : ℕ) → n ≤ last → come n
complete_all (all h) = h

pub all_complete : {come : ℕ → Type 0} {last : ℕ} {x : Says} → Answers come last x → ((n : ℕ) → n ≤ last → come n)
    → x ≡ complete
all_complete (all h) f = refl
all_complete (least n l not_come below) f = absurd (not_come (f n l))

pub answers_once : {come : ℕ → Type 0} {last : ℕ} {x y : Says} → Answers come last x → Answers come last y → x ≡ y
answers_once (all h) y = sym (all_complete y h)
answers_once (least n l p q) (all h) = absurd (p (h n l))
answers_once (least n l p q) (least m k u v) = go (ltb n m) (ltb m n) refl refl
  where
    go : (a b : Bool) → ltb n m ≡ a → ltb m n ≡ b → missing n ≡ missing m
    go true b e f = absurd (p (v n (ltb-true n m e)))
    go false true e f = absurd (u (q m (ltb-true m n f)))
    go false false e f =
        let x = ltb-false n m e in
        let y = ltb-false m n f in
        let same : n ≡ m = omega arith in
        ap missing same

-- the premises can be met: any sections can be given to an empty roll, one after the other
pub runs : (r : Roll) → r.begun ≡ false → {given : List (List ℕ)} → AllBytes given → (q : Roll) × Run Promised given q
runs r e none = (r, start r e)
runs r e (more s b g) = let x = runs r e g in ((taking x.0 s).roll, step x.1 s b (taking x.0 s) refl)
