-- Two rolls that differ only in marks above the last number, in ends that do not count, or in what else means nothing,
-- behave alike, whatever sections follow.
use Prim.Native.Nat.{ℕ, zero, suc, ◌+◌, ◌/◌, ◌<◌, ◌≤◌}
use mathlib.Core.Path.{◌≡◌, refl, sym, ap, ap₂, ◌∙◌, subst}
use mathlib.Core.Bool.{Bool, true, false, false≢true}
use mathlib.Core.Logic.{◌⊎◌, inl, inr, ◌↔◌, ⊎_elim}
use mathlib.Core.List.{List, ◌∷◌}
use native.Mathlib.Omega.{arith}
use lib.Dec.{eqb}
use lib.ListN.{get_or}
use borrow.Author.Tests.{eqb-true, eqb-false}
use Rattle.std.specs.Prelude.{if◌then◌else◌}
use Rattle.wire.specs.Bytes.{Bytes}
use Rattle.roll.specs.Answer.{Says, missing}
use Rattle.roll.specs.Marks.{has, unmarked, marked, Whole, smallest, smallest_missing}
use Rattle.roll.specs.Segments.{is_schedule, marked_until, smallest_in_segments}
use Rattle.head.specs.Head.{number_in, is_current}
use Rattle.roll.specs.Roll.{another, starts_afresh, segment_end_in, end_unfit, marked_by, begun_with, continued, roll_after, answered, asked, answering, refusal, taking}
use Rattle.sequence.specs.Promise.{Promised}
use Rattle.sequence.specs.Sequence.{AllBytes, none, more}
use Rattle.sequence.specs.Step.{Schedule, Known, CameIn, LeftOut}
use Rattle.sequence.specs.Alike.{SameBut, Alike, answers_to, StaysAlike}
use Rattle.sequence.proofs.MarkLaws.{unmarked_whole, marked_has, marked_keeps}
use Rattle.sequence.proofs.TableIds.{schedule_ids, no_schedule, fits}
use Rattle.sequence.proofs.SegmentAnswers.{known_once, smallest_in_segments_lem, answers_alike, in_segments_once}
use Rattle.sequence.proofs.InSegments.{known_after, came_after}
use Rattle.sequence.proofs.Exactly.{same_numbers, same_sub_table, marked_by_whole}
use Rattle.sequence.proofs.Steps.{both_taken_or_refused}
use Rattle.head.proofs.HeadLaws.{compared_table}
use Rattle.head.specs.declared.SubTable.{SubTable}
use Rattle.roll.specs.declared.Roll.{Roll}
use Rattle.roll.specs.declared.Marks.{Marks}

-- the smallest that is missing looks at no mark above the last number
smallest_alike : (came come : ℕ → Bool) (last k n : ℕ) → n + k ≡ last + 1 → ((j : ℕ) → j ≤ last → came j ≡ come j)
    → smallest came k n ≡ smallest come k n
unfolding smallest
smallest_alike came come last zero n e h = refl
smallest_alike came come last (suc k) n e h =
    rw (h n (omega arith))
    (ap (λ (x : Says). if come n then x else missing n) (smallest_alike came come last k (n + 1) (omega arith) h))

-- two rolls that differ in their marks at most are of one table
one_table : {r q : Roll} → SameBut r q → q.sub_table.table_id ≡ r.sub_table.table_id
one_table {r} {q} x =
    sym (compared_table q.sub_table) ∙ ap (λ (k : SubTable). k.table_id) (sym x.ids) ∙ compared_table r.sub_table

-- the answer of one that is begun, by whether it is of a schedule
asked_by : (r : Roll) (b : Bool) → r.begun ≡ true → is_schedule r.sub_table.table_id ≡ b
    → asked r ≡ answered b r.marks r.last
unfolding asked
asked_by r b e i = rw (e, i)

pub asked_alike : {r q : Roll} → Alike r q → asked r ≡ asked q
unfolding asked answered smallest_missing
asked_alike (Alike.empty e f) = rw (e, f)
asked_alike (Alike.begun {r} {q} x plain h) =
    let is = no_schedule r.sub_table.table_id plain in
    asked_by r false x.begun.0 is
    ∙ smallest_alike (has r.marks) (has q.marks) r.last (r.last + 1) 0 (omega arith) h
    ∙ ap (λ (n : ℕ). smallest (has q.marks) (n + 1) 0) x.last
    ∙ sym (asked_by q false x.begun.1 (ap is_schedule (one_table x) ∙ is))
asked_alike (Alike.in_segments {r} {q} x schedule ends comes) =
    let is = (schedule_ids r.sub_table.table_id).1 schedule in
    asked_by r true x.begun.0 is
    ∙ in_segments_once (answers_alike r.marks q.marks r.last ends comes (smallest_in_segments_lem r.marks r.last))
    (smallest_in_segments_lem q.marks r.last)
    ∙ ap (smallest_in_segments q.marks) x.last
    ∙ sym (asked_by q true x.begun.1 (ap is_schedule (one_table x) ∙ is))

another_same : {r q : Roll} → SameBut r q → (s : List ℕ) → another r s ≡ another q s
unfolding another
another_same x s = rw (x.begun.0, x.begun.1, x.ids)

another_alike : {r q : Roll} → Alike r q → (s : List ℕ) → another r s ≡ another q s
unfolding another
another_alike (Alike.empty e f) s = rw (e, f)
another_alike (Alike.begun x plain h) s = another_same x s
another_alike (Alike.in_segments x schedule ends comes) s = another_same x s

starts_same : {r q : Roll} → SameBut r q → (s : List ℕ) → starts_afresh r s ≡ starts_afresh q s
unfolding starts_afresh
starts_same x s = rw (x.begun.0, x.begun.1, x.version, x.last)

starts_alike : {r q : Roll} → Alike r q → (s : List ℕ) → starts_afresh r s ≡ starts_afresh q s
unfolding starts_afresh
starts_alike (Alike.empty e f) s = rw (e, f)
starts_alike (Alike.begun x plain h) s = starts_same x s
starts_alike (Alike.in_segments x schedule ends comes) s = starts_same x s

-- ---- a roll is like itself

pub alike_itself : (r : Roll) → (r.begun ≡ true → Whole r.marks) → Alike r r
alike_itself r w = go r.begun (is_schedule r.sub_table.table_id) refl refl
  where
    same : r.begun ≡ true → SameBut r r
    same e = record { begun = (e, e); ids = refl; version = refl; last = refl; whole = (w e, w e) }

    go : (b c : Bool) → r.begun ≡ b → is_schedule r.sub_table.table_id ≡ c → Alike r r
    go true true e i =
        Alike.in_segments (same e) ((schedule_ids r.sub_table.table_id).0 i) (λ k f. (λ x. x, λ x. x)) (λ n l. (λ x. x, λ x. x))
    go true false e i =
        Alike.begun (same e) (λ x. false≢true (sym i ∙ (schedule_ids r.sub_table.table_id).1 x)) (λ n h. refl)
    go false c e i = Alike.empty e e

begun_alike : (s : List ℕ) → Bytes s → Alike (begun_with s) (begun_with s)
unfolding begun_with
begun_alike s b = alike_itself (begun_with s) (λ _. marked_by_whole unmarked s unmarked_whole)

-- ---- the same section comes

marked_alike : (m o : Marks) (k last : ℕ) → Whole m → Whole o → k < 256 → ((n : ℕ) → n ≤ last → has m n ≡ has o n)
    → (n : ℕ) → n ≤ last → has (marked m k) n ≡ has (marked o k) n
marked_alike m o k last w x b h n l = go (eqb n k) refl
  where
    go : (c : Bool) → eqb n k ≡ c → has (marked m k) n ≡ has (marked o k) n
    go true e =
        let same = eqb-true n k e in
        ap (has (marked m k)) same ∙ marked_has m k w b ∙ sym (marked_has o k x b) ∙ ap (has (marked o k)) (sym same)
    go false e = marked_keeps m k w b n (eqb-false n k e) ∙ h n l ∙ sym (marked_keeps o k x b n (eqb-false n k e))

-- of a schedule, in a segment with an end that fits
module _ (m o : Marks) (last n e : ℕ) (w : Whole m) (x : Whole o) (small : n < 256) (upto : e ≤ last) (fit : e / 8 ≡ n / 8)
    (ends : (k f : ℕ) → Known m last k f ↔ Known o last k f)
    (comes : (i : ℕ) → (LeftOut (Known m last) i → ⊥) → CameIn m last i ↔ CameIn o last i) where
  abbrev m' : Marks
  m' = marked_until m n e

  abbrev o' : Marks
  o' = marked_until o n e

  by_m : (k f : ℕ) → Known m' last k f ↔ (((n / 8 ≡ k) × (e ≡ f)) ⊎ ((n / 8 ≡ k → ⊥) × Known m last k f))
  by_m = known_after m last n e w small upto fit

  by_o : (k f : ℕ) → Known o' last k f ↔ (((n / 8 ≡ k) × (e ≡ f)) ⊎ ((n / 8 ≡ k → ⊥) × Known o last k f))
  by_o = known_after o last n e x small upto fit

  until_ends : (k f : ℕ) → Known m' last k f ↔ Known o' last k f
  until_ends k f = (
    λ y. (by_o k f).1 (⊎_elim (λ z. inl z) (λ z. inr (z.0, (ends k f).0 z.1)) ((by_m k f).0 y)),
    λ y. (by_m k f).1 (⊎_elim (λ z. inl z) (λ z. inr (z.0, (ends k f).1 z.1)) ((by_o k f).0 y)),
  )

  -- what is not left out now was not left out before, where the end stays
  not_before : (i : ℕ) → (LeftOut (Known m' last) i → ⊥) → (n / 8 ≡ i / 8 → Known m last (i / 8) e) → LeftOut (Known m last) i → ⊥
  not_before i now stays (f, known, above) = go (eqb (n / 8) (i / 8)) refl
    where
      go : (b : Bool) → eqb (n / 8) (i / 8) ≡ b → ⊥
      go true p =
          let same = eqb-true (n / 8) (i / 8) p in
          let once = known_once (stays same) known in
          now (f, (by_m (i / 8) f).1 (inl (same, once)), above)
      go false p = now (f, (by_m (i / 8) f).1 (inr (eqb-false (n / 8) (i / 8) p, known)), above)

  until_comes : (i : ℕ) → (LeftOut (Known m' last) i → ⊥) → CameIn m' last i ↔ CameIn o' last i
  until_comes i now = (
    λ y. (came_after o last n e x small upto fit i).1 (⊎_elim (λ z. inl z) forth ((came_after m last n e w small upto fit i).0 y)),
    λ y. (came_after m last n e w small upto fit i).1 (⊎_elim (λ z. inl z) back ((came_after o last n e x small upto fit i).0 y)),
  )
    where
      forth : CameIn m last i × (n / 8 ≡ i / 8 → Known m last (i / 8) e)
          → (n ≡ i) ⊎ (CameIn o last i × (n / 8 ≡ i / 8 → Known o last (i / 8) e))
      forth (c, stays) = inr ((comes i (not_before i now stays)).0 c, λ s. (ends (i / 8) e).0 (stays s))

      back : CameIn o last i × (n / 8 ≡ i / 8 → Known o last (i / 8) e)
          → (n ≡ i) ⊎ (CameIn m last i × (n / 8 ≡ i / 8 → Known m last (i / 8) e))
      back (c, stays) =
          let stays' : n / 8 ≡ i / 8 → Known m last (i / 8) e = λ s. (ends (i / 8) e).1 (stays s) in
          inr ((comes i (not_before i now stays')).1 c, stays')

same_on : {r q : Roll} → SameBut r q → (s : List ℕ) → Bytes s → SameBut (continued r s) (continued q s)
unfolding continued
same_on {r} {q} x s b = record {
  begun = x.begun;
  ids = x.ids;
  version = x.version;
  last = x.last;
  whole = (marked_by_whole r.marks s x.whole.0, marked_by_whole q.marks s x.whole.1);
}

-- the section is of the table that is kept
of_table : {r q : Roll} → SameBut r q → (s : List ℕ) → Bytes s → another q s ≡ false → get_or s 0 0 ≡ r.sub_table.table_id
of_table {r} {q} x s b u = sym (same_sub_table q s b x.begun.1 u).table ∙ one_table x

on_alike : {r q : Roll} → Alike r q → (s : List ℕ) → Bytes s → another q s ≡ false → end_unfit s ≡ false → starts_afresh q s ≡ false
    → Alike (continued r s) (continued q s)
unfolding continued starts_afresh marked_by
on_alike (Alike.empty e f) s b u g n = absurd (false≢true (sym n ∙ rw f))
on_alike (Alike.begun {r} {q} x plain h) s b u g n =
    let is : is_schedule (get_or s 0 0) ≡ false =
    ap is_schedule (of_table x s b u) ∙ no_schedule r.sub_table.table_id plain in
    Alike.begun (same_on x s b) plain
    (rw is (marked_alike r.marks q.marks (number_in s) r.last x.whole.0 x.whole.1 (b 6) h))
on_alike (Alike.in_segments {r} {q} x schedule ends comes) s b u g n =
    let table = of_table x s b u in
    let of-s : Schedule (get_or s 0 0) = subst Schedule (sym table) schedule in
    let is = (schedule_ids (get_or s 0 0)).1 of-s in
    let f = fits s of-s g in
    let upto : segment_end_in s ≤ r.last = subst (λ l. segment_end_in s ≤ l) (sym (same_numbers q s b n).2 ∙ sym x.last) f.1 in
    Alike.in_segments (same_on x s b) schedule
    (rw is
    (until_ends r.marks q.marks r.last (number_in s) (segment_end_in s) x.whole.0 x.whole.1 (b 6) upto
    f.2 ends comes))
    (rw is
    (until_comes r.marks q.marks r.last (number_in s) (segment_end_in s) x.whole.0 x.whole.1 (b 6)
    upto f.2 ends comes))

after_alike : {r q : Roll} → Alike r q → (s : List ℕ) → Bytes s → another q s ≡ false → end_unfit s ≡ false
    → Alike (roll_after r s) (roll_after q s)
unfolding roll_after
after_alike {r} {q} g s b u f = rw (starts_alike g s) (go (starts_afresh q s) refl)
  where
    go : (a : Bool) → starts_afresh q s ≡ a
        → Alike (if a then begun_with s else continued r s) (if a then begun_with s else continued q s)
    go true n = begun_alike s b
    go false n = on_alike g s b u f n

pub taking_alike : {r q : Roll} → Alike r q → (s : List ℕ) → Bytes s
    → ((taking r s).says ≡ (taking q s).says) × Alike (taking r s).roll (taking q s).roll
taking_alike {r} {q} g s b = go (both_taken_or_refused r s q (another_alike g s))
  where
    go : ((another q s ≡ false) × ((is_current s ≡ true) × ((end_unfit s ≡ false)
        × ((taking r s ≡ answering (roll_after r s)) × (taking q s ≡ answering (roll_after q s))))))
        ⊎ ((k : ℕ) × (p : ℕ) × ((taking r s ≡ refusal r k p) × (taking q s ≡ refusal q k p)))
        → ((taking r s).says ≡ (taking q s).says) × Alike (taking r s).roll (taking q s).roll
    go (inl (u, (v, (f, (e, h))))) = let a = after_alike g s b u f in rw (e, h) (asked_alike a, a)
    go (inr (k, p, (e, f))) = rw (e, f) (refl, g)

pub stays_alike : StaysAlike Promised
stays_alike r q g s b o o' e f = rw (e, f) (taking_alike g s b)

-- "two rolls that differ only there behave alike": the same answers to whatever sections follow
pub alike_answers : {r q : Roll} → Alike r q → {l : List (List ℕ)} → AllBytes l → answers_to r l ≡ answers_to q l
alike_answers g none = refl
alike_answers {r = r} {q = q} g (more s b x) =
    let y = taking_alike g s b in
    ap₂ ◌∷◌ y.0 (alike_answers {r = (taking r s).roll} {q = (taking q s).roll} y.1 x)
