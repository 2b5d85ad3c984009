-- The laws of marks: all that is known of them above.
use Prim.Native.Nat.{ℕ, zero, suc, ◌/◌, ◌%◌, ◌<◌}
use mathlib.Core.Path.{◌≡◌, refl, sym, ap, ◌∙◌}
use mathlib.Core.Bool.{Bool, true, false}
use mathlib.Core.Logic.{◌⊎◌, inl, inr, ⊎_elim}
use mathlib.Core.List.{[]}
use native.Mathlib.Omega.{arith}
use lib.Dec.{eqb}
use borrow.Author.Tests.{eqb-true, eqb-false, eq-eqb, ne_eqb}
use lib.ListN.{length, get_or, set, replicate, length-set, length-replicate, get_or-replicate}
use lib.Seq.{get_or-set_same, get_or-set_other}
use Rattle.roll.specs.Marks.{blank, segment_at, has, unmarked, with_mark, marked, Whole}
use Rattle.roll.specs.Segments.{ending_by, ending_at, marked_until}
use Rattle.roll.proofs.Ends.{at_once, never_known}
use Rattle.roll.specs.declared.Marks.{Marks}
use Rattle.roll.specs.declared.Segment.{Segment}
use Rattle.std.specs.Prelude.{Option, None, Some}

none_of : (k n : ℕ) → get_or (replicate k false) n false ≡ false
none_of zero n = refl
none_of (suc k) zero = refl
none_of (suc k) (suc n) = none_of k n

-- nothing of a blank segment has come
blank_none : (e : Option ℕ) (i : ℕ) → get_or (blank e).came i false ≡ false
unfolding blank
blank_none e i = none_of 8 i

-- ---- no marks

unmarked_at : (k : ℕ) → k < 32 → segment_at unmarked k ≡ blank None
unfolding segment_at unmarked
unmarked_at k h = get_or-replicate 32 k (blank None) (record { end = None; came = [] }) h

pub unmarked-end : (k : ℕ) → (segment_at unmarked k).end ≡ None
unfolding segment_at unmarked blank
unmarked-end k = unknown_in 32 k
  where
    unknown_in : (n k : ℕ) → (get_or (replicate n (blank None)) k (record { end = None; came = [] })).end ≡ None
    unknown_in zero k = refl
    unknown_in (suc n) zero = refl
    unknown_in (suc n) (suc k) = unknown_in n k

pub unmarked_has_none : (n : ℕ) → has unmarked n ≡ false
unfolding has segment_at unmarked
unmarked_has_none n = none_in 32 (n / 8)
  where
    none_in : (m k : ℕ) → get_or (get_or (replicate m (blank None)) k (record { end = None; came = [] })).came (n % 8) false ≡ false
    none_in zero k = refl
    none_in (suc m) zero = blank_none None (n % 8)
    none_in (suc m) (suc k) = none_in m k

pub unmarked_whole : Whole unmarked
unfolding Whole unmarked blank
unmarked_whole = (length-replicate 32 (blank None), λ k h. ap (λ (s : Segment). length s.came) (unmarked_at k h))

-- ---- one segment put in the place of another

abbrev pub put : Marks → ℕ → Segment → Marks
put m k s = record { segments = set m.segments k s }

put_same : (m : Marks) (k : ℕ) (s : Segment) → Whole m → k < 32 → segment_at (put m k s) k ≡ s
unfolding segment_at Whole
put_same m k s w h = get_or-set_same m.segments k s (record { end = None; came = [] }) (omega (arith, w.0))

put_other : (m : Marks) (k j : ℕ) (s : Segment) → (j ≡ k → ⊥) → segment_at (put m k s) j ≡ segment_at m j
unfolding segment_at
put_other m k j s n = get_or-set_other m.segments k j s (record { end = None; came = [] }) n

pub put_whole : (m : Marks) (k : ℕ) (s : Segment) → Whole m → (k < 32 → length s.came ≡ 8) → Whole (put m k s)
unfolding Whole
put_whole m k s w l = (length-set m.segments k s ∙ w.0, each)
  where
    each : (j : ℕ) → j < 32 → length (segment_at (put m k s) j).came ≡ 8
    each j h = go (eqb j k) refl
      where
        go : (b : Bool) → eqb j k ≡ b → length (segment_at (put m k s) j).came ≡ 8
        go true e =
            let same = eqb-true j k e in
            ap (λ (i : ℕ). length (segment_at (put m k s) i).came) same
            ∙ ap (λ (x : Segment). length x.came) (put_same m k s w (omega arith)) ∙ l (omega arith)
        go false e = ap (λ (x : Segment). length x.came) (put_other m k j s (eqb-false j k e)) ∙ w.1 j h

-- ---- a segment with one mark more

with_mark_there : (s : Segment) (n : ℕ) → length s.came ≡ 8 → get_or (with_mark s n).came (n % 8) false ≡ true
unfolding with_mark
with_mark_there s n l = get_or-set_same s.came (n % 8) true false (omega arith)

with_mark_other : (s : Segment) (n i : ℕ) → (i % 8 ≡ n % 8 → ⊥) → get_or (with_mark s n).came (i % 8) false ≡ get_or s.came (i % 8) false
unfolding with_mark
with_mark_other s n i h = get_or-set_other s.came (n % 8) (i % 8) true false h

with-mark-end : (s : Segment) (n : ℕ) → (with_mark s n).end ≡ s.end
unfolding with_mark
with-mark-end s n = refl

-- marks of which one segment is put in the place of another, and has one mark more
module _ (m : Marks) (n : ℕ) (s : Segment) (w : Whole m) (l : length s.came ≡ 8) (small : n < 256) where
  abbrev after : Marks
  after = put m (n / 8) (with_mark s n)

  after_at : segment_at after (n / 8) ≡ with_mark s n
  after_at = put_same m (n / 8) (with_mark s n) w (omega arith)

  after-end : (segment_at after (n / 8)).end ≡ s.end
  after-end = ap (λ (x : Segment). x.end) after_at ∙ with-mark-end s n

  after_has : has after n ≡ true
  unfolding has
  after_has = ap (λ (x : Segment). get_or x.came (n % 8) false) after_at ∙ with_mark_there s n l

  after_beside : (i : ℕ) → i / 8 ≡ n / 8 → (i ≡ n → ⊥) → has after i ≡ get_or s.came (i % 8) false
  unfolding has
  after_beside i same other =
      let differ : i % 8 ≡ n % 8 → ⊥ = λ e. other (omega arith) in
      ap (λ (k : ℕ). get_or (segment_at after k).came (i % 8) false) same
      ∙ ap (λ (x : Segment). get_or x.came (i % 8) false) after_at ∙ with_mark_other s n i differ

-- elsewhere all is as it was
put_has : (m : Marks) (k i : ℕ) (s : Segment) → (i / 8 ≡ k → ⊥) → has (put m k s) i ≡ has m i
unfolding has
put_has m k i s h = ap (λ (x : Segment). get_or x.came (i % 8) false) (put_other m k (i / 8) s h)

-- ---- one number has come too, of tables other than schedules

segment_long : (m : Marks) (n : ℕ) → Whole m → n < 256 → length (segment_at m (n / 8)).came ≡ 8
unfolding Whole
segment_long m n w h = w.1 (n / 8) (omega arith)

module _ (m : Marks) (k : ℕ) (w : Whole m) (small : k < 256) where
  abbrev kept : Segment
  kept = segment_at m (k / 8)

  pub marked_has : has (marked m k) k ≡ true
  unfolding marked
  marked_has = after_has m k kept w (segment_long m k w small) small

  pub marked_keeps : (n : ℕ) → (n ≡ k → ⊥) → has (marked m k) n ≡ has m n
  unfolding marked has
  marked_keeps n h = go (eqb (n / 8) (k / 8)) refl
    where
      go : (b : Bool) → eqb (n / 8) (k / 8) ≡ b → has (marked m k) n ≡ has m n
      go true e =
          let same = eqb-true (n / 8) (k / 8) e in
          after_beside m k kept w (segment_long m k w small) small n same h
          ∙ ap (λ (i : ℕ). get_or (segment_at m i).came (n % 8) false) (sym same)
      go false e = put_has m (k / 8) n (with_mark kept k) (eqb-false (n / 8) (k / 8) e)

  -- what is had after a mark is set: that number, and what was had before
  pub marked_only : (n : ℕ) → has (marked m k) n ≡ true → (n ≡ k) ⊎ (has m n ≡ true)
  marked_only n h = go (eqb n k) refl
    where
      go : (b : Bool) → eqb n k ≡ b → (n ≡ k) ⊎ (has m n ≡ true)
      go true e = inl (eqb-true n k e)
      go false e = inr (sym (marked_keeps n (eqb-false n k e)) ∙ h)

  pub marked_more : (n : ℕ) → has m n ≡ true → has (marked m k) n ≡ true
  marked_more n h = go (eqb n k) refl
    where
      go : (b : Bool) → eqb n k ≡ b → has (marked m k) n ≡ true
      go true e = ap (has (marked m k)) (eqb-true n k e) ∙ marked_has
      go false e = marked_keeps n (eqb-false n k e) ∙ h

-- ---- of a schedule, in a segment with an end

blank-end : (e : Option ℕ) → (blank e).end ≡ e
unfolding blank
blank-end e = refl

blank_long : (e : Option ℕ) → length (blank e).came ≡ 8
unfolding blank
blank_long e = refl

-- the end stays: so does the segment
ending_same : (s : Segment) (e : ℕ) → s.end ≡ Some e → ending_at s e ≡ s
unfolding ending_by
ending_same s e h = rw (h, eq-eqb e e refl)

-- the end changes, or was not known: the segment is emptied
ending_new : (s : Segment) (e : ℕ) → (s.end ≡ Some e → ⊥) → ending_at s e ≡ blank (Some e)
unfolding ending_by
ending_new s e n = go s.end n
  where
    go : (x : Option ℕ) → (x ≡ Some e → ⊥) → ending_by x s e ≡ blank (Some e)
    go None n = refl
    go (Some f) n = rw (ne_eqb f e (λ same. n (ap Some same)))

-- one or the other
end_same? : (s : Segment) (e : ℕ) → (s.end ≡ Some e) ⊎ (s.end ≡ Some e → ⊥)
end_same? s e = go s.end
  where
    go : (x : Option ℕ) → (x ≡ Some e) ⊎ (x ≡ Some e → ⊥)
    go None = inr never_known
    go (Some f) = at (eqb f e) refl
      where
        at : (b : Bool) → eqb f e ≡ b → (Some f ≡ Some e) ⊎ (Some f ≡ Some e → ⊥)
        at true p = inl (ap Some (eqb-true f e p))
        at false p = inr (λ h. eqb-false f e p (at_once h))

module _ (m : Marks) (n e : ℕ) (w : Whole m) (small : n < 256) where
  abbrev told : Segment
  told = ending_at (segment_at m (n / 8)) e

  told_long : length told.came ≡ 8
  told_long = ⊎_elim
      (λ h. ap (λ (s : Segment). length s.came) (ending_same (segment_at m (n / 8)) e h) ∙ segment_long m n w small)
      (λ h. ap (λ (s : Segment). length s.came) (ending_new (segment_at m (n / 8)) e h) ∙ blank_long (Some e))
      (end_same? (segment_at m (n / 8)) e)

  told-end : told.end ≡ Some e
  told-end = ⊎_elim
      (λ h. ap (λ (s : Segment). s.end) (ending_same (segment_at m (n / 8)) e h) ∙ h)
      (λ h. ap (λ (s : Segment). s.end) (ending_new (segment_at m (n / 8)) e h) ∙ blank-end (Some e))
      (end_same? (segment_at m (n / 8)) e)

  -- the segment has this end now, and this number of it has come
  pub until_end : (segment_at (marked_until m n e) (n / 8)).end ≡ Some e
  unfolding marked_until
  until_end = after-end m n told w told_long small ∙ told-end

  pub until_has : has (marked_until m n e) n ≡ true
  unfolding marked_until
  until_has = after_has m n told w told_long small

  -- the other segments are as they were
  pub until_elsewhere : (k : ℕ) → (k ≡ n / 8 → ⊥) → segment_at (marked_until m n e) k ≡ segment_at m k
  unfolding marked_until
  until_elsewhere k h = put_other m (n / 8) k (with_mark told n) h

  pub until_has_elsewhere : (i : ℕ) → (i / 8 ≡ n / 8 → ⊥) → has (marked_until m n e) i ≡ has m i
  unfolding marked_until
  until_has_elsewhere i h = put_has m (n / 8) i (with_mark told n) h

  -- "A segment end that changes within one version empties that segment", and one that stays keeps it
  pub until_kept : (segment_at m (n / 8)).end ≡ Some e → (i : ℕ) → i / 8 ≡ n / 8 → (i ≡ n → ⊥) → has (marked_until m n e) i ≡ has m i
  unfolding marked_until has
  until_kept h i same other =
      after_beside m n told w told_long small i same other
      ∙ ap (λ (s : Segment). get_or s.came (i % 8) false) (ending_same (segment_at m (n / 8)) e h)
      ∙ ap (λ (k : ℕ). get_or (segment_at m k).came (i % 8) false) (sym same)

  pub until_emptied : ((segment_at m (n / 8)).end ≡ Some e → ⊥) → (i : ℕ) → i / 8 ≡ n / 8 → (i ≡ n → ⊥)
      → has (marked_until m n e) i ≡ false
  unfolding marked_until
  until_emptied h i same other =
      after_beside m n told w told_long small i same other
      ∙ ap (λ (s : Segment). get_or s.came (i % 8) false) (ending_new (segment_at m (n / 8)) e h) ∙ blank_none (Some e) (i % 8)

pub end_same : (m : Marks) (k e : ℕ) → ((segment_at m k).end ≡ Some e) ⊎ ((segment_at m k).end ≡ Some e → ⊥)
end_same m k e = end_same? (segment_at m k) e
