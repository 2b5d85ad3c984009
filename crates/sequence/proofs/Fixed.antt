-- The statements about one section leave a roll no choice.
use Prim.Native.Nat.{ℕ}
use mathlib.Core.Path.{◌≡◌, refl, sym, ◌∙◌, subst}
use mathlib.Core.Bool.{Bool, true, false, false≢true}
use mathlib.Core.Logic.{◌↔◌, ⊎_elim}
use mathlib.Core.List.{List}
use lib.ListN.{get_or}
use Rattle.roll.specs.Marks.{has, Whole}
use Rattle.roll.specs.Roll.{Outcome, taking}
use Rattle.head.specs.Stands.{Versioned, OfSubTable}
use Rattle.sequence.specs.Step.{Schedule, Known, CameIn, AfterTaking, AfterTakingInSegments, Roller}
use Rattle.sequence.specs.Alike.{SameBut, Alike, Fixed}
use Rattle.head.proofs.HeadLaws.{version_is, ids_compared}
use Rattle.sequence.proofs.TableIds.{no_schedule}
use Rattle.sequence.proofs.SegmentAnswers.{in_segments_once}
use Rattle.sequence.proofs.Exactly.{Went, first_applies, took, went, first_refuses, took_none, taken_by, taken_in_segments, after_whole}
use Rattle.sequence.proofs.WholeSequence.{answers_once, schedule?}
use Rattle.sequence.proofs.AboveLast.{alike_itself}
use Rattle.roll.specs.declared.Roll.{Roll}

same_test : (a b : Bool) {C : Type 0} → (a ≡ true) ↔ C → (b ≡ true) ↔ C → a ≡ b
same_test true true x y = refl
same_test true false x y = absurd (false≢true (y.1 (x.0 refl)))
same_test false true x y = absurd (false≢true (x.1 (y.0 refl)))
same_test false false x y = refl

-- two rolls that keep what one section has
same_but : (s : List ℕ) (q q' : Roll) → q.begun ≡ true → q'.begun ≡ true → OfSubTable q.sub_table s
    → OfSubTable q'.sub_table s → Versioned s q.version 1 → Versioned s q'.version 1 → q.last ≡ get_or s 7 0
    → q'.last ≡ get_or s 7 0 → Whole q.marks → Whole q'.marks → SameBut q q'
same_but s q q' e e' i i' v v' l l' w w' = record {
  begun = (e, e');
  ids = ids_compared q.sub_table s i ∙ sym (ids_compared q'.sub_table s i');
  version = sym (version_is s q.version 1 v).0 ∙ (version_is s q'.version 1 v').0;
  last = l ∙ sym l';
  whole = (w, w');
}

module _ (r : Roll) (s : List ℕ) (o o' : Outcome) (w : Whole o.roll.marks) (w' : Whole o'.roll.marks) where
  taken_alike : (Schedule (get_or s 0 0) → ⊥) → AfterTaking r s o → AfterTaking r s o'
      → (o.says ≡ o'.says) × Alike o.roll o'.roll
  taken_alike plain x y = (
    answers_once x.says y.says,
    Alike.begun
        (same_but s o.roll o'.roll x.begun y.begun x.ids y.ids x.version y.version x.last y.last w w')
        (λ is. plain (subst Schedule x.ids.table is))
        (λ n h. same_test (has o.roll.marks n) (has o'.roll.marks n) (x.marks n) (y.marks n)),
  )

  taken_alike_in_segments : Schedule (get_or s 0 0) → AfterTakingInSegments r s o → AfterTakingInSegments r s o'
      → (o.says ≡ o'.says) × Alike o.roll o'.roll
  taken_alike_in_segments schedule x y =
      let last = y.last ∙ sym x.last in (
        in_segments_once x.says y.says,
        Alike.in_segments
            (same_but s o.roll o'.roll x.begun y.begun x.ids y.ids x.version y.version x.last y.last w w')
            (subst Schedule (sym x.ids.table) schedule)
            (λ k e. (
              λ z. subst (λ l. Known o'.roll.marks l k e) last ((y.ends k e).1 ((x.ends k e).0 z)),
              λ z. (x.ends k e).1 ((y.ends k e).0 (subst (λ l. Known o'.roll.marks l k e) (sym last) z)),
            ))
            (λ n _. (
              λ z. subst (λ l. CameIn o'.roll.marks l n) last ((y.marks n).1 ((x.marks n).0 z)),
              λ z. (x.marks n).1 ((y.marks n).0 (subst (λ l. CameIn o'.roll.marks l n) (sym last) z)),
            )),
      )

pub fixed : (take : Roller) → Fixed take
fixed take refuses keeps else else-in-segments r s o is b w w' = go (went r s)
  where
    go : Went r s → (o.says ≡ (taking r s).says) × Alike o.roll (taking r s).roll
    go (first_applies {k} {p} f) =
        let e = first_refuses r s f in
        rw (keeps r s o is k p f, e) ((refuses r s o is k p).1 f, alike_itself r (λ _. w))
    go (took u v g t) =
        let none = took_none r s t in
        let whole = subst (λ (x : Outcome). Whole x.roll.marks) (sym t) (after_whole r s w) in
        ⊎_elim
        (λ schedule.
        taken_alike_in_segments r s o (taking r s) w' whole schedule (else-in-segments r s o is b w none schedule)
        (subst (AfterTakingInSegments r s) (sym t) (taken_in_segments r s b schedule g w u v)))
        (λ plain.
        taken_alike r s o (taking r s) w' whole plain (else r s o is b w none plain)
        (subst (AfterTaking r s) (sym t) (taken_by r s b (no_schedule (get_or s 0 0) plain) w u v)))
        (schedule? s)
