-- What a section of a schedule does to ends and marks: of its own segment it tells the end, and empties it where that is
-- another; elsewhere all stays.
use Prim.Native.Nat.{ℕ, ◌/◌, ◌<◌, ◌≤◌}
use mathlib.Core.Path.{◌≡◌, refl, sym, ap, ◌∙◌, subst}
use mathlib.Core.Bool.{Bool, true, false, false≢true}
use mathlib.Core.Logic.{◌⊎◌, inl, inr, ◌↔◌, ⊎_elim}
use native.Mathlib.Omega.{arith}
use lib.Dec.{eqb}
use borrow.Author.Tests.{eqb-true, eqb-false}
use Rattle.roll.specs.Marks.{segment_at, unmarked, Whole}
use Rattle.roll.specs.Segments.{marked_until}
use Rattle.roll.proofs.Ends.{at_once, never_known}
use Rattle.sequence.specs.Step.{Known, CameIn}
use Rattle.sequence.proofs.MarkLaws.{unmarked-end, until_end, until_has, until_elsewhere, until_has_elsewhere, until_kept, until_emptied, end_same}
use Rattle.roll.specs.declared.Marks.{Marks}
use Rattle.std.specs.Prelude.{Some}

-- of no marks no end is known
pub none_known : (last k e : ℕ) → Known unmarked last k e → ⊥
none_known last k e x = never_known (sym (unmarked-end k) ∙ x.kept)

pub none_came : (last n : ℕ) → CameIn unmarked last n → ⊥
none_came last n x = none_known last (n / 8) x.end x.known

-- a number that comes in a segment with an end that fits it
module _ (m : Marks) (last n e : ℕ) (w : Whole m) (small : n < 256) (upto : e ≤ last) (fit : e / 8 ≡ n / 8) where
  abbrev after : Marks
  after = marked_until m n e

  told : Known after last (n / 8) e
  told = record { kept = until_end m n e w small; inside = (omega arith, omega arith); within = upto }

  known_elsewhere : (k f : ℕ) → (n / 8 ≡ k → ⊥) → Known after last k f ↔ Known m last k f
  known_elsewhere k f h =
      let same = until_elsewhere m n e w small k (λ x. h (sym x)) in (
        λ x. record { kept = ap (λ s. s.end) (sym same) ∙ x.kept; inside = x.inside; within = x.within },
        λ x. record { kept = ap (λ s. s.end) same ∙ x.kept; inside = x.inside; within = x.within },
      )

  pub known_after : (k f : ℕ)
      → Known after last k f ↔ (((n / 8 ≡ k) × (e ≡ f)) ⊎ ((n / 8 ≡ k → ⊥) × Known m last k f))
  known_after k f = (go (eqb (n / 8) k) refl, back)
    where
      go : (b : Bool) → eqb (n / 8) k ≡ b → Known after last k f → ((n / 8 ≡ k) × (e ≡ f)) ⊎ ((n / 8 ≡ k → ⊥) × Known m last k f)
      go true p x =
          let same = eqb-true (n / 8) k p in
          inl (same, at_once (sym (until_end m n e w small) ∙ ap (λ i. (segment_at after i).end) same ∙ x.kept))
      go false p x = let other = eqb-false (n / 8) k p in inr (other, (known_elsewhere k f other).0 x)

      back : ((n / 8 ≡ k) × (e ≡ f)) ⊎ ((n / 8 ≡ k → ⊥) × Known m last k f) → Known after last k f
      back (inl (same, is)) = subst (λ i. Known after last k i) is (subst (λ i. Known after last i e) same told)
      back (inr (other, x)) = (known_elsewhere k f other).1 x

  -- what has come after it
  abbrev Came : ℕ → Type 0
  Came i = (n ≡ i) ⊎ (CameIn m last i × (n / 8 ≡ i / 8 → Known m last (i / 8) e))

  came_forth : (i : ℕ) → CameIn after last i → Came i
  came_forth i x = go (eqb n i) (eqb (n / 8) (i / 8)) refl refl
    where
      kept_there : n / 8 ≡ i / 8 → ((segment_at m (n / 8)).end ≡ Some e) → (n ≡ i → ⊥) → Came i
      kept_there same h other =
          let known : Known m last (i / 8) e =
          record { kept = ap (λ k. (segment_at m k).end) (sym same) ∙ h; inside = (omega arith, omega arith); within = upto } in
          inr (
            record {
              end = e;
              known = known;
              mark = sym (until_kept m n e w small h i (sym same) (λ q. other (sym q))) ∙ x.mark;
            },
            λ _. known,
          )

      go : (a b : Bool) → eqb n i ≡ a → eqb (n / 8) (i / 8) ≡ b → Came i
      go true b p q = inl (eqb-true n i p)
      go false true p q =
          let same = eqb-true (n / 8) (i / 8) q in
          let other = eqb-false n i p in
          ⊎_elim
          (λ h. kept_there same h other)
          (λ h. absurd (false≢true (sym (until_emptied m n e w small h i (sym same) (λ q. other (sym q))) ∙ x.mark)))
          (end_same m (n / 8) e)
      go false false p q =
          let other = eqb-false (n / 8) (i / 8) q in
          inr (
            record {
              end = x.end;
              known = (known_elsewhere (i / 8) x.end other).0 x.known;
              mark = sym (until_has_elsewhere m n e w small i (λ q. other (sym q))) ∙ x.mark;
            },
            λ same. absurd (other same),
          )

  just_came : (i : ℕ) → n ≡ i → CameIn after last i
  just_came i is = subst (λ j. CameIn after last j) is (record { end = e; known = told; mark = until_has m n e w small })

  came_back : (i : ℕ) → Came i → CameIn after last i
  came_back i (inl is) = just_came i is
  came_back i (inr (x, unless)) = go (eqb n i) (eqb (n / 8) (i / 8)) refl refl
    where
      go : (a b : Bool) → eqb n i ≡ a → eqb (n / 8) (i / 8) ≡ b → CameIn after last i
      go true b p q = just_came i (eqb-true n i p)
      go false true p q =
          let same = eqb-true (n / 8) (i / 8) q in
          let other = eqb-false n i p in
          record {
            end = e;
            known = subst (λ k. Known after last k e) same told;
            mark =
                until_kept m n e w small (ap (λ k. (segment_at m k).end) same ∙ (unless same).kept) i (sym same) (λ q. other (sym q))
                ∙ x.mark;
          }
      go false false p q =
          let other = eqb-false (n / 8) (i / 8) q in
          record {
            end = x.end;
            known = (known_elsewhere (i / 8) x.end other).1 x.known;
            mark = until_has_elsewhere m n e w small i (λ q. other (sym q)) ∙ x.mark;
          }

  pub came_after : (i : ℕ) → CameIn after last i ↔ ((n ≡ i) ⊎ (CameIn m last i × (n / 8 ≡ i / 8 → Known m last (i / 8) e)))
  came_after i = (came_forth i, came_back i)
