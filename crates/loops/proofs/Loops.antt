-- How the reading of a loop goes, by what stands at its front, and by what a step says of a place.
use Prim.Native.Nat.{ℕ, suc, ◌+◌, ◌<◌, ◌≤◌}
use mathlib.Core.Path.{◌≡◌, ap, ◌∙◌, sym}
use mathlib.Core.List.{List, [], ◌∷◌}
use native.Mathlib.Omega.{arith}
use borrow.Author.Tests.{eq-eqb, ne_eqb, le-leb, lt-leb, leb-true, leb-false, eqb-true, eqb-false}
use lib.ListN.{length, get_or, take, drop, length-drop, drop_of_length-le}
use lib.Seq.{drop-drop, drop-cons}
use native.Mathlib.Decide.{dec_le}
use lib.Dec.{leb, eqb}
use Rattle.wire.specs.Trail.{on, Trail, answer, ended, before, onward}
use Rattle.wire.proofs.IfLaws.{if-case}
use Rattle.wire.proofs.TrailLaws.{trail_by}
use Rattle.wire.proofs.PartLaws.{two_front}
use Rattle.std.specs.Prelude.{Some, Ok}
use Rattle.verdict.specs.Verdict.{Said, accepted, refused}
use Rattle.loops.specs.Descriptors.{Placed, placed, Rest, rest, first_of, descriptors, Gives, descriptor, the_end, refusing, step_at, told_step, Step}
use Rattle.loops.specs.declared.walk.Body.{Body}

-- what is left behind a descriptor is shorter
falls_from : (p : ℕ) (l : List ℕ) (a : Placed) (t : Rest) → first_of p l ≡ on a t → length t.bytes < length l
falls_from p [] a t e = let z : ◌≡◌ {A = ℕ} 0 1 = cc in absurd (omega arith)
falls_from p (x ∷ []) a t e = let z : ◌≡◌ {A = ℕ} 0 1 = cc in absurd (omega arith)
falls_from p (x ∷ n ∷ l) a t e =
    if-case (λ r. r ≡ on a t → length t.bytes < suc (suc (length l))) (leb n (length l))
    (λ h q.
    let r : rest (p + 2 + n) (drop n l) ≡ t = cc in
    omega (arith, ap (λ (r : Rest). length r.bytes) r, length-drop n l))
    (λ h q. let z : ◌≡◌ {A = ℕ} 0 1 = cc in absurd (omega arith)) e

falls : (s t : Rest) (a : Placed) → first_of s.place s.bytes ≡ on a t → length t.bytes < length s.bytes
falls s t a e = falls_from s.place s.bytes a t e

pub descriptors_by : (p : ℕ) (l : List ℕ) → descriptors p l ≡ onward (λ r. descriptors r.place r.bytes) (first_of p l)
unfolding descriptors
descriptors_by p l = trail_by _ (refused 9 0) _ falls (rest p l)

pub descriptors_past : (p t n : ℕ) (l : List ℕ) → length l < n → descriptors p (t ∷ n ∷ l) ≡ ended (refused 9 p)
descriptors_past p t n l h = descriptors_by p (t ∷ n ∷ l) ∙ rw (lt-leb n (length l) h)

pub descriptors_on : (p t n : ℕ) (l : List ℕ) → n ≤ length l
    → descriptors p (t ∷ n ∷ l) ≡ before (placed p t (take n l)) (descriptors (p + 2 + n) (drop n l))
descriptors_on p t n l h = descriptors_by p (t ∷ n ∷ l) ∙ rw (le-leb n (length l) h)

pub at-end : (l : List ℕ) (p : ℕ) → length l ≤ p → descriptors p (drop p l) ≡ ended accepted
at-end l p h = ap (descriptors p) (drop_of_length-le l {i = p} h) ∙ descriptors_by p []

-- a step, by its tests
module _ (l : List ℕ) (a : ℕ) where
  pub step_end : a ≡ length l → step_at l a ≡ the_end
  unfolding step_at
  step_end h = rw (eq-eqb a (length l) h)

  pub step_cut : (a ≡ length l → ⊥) → length l < a + 2 + get_or l (a + 1) 0 → step_at l a ≡ refusing 9 a
  unfolding step_at
  step_cut h g = rw (ne_eqb a (length l) h, lt-leb (a + 2 + get_or l (a + 1) 0) (length l) g)

  pub step_whole : a + 2 + get_or l (a + 1) 0 ≤ length l → step_at l a ≡ descriptor (get_or l a 0) (a + 2) (get_or l (a + 1) 0)
  unfolding step_at
  step_whole g =
      let h : a ≡ length l → ⊥ = λ e. omega arith in
      rw (ne_eqb a (length l) h, le-leb (a + 2 + get_or l (a + 1) 0) (length l) g)

-- what a step says, and what it tells of the place
pub data View (l : List ℕ) (a : ℕ) : Gives → Type 0 where
  ending : a ≡ length l → View l a the_end
  cut : (a ≡ length l → ⊥) → length l < a + 2 + get_or l (a + 1) 0 → View l a (refusing 9 a)
  whole : a + 2 + get_or l (a + 1) 0 ≤ length l → View l a (descriptor (get_or l a 0) (a + 2) (get_or l (a + 1) 0))

pub view : (l : List ℕ) (a : ℕ) → View l a (step_at l a)
unfolding step_at
view l a =
    if-case (View l a) (eqb a (length l))
    (λ h. ending (eqb-true _ _ h))
    (λ h. if-case (View l a) (leb (a + 2 + get_or l (a + 1) 0) (length l)) (λ g. whole (leb-true _ _ g))
    (λ g. cut (eqb-false _ _ h) (leb-false _ _ g)))

-- a descriptor's successor stands behind it, and not behind the loop's end
pub step_on : (l : List ℕ) (a t b n : ℕ) → step_at l a ≡ descriptor t b n → (a < b + n) × (b + n ≤ length l) × (b ≡ a + 2)
step_on l a t b n = go (step_at l a) (view l a)
  where
    go : (g : Gives) → View l a g → g ≡ descriptor t b n → (a < b + n) × (b + n ≤ length l) × (b ≡ a + 2)
    go g (ending h) e = let z : ◌≡◌ {A = ℕ} 0 1 = cc in omega arith
    go g (cut h i) e = let z : ◌≡◌ {A = ℕ} 0 1 = cc in omega arith
    go g (whole h) e =
        let p : a + 2 ≡ b = cc in
        let q : get_or l (a + 1) 0 ≡ n = cc in
        omega arith

-- the reading of a loop from a place on, by what a step says of the place
abbrev pub by_step : List ℕ → ℕ → Gives → Trail Placed Said
by_step l a (descriptor t b n) = before (placed a t (take n (drop b l))) (descriptors (b + n) (drop (b + n) l))
by_step l a the_end = ended accepted
by_step l a (refusing k p) = ended (refused k p)

pub by-step : (l : List ℕ) (a : ℕ) → a ≤ length l → descriptors a (drop a l) ≡ by_step l a (step_at l a)
by-step l a f = go (step_at l a) (view l a)
  where
    n : ℕ
    n = get_or l (a + 1) 0

    two : a + 2 + n ≤ length l → descriptors a (drop a l) ≡ by_step l a (descriptor (get_or l a 0) (a + 2) n)
    two h =
        ap (descriptors a) (two_front l a (omega arith))
        ∙ descriptors_on a (get_or l a 0) n (drop (a + 2) l) (simp length-drop (omega arith))
        ∙ ap (λ x. before (placed a (get_or l a 0) (take n (drop (a + 2) l))) (descriptors (a + 2 + n) x)) (drop-drop n (a + 2) l)

    short : Dec (a + 2 ≤ length l) → (a ≡ length l → ⊥) → length l < a + 2 + n → descriptors a (drop a l) ≡ ended (refused 9 a)
    short (yes i) h g =
        ap (descriptors a) (two_front l a i)
        ∙ descriptors_past a (get_or l a 0) n (drop (a + 2) l) (simp length-drop (omega arith))
    short (no i) h g =
        ap (descriptors a) (drop-cons l a 0 (omega arith) ∙ ap (λ x. get_or l a 0 ∷ x) (drop_of_length-le l {i = suc a} (omega arith)))
        ∙ descriptors_by a (get_or l a 0 ∷ [])

    go : (g : Gives) → View l a g → descriptors a (drop a l) ≡ by_step l a g
    go g (ending h) = at-end l a (omega arith)
    go g (cut h i) = short (dec_le (a + 2) (length l)) h i
    go g (whole h) = two h

-- the same, by the answer of the code's step
pub by_told : (l : List ℕ) (a : ℕ) (v : Step) → told_step v ≡ step_at l a → a ≤ length l
    → descriptors a (drop a l) ≡ by_step l a (told_step v)
by_told l a v e h = by-step l a h ∙ ap (by_step l a) (sym e)

pub body_on : (l : List ℕ) (a : ℕ) (d : Body) → told_step (Ok (Some d)) ≡ step_at l a
    → (a < d.start + d.size) × (d.start + d.size ≤ length l) × (d.start ≡ a + 2)
body_on l a d e = step_on l a d.tag d.start d.size (sym e)

-- how it ends
pub loop_ends : (l : List ℕ) (a : ℕ) → a ≤ length l → (descriptors a (drop a l)).ends ≡ (by_step l a (step_at l a)).ends
loop_ends l a h = ap answer (by-step l a h)

pub past_ends : (l : List ℕ) (a : ℕ) → length l ≤ a → (descriptors a (drop a l)).ends ≡ accepted
past_ends l a h = ap answer (at-end l a h)
