-- How a search goes on, and where it ends.
use Prim.Native.Nat.{ℕ, ◌+◌, ◌≤◌}
use mathlib.Core.Path.{◌≡◌, refl, ap, ◌∙◌, sym}
use mathlib.Core.List.{List, [], ◌∷◌}
use mathlib.Core.Bool.{Bool, true, false}
use native.Mathlib.Omega.{arith}
use native.Mathlib.Decide.{dec_le}
use borrow.Author.Tests.{eq-eqb, ne_eqb}
use lib.ListN.{length, get_or, take, drop, length-drop}
use lib.Seq.{length-take-le}
use lib.Dec.{eqb}
use Rattle.std.specs.Prelude.{if◌then◌else◌}
use Rattle.wire.specs.Trail.{Trail, answer}
use Rattle.wire.proofs.IfLaws.{true_not_false}
use Rattle.verdict.specs.Verdict.{Said, accepted, refused, is_accepted}
use Rattle.loops.specs.Descriptors.{Placed, descriptors, Gives, descriptor, the_end, refusing, step_at, told_step}
use Rattle.section.specs.Entries.{entries}
use Rattle.std.specs.Prelude.{Option, Some, None, Ok, is_some}
use Rattle.loops.specs.declared.walk.Body.{Body}
use Rattle.search.specs.Search as search
use Rattle.search.specs.Search.{Outcome, hit, none, hit_in, hit_from, told_hit}
use Rattle.search.specs.declared.Hit.{Hit}
use Rattle.loops.proofs.Loops.{View, ending, cut, whole, view, step_cut, at-end, by_step, by-step}
use Rattle.section.proofs.EntryLoops.{At, at_short, at_past, at_fault, at_on}

-- one loop, from a place on, by what a step says of the place
abbrev pub by_hit : List ℕ → ℕ → ℕ → Outcome → Gives → Outcome
by_hit l tag k later (descriptor t b n) = if eqb t tag then hit k b n else hit_in tag k (descriptors (b + n) (drop (b + n) l)).items later
by_hit l tag k later the_end = later
by_hit l tag k later (refusing q p) = later

module _ (l : List ℕ) (a tag k : ℕ) (later : Outcome) where
  pub hit_step : hit_in tag k (descriptors a (drop a l)).items later ≡ by_hit l tag k later (step_at l a)
  hit_step = go (dec_le a (length l))
    where
      hit_by : Trail Placed Said → Outcome
      hit_by t = hit_in tag k t.items later

      stepped : (g : Gives) → View l a g → hit_by (by_step l a g) ≡ by_hit l tag k later g
      stepped g (ending h) = refl
      stepped g (cut h i) = refl
      stepped g (whole h) =
          let n : ℕ = get_or l (a + 1) 0 in
          let f : length (take n (drop (a + 2) l)) ≡ n = length-take-le n (drop (a + 2) l) (simp length-drop (omega arith)) in
          rw f

      go : Dec (a ≤ length l) → hit_by (descriptors a (drop a l)) ≡ by_hit l tag k later (step_at l a)
      go (yes h) = ap hit_by (by-step l a h) ∙ stepped (step_at l a) (view l a)
      go (no h) =
          ap hit_by (at-end l a (omega arith))
          ∙ sym (ap (by_hit l tag k later) (step_cut l a (λ e. omega arith) (omega arith)))

-- where a descriptor stands
module _ (l : List ℕ) (a tag k : ℕ) (later : Outcome) (d : Body) (e : told_step (Ok (Some d)) ≡ step_at l a) where
  by_its_step : hit_in tag k (descriptors a (drop a l)).items later ≡ by_hit l tag k later (descriptor d.tag d.start d.size)
  by_its_step = hit_step l a tag k later ∙ ap (by_hit l tag k later) (sym e)

  pub hit_here : d.tag ≡ tag → hit_in tag k (descriptors a (drop a l)).items later ≡ hit k d.start d.size
  hit_here same = by_its_step ∙ rw (eq-eqb d.tag tag same)

  pub hit_on : (d.tag ≡ tag → ⊥)
      → hit_in tag k (descriptors a (drop a l)).items later
      ≡ hit_in tag k (descriptors (d.start + d.size) (drop (d.start + d.size) l)).items later
  hit_on other = by_its_step ∙ rw (ne_eqb d.tag tag other)

-- an entry among entries in which there is no fault
pub record Entry (l : List ℕ) (fixed p n : ℕ) : Type 0 where
  pub inside : p + fixed + n ≤ length l
  pub onward : (entries fixed (p + fixed + n) (drop (p + fixed + n) l)).ends ≡ accepted
  pub first : (entries fixed p (drop p l)).items
      ≡ (descriptors (p + fixed) (drop (p + fixed) (take (p + fixed + n) l))).items
      ∷ (entries fixed (p + fixed + n) (drop (p + fixed + n) l)).items

no_fault : (k p : ℕ) → refused k p ≡ accepted → ⊥
no_fault k p e = let z : ◌≡◌ {A = ℕ} 0 1 = cc in omega arith

pub entry_here : {l : List ℕ} {fixed p n : ℕ} → At l fixed p n → (entries fixed p (drop p l)).ends ≡ accepted → Entry l fixed p n
entry_here {l} {fixed} {p} {n} at ok = headed (dec_le (p + fixed) (length l))
  where
    looped : (h : p + fixed ≤ length l) (g : p + fixed + n ≤ length l) (b : Bool)
        → is_accepted (descriptors (p + fixed) (drop (p + fixed) (take (p + fixed + n) l))).ends ≡ b → Entry l fixed p n
    looped h g true q =
        let f = at_on at h g q in
        record { inside = g; onward = sym (ap answer f) ∙ ok; first = ap (λ (t : Trail (List Placed) Said). t.items) f }
    looped h g false q =
        let f = at_fault at h g q in
        let x : (descriptors (p + fixed) (drop (p + fixed) (take (p + fixed + n) l))).ends ≡ accepted = sym (ap answer f) ∙ ok in
        absurd (true_not_false (sym (ap is_accepted x) ∙ q))

    sized : p + fixed ≤ length l → Dec (p + fixed + n ≤ length l) → Entry l fixed p n
    sized h (yes g) = looped h g _ refl
    sized h (no g) = absurd (no_fault _ _ (sym (ap answer (at_past at h (omega arith))) ∙ ok))

    headed : Dec (p + fixed ≤ length l) → Entry l fixed p n
    headed (yes h) = sized h (dec_le (p + fixed + n) (length l))
    headed (no h) = absurd (no_fault _ _ (sym (ap answer (at_short at (omega arith))) ∙ ok))

-- what the first loop gives, or else what the later ones give
abbrev pub or_else : Outcome → Outcome → Outcome
or_else none later = later
or_else (hit k b n) later = hit k b n
or_else (search.refusing k p) later = search.refusing k p

pub found_leads : (o : Option Hit) (later : Outcome) → is_some o ≡ true → or_else (told_hit o) later ≡ told_hit o
found_leads None later e = absurd (true_not_false (sym e))
found_leads (Some h) later e = refl

pub none_follows : (o : Option Hit) (later : Outcome) → is_some o ≡ false → or_else (told_hit o) later ≡ later
none_follows None later e = refl
none_follows (Some h) later e = absurd (true_not_false e)

pub or_none : (o : Option Hit) → or_else (told_hit o) none ≡ told_hit o
or_none None = refl
or_none (Some h) = refl

pub hit_or : (tag k : ℕ) (ds : List Placed) (later : Outcome) → hit_in tag k ds later ≡ or_else (hit_in tag k ds none) later
hit_or tag k [] later = refl
hit_or tag k (d ∷ ds) later = go (eqb d.tag tag) refl (hit_or tag k ds later)
  where
    go : (b : Bool) → eqb d.tag tag ≡ b → hit_in tag k ds later ≡ or_else (hit_in tag k ds none) later
        → hit_in tag k (d ∷ ds) later ≡ or_else (hit_in tag k (d ∷ ds) none) later
    go true e ih = rw e
    go false e ih = rw e ih

-- what is found in the first loop leads, and the later ones follow
pub hit_lead : (tag : ℕ) (loops rest : List (List Placed)) (ds : List Placed) (x : Outcome) → loops ≡ ds ∷ rest → x ≡ hit_in tag 0 ds none
    → hit_from tag 0 loops ≡ or_else x (hit_from tag 1 rest)
hit_lead tag loops rest ds x e q =
    ap (hit_from tag 0) e ∙ hit_or tag 0 ds (hit_from tag 1 rest) ∙ ap (λ (y : Outcome). or_else y (hit_from tag 1 rest)) (sym q)
