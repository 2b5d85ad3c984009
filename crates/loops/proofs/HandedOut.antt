-- Demand 2, "A descriptor handed out is that part of the caller's bytes": of what `next`, `step_from` and `descriptor`
-- promise, from any place of any loop, also before a fault.
use Prim.Native.Nat.{ℕ, ◌+◌, ◌-◌, ◌≤◌}
use mathlib.Core.Path.{◌≡◌, refl, ap, subst, ◌∙◌}
use mathlib.Core.List.{List, ◌∷◌, ◌++◌}
use native.Mathlib.Omega.{arith}
use lib.ListN.{length, get_or, take, drop, length-drop, length-append}
use lib.Seq.{length-take-le}
use native.Mathlib.Numerals.{add-two}
use Rattle.wire.specs.Parts.{Part}
use Rattle.wire.proofs.PartLaws.{two_front, part-at, part_both}
use Rattle.loops.specs.Descriptors.{Gives, descriptor, the_end, refusing, step_at, place_after, told_step, Steps, descriptor_of, Step}
use Rattle.loops.specs.Walking.{HandsOut, Walks, none, one, joined}
use Rattle.loops.proofs.Loops.{View, ending, cut, whole, view}

two_taken : (x y n : ℕ) (l : List ℕ) → take (n + 2) (x ∷ y ∷ l) ≡ x ∷ y ∷ take n l
two_taken x y n l = rw add-two

-- what a step hands out, and where it leads
pub step_hands : (l : List ℕ) (a : ℕ) → HandsOut l a (step_at l a) (descriptor_of l (step_at l a)) (place_after a (step_at l a))
step_hands l a = go (step_at l a) (view l a)
  where
    n : ℕ
    n = get_or l (a + 1) 0

    long : a + 2 + n ≤ length l → length (take n (drop (a + 2) l)) ≡ n
    long h = length-take-le n (drop (a + 2) l) (simp length-drop (omega arith))

    front : a + 2 + n ≤ length l → take (n + 2) (drop a l) ≡ get_or l a 0 ∷ n ∷ take n (drop (a + 2) l)
    front h = ap (take (n + 2)) (two_front l a (omega arith)) ∙ two_taken (get_or l a 0) n n (drop (a + 2) l)

    go : (g : Gives) → View l a g → HandsOut l a g (descriptor_of l g) (place_after a g)
    go g (ending e) = (refl, refl)
    go g (cut e i) = (refl, refl)
    go g (whole h) =
        let k : a + 2 - 2 ≡ a = omega arith in
        rw k
        (record {
          body = take n (drop (a + 2) l);
          layout = front h;
          sized = long h;
          part = part-at l a (n + 2) (omega arith);
          behind = omega (arith, length-take-le (n + 2) (drop a l) (simp length-drop (omega arith)));
        })

-- A STEP of `next` or `step_from`, and what `descriptor` hands out for it
pub walk_hands : {l : List ℕ} {a b : ℕ} (s : Step) (out : List ℕ) → Steps l a s b → out ≡ descriptor_of l (told_step s)
    → HandsOut l a (told_step s) out b
walk_hands {l} {a} s out x o = rw (o, x.gives, x.moves) (step_hands l a)

-- a part ends in the list
part_ends : {l : List ℕ} {a : ℕ} (x : List ℕ) → Part l a x → a + length x ≤ length l
part_ends x p = omega (arith, p.place, ap length p.whole ∙ length-append p.front (x ++ p.back), length-append x p.back)

module _ (l : List ℕ) where
  -- all that was handed out from a place on is the part of the loop from there to the place c
  abbrev UpTo : ℕ → List ℕ → ℕ → Type 0
  UpTo a x c = Part l a x × (c ≡ a + length x)

  -- one step more in front
  onward : {a b c : ℕ} (g : Gives) (out x : List ℕ) → a ≤ length l → HandsOut l a g out b → (b ≤ length l → UpTo b x c)
      → UpTo a (out ++ x) c
  onward {c = c} the_end out x h (e, f) ih = rw e (rw f at (ih (rw f h)))
  onward {c = c} (refusing k p) out x h (e, f) ih = rw e (rw f at (ih (rw f h)))
  onward {a} {b} (descriptor t p n) out x h e ih =
      let i : b ≤ length l = omega (arith, e.behind, part_ends out e.part) in
      let r = ih i in
      (part_both out x e.part (subst (λ k. Part l k x) e.behind r.0), omega (arith, r.1, e.behind, length-append out x))

  -- A WHOLE WALK: what was handed out, put end to end, is the part of the loop from the place before to the place after
  pub hands_all_lem : {a c : ℕ} {gs : List Gives} {outs : List (List ℕ)} → a ≤ length l → Walks l a gs outs c
      → Part l a (joined outs) × (c ≡ a + length (joined outs))
  hands_all_lem h (none a) = (part-at l a 0 h, omega arith)
  hands_all_lem h (one {s = s} {out = out} {outs = outs} x o w) =
      onward (told_step s) out (joined outs) h (walk_hands s out x o) (λ i. hands_all_lem i w)
