-- A whole walk: it "gives each descriptor in turn, then the end; where none can be read at its place it gives 9 with that place and stays."
use Prim.Native.Nat.{ℕ, zero, suc, ◌+◌, ◌<◌, ◌≤◌}
use mathlib.Core.Path.{◌≡◌, refl, ap, ◌∙◌, sym, subst}
use mathlib.Core.List.{List, [], map, append-nil}
use native.Mathlib.Omega.{arith}
use lib.ListN.{length, get_or, drop, length-drop}
use lib.Seq.{length-take-le}
use Rattle.loops.specs.Descriptors.{Placed, descriptors, Gives, descriptor, the_end, refusing, step_at, place_after}
use Rattle.loops.specs.Walking.{walked_to, given, lastly, nth, Standing, Walks, none, one}
use Rattle.loops.specs.Grammar.{Descriptors}
use Rattle.loops.specs.Grammar.{DescriptorFault}
use Rattle.loops.proofs.Loops.{View, ending, cut, whole, view, by_step, by-step}
use Rattle.loops.proofs.Standing.{in_loop}
use Rattle.loops.proofs.InLoop.{read_whole, read_fault}

-- what a step gives is what the reading has there first
first_given : (l : List ℕ) (a : ℕ) (g : Gives) → View l a g → nth (by_step l a g) 0 ≡ g
first_given l a g (ending e) = refl
first_given l a g (cut h i) = refl
first_given l a g (whole h) =
    let n : ℕ = get_or l (a + 1) 0 in
    ap (descriptor (get_or l a 0) (a + 2)) (length-take-le n (drop (a + 2) l) (simp length-drop (omega arith)))

-- THE WHOLE WALK, from any place in the loop
pub walk_gives : (l : List ℕ) (n a : ℕ) → a ≤ length l → step_at l (walked_to l a n) ≡ nth (descriptors a (drop a l)) n
unfolding walked_to
walk_gives l zero a h = sym (ap (λ t. nth t 0) (by-step l a h) ∙ first_given l a (step_at l a) (view l a))
walk_gives l (suc n) a h =
    go (λ b i. walk_gives l n b i) (step_at l a) refl (view l a) ∙ sym (ap (λ t. nth t (suc n)) (by-step l a h))
  where
    go : ((b : ℕ) → b ≤ length l → step_at l (walked_to l b n) ≡ nth (descriptors b (drop b l)) n) → (g : Gives) →
        step_at l a ≡ g → View l a g
        → step_at l (walked_to l (place_after a g) n) ≡ nth (by_step l a g) (suc n)
    go ih g q (ending e) = ih a h ∙ ap (λ t. nth t n) (by-step l a h ∙ ap (by_step l a) q)
    go ih g q (cut e i) = ih a h ∙ ap (λ t. nth t n) (by-step l a h ∙ ap (by_step l a) q)
    go ih g q (whole i) = ih (a + 2 + get_or l (a + 1) 0) i

-- a loop of whole descriptors: each in turn, then the end for ever
pub whole_walk : (l : List ℕ) (ds : List Placed) → Descriptors 0 l ds → (n : ℕ) → step_at l (walked_to l 0 n) ≡
    get_or (map given ds) n the_end
whole_walk l ds d n = walk_gives l n 0 (omega arith) ∙ ap (λ t. nth t n) (read_whole d)

-- a loop with a fault: each descriptor before it in turn, then for ever 9 with its place
pub cut_walk : (l : List ℕ) (q : ℕ) → DescriptorFault 0 l q → (n : ℕ)
    → step_at l (walked_to l 0 n) ≡ get_or (map given (descriptors 0 l).items) n (refusing 9 q)
cut_walk l q f n = walk_gives l n 0 (omega arith) ∙ ap (λ v. get_or (map given (descriptors 0 l).items) n (lastly v)) (read_fault f)

-- each descriptor is that part of the loop's bytes
pub walk_stands : (l : List ℕ) (ds : List Placed) → Descriptors 0 l ds → Standing l ds
walk_stands l ds d = in_loop l d (record { front = []; back = []; whole = sym (append-nil l); place = refl })

stays_in : (l : List ℕ) (a : ℕ) → a ≤ length l → place_after a (step_at l a) ≤ length l
stays_in l a h = go (step_at l a) (view l a)
  where
    go : (g : Gives) → View l a g → place_after a g ≤ length l
    go g (ending e) = h
    go g (cut e i) = h
    go g (whole i) = i

-- their answers are the descriptors of the reading, one a call, and then for ever its end
answers_from : (l : List ℕ) {a c : ℕ} {gs : List Gives} {outs : List (List ℕ)} → a ≤ length l → Walks l a gs outs c
    → (k : ℕ) → k < length gs
    → get_or gs k the_end ≡ nth (descriptors a (drop a l)) k
unfolding walked_to
answers_from l h (none a) k i = absurd (omega arith)
answers_from l {a} h (one s o w) zero i = s.gives ∙ walk_gives l 0 a h
answers_from l {a} h (one {b = b} {gs = gs} s o w) (suc k) i =
    let f : b ≤ length l = subst (λ n. n ≤ length l) (sym s.moves) (stays_in l a h) in
    answers_from l f w k (omega arith)
    ∙ sym (walk_gives l k b f)
    ∙ ap (λ n. step_at l (walked_to l n k)) s.moves
    ∙ walk_gives l (suc k) a h

pub walk_answers : (l : List ℕ) {c : ℕ} {gs : List Gives} {outs : List (List ℕ)} → Walks l 0 gs outs c → (k : ℕ)
    → k < length gs → get_or gs k the_end ≡ nth (descriptors 0 l) k
walk_answers l w k i = answers_from l (omega arith) w k i
