-- A walk over one loop, call by call: "gives each descriptor in turn, then the end; where none can be read at its place it gives 9 with that place and
-- stays."; and what is handed out on the way: "A descriptor handed out is that part of the caller's bytes."
use Rattle.std.specs.Prelude.{ℕ, zero, suc, ◌+◌, ◌≡◌, List, [], ◌∷◌, ◌++◌, map, length, get_or}
use Rattle.wire.specs.Parts.{Part}
use Rattle.wire.specs.Trail.{Trail}
use Rattle.verdict.specs.Verdict.{Said, accepted, refused}
use Rattle.loops.specs.Descriptors.{Placed, Gives, descriptor, the_end, refusing, told_step, step_at, place_after, Steps, descriptor_of, Step}

-- the place after n steps from a place
unfoldable pub walked_to : List ℕ → ℕ → ℕ → ℕ
walked_to l a zero = a
walked_to l a (suc n) = walked_to l (place_after a (step_at l a)) n

-- what a walk gives for a descriptor of the reading
abbrev pub given : Placed → Gives
given d = descriptor d.tag (d.place + 2) (length d.body)

-- what it gives for the end of the reading
abbrev pub lastly : Said → Gives
lastly accepted = the_end
lastly (refused k p) = refusing k p

-- the answer after n steps: the descriptors of the reading, one a step, and then for ever its end
abbrev pub nth : Trail Placed Said → ℕ → Gives
nth t n = get_or (map given t.items) n (lastly t.ends)

-- a descriptor's bytes, from its tag on
abbrev pub bytes_of : Placed → List ℕ
bytes_of d = d.tag ∷ length d.body ∷ d.body

-- each descriptor stands at its place in s
pub data Standing (s : List ℕ) : List Placed → Type 0 where
  none : Standing s []
  more : (d : Placed) {ds : List Placed} → Part s d.place (bytes_of d) → Standing s ds → Standing s (d ∷ ds)

-- out is a whole descriptor with this tag and a body of this size, and it is the part of l at the place at; the walk then stands behind it
pub record Whole (l : List ℕ) (at tag size : ℕ) (out : List ℕ) (next : ℕ) : Type 0 where
  pub body : List ℕ
  pub layout : out ≡ tag ∷ size ∷ body
  pub sized : length body ≡ size
  pub part : Part l at out
  pub behind : next ≡ at + length out

-- what is handed out at the place at, by what the walk gives there, and where the walk then stands; nothing where it gives no descriptor
abbrev pub HandsOut : List ℕ → ℕ → Gives → List ℕ → ℕ → Type 0
HandsOut l at (descriptor tag start size) out next = Whole l at tag size out next
HandsOut l at the_end out next = (out ≡ []) × (next ≡ at)
HandsOut l at (refusing k p) out next = (out ≡ []) × (next ≡ at)

-- calls of `next`, one after the other, on a walk that nothing else alters, with what `descriptor` hands out for each answer:
-- the place before, answers and parts in turn, the place after
pub data Walks (l : List ℕ) : ℕ → List Gives → List (List ℕ) → ℕ → Type 0 where
  none : (a : ℕ) → Walks l a [] [] a
  one : {a b c : ℕ} {s : Step} {out : List ℕ} {gs : List Gives} {outs : List (List ℕ)} → Steps l a s b → out ≡ descriptor_of l (told_step s)
      → Walks l b gs outs c → Walks l a (told_step s ∷ gs) (out ∷ outs) c

-- lists put end to end
abbrev pub joined : List (List ℕ) → List ℕ
joined [] = []
joined (l ∷ ls) = l ++ joined ls
