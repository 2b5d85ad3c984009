-- Descriptors, one after the other: "descriptors (tag, length, body)".
use Rattle.std.specs.Prelude.{ℕ, ◌+◌, ◌-◌, ◌≡◌, List, [], ◌∷◌, length, get_or, take, drop, leb, eqb, if◌then◌else◌}
use Rattle.wire.specs.Trail.{Pace, on, stop, Trail, trail}
use Rattle.verdict.specs.Verdict.{Said, accepted, refused}
use Rattle.std.specs.Prelude.{Option, Some, None, Result, Ok, Err}
use Rattle.loops.specs.declared.walk.Body.{Body}
use Rattle.loops.specs.declared.walk.Cut.{Cut}

-- a descriptor where it stands: the place of its tag, the tag, the body
pub record Placed : Type 0 where
  pub place : ℕ
  pub tag : ℕ
  pub body : List ℕ

-- the three put together
abbrev pub placed : ℕ → ℕ → List ℕ → Placed
placed p t b = record { place = p; tag = t; body = b }

-- what is left to read, and the place of its first byte
pub record Rest : Type 0 where
  pub place : ℕ
  pub bytes : List ℕ

-- the two put together
abbrev pub rest : ℕ → List ℕ → Rest
rest p l = record { place = p; bytes = l }

-- 9: "a descriptor reaches past its loop, or one byte is left; place of its tag"
abbrev pub first_of : ℕ → List ℕ → Pace Rest Placed Said
first_of p [] = stop accepted
first_of p (t ∷ []) = stop (refused 9 p)
first_of p (t ∷ n ∷ l) = if leb n (length l) then on (placed p t (take n l)) (rest (p + 2 + n) (drop n l)) else stop (refused 9 p)

-- the descriptors of a loop, in reading order, and whether they fill it to the last byte; p is the place of its first byte
unfoldable pub descriptors : ℕ → List ℕ → Trail Placed Said
descriptors p l = trail (λ r. first_of r.place r.bytes) (refused 9 0) (λ r. length r.bytes) (rest p l)

-- what a walk gives at one place: a descriptor, by its tag, the place of its body and the body's size; the end; or a refusal's number and place
pub data Gives : Type 0 where
  descriptor : ℕ → ℕ → ℕ → Gives
  the_end : Gives
  refusing : ℕ → ℕ → Gives

-- what a walk answers at one place: a descriptor, the end, or where none can be read
abbrev pub Step : Type 0
Step = Result (Option Body) Cut

-- document 01's number and values for every answer
abbrev pub told_step : Step → Gives
told_step (Ok (Some d)) = descriptor d.tag d.start d.size
told_step (Ok None) = the_end
told_step (Err cut) = refusing 9 cut.0

-- "gives each descriptor in turn, then the end; where none can be read at its place it gives 9 with that place"
unfoldable pub step_at : List ℕ → ℕ → Gives
step_at l at =
    if eqb at (length l) then the_end
    else if leb (at + 2 + get_or l (at + 1) 0) (length l) then descriptor (get_or l at 0) (at + 2) (get_or l (at + 1) 0)
    else refusing 9 at

-- the place of the next descriptor; "and stays" at the end and where none can be read
abbrev pub place_after : ℕ → Gives → ℕ
place_after at (descriptor t b n) = b + n
place_after at the_end = at
place_after at (refusing k p) = at

-- a step from a place: what it gives, and where the walk then stands
pub record Steps (l : List ℕ) (at : ℕ) (step : Step) (next : ℕ) : Type 0 where
  pub gives : told_step step ≡ step_at l at
  pub moves : next ≡ place_after at (step_at l at)

-- the bytes of a descriptor, from its tag on
abbrev pub descriptor_of : List ℕ → Gives → List ℕ
descriptor_of l (descriptor t b n) = take (n + 2) (drop (b - 2) l)
descriptor_of l the_end = []
descriptor_of l (refusing k p) = []
