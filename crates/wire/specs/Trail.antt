-- A loop as a definition. A pace gives an item and the next state, or the answer that ends the loop; a measure falls with each pace.
-- The trail is the list of the items, in order, and the answer.
use Rattle.std.specs.Prelude.{List, [], ◌∷◌, ℕ, zero, suc}

-- a pace: an item and the next state, or the answer
pub data Pace (S A R : Type 0) : Type 0 where
  on : A → S → Pace S A R
  stop : R → Pace S A R

-- the items, and the answer at the end
pub record Trail (A R : Type 0) : Type 0 where
  pub items : List A
  pub ends : R

-- the answer at the end, as a function
abbrev pub answer : {A R : Type 0} → Trail A R → R
answer t = t.ends

-- the trail of no item
abbrev pub ended : {A R : Type 0} → R → Trail A R
ended r = record { items = []; ends = r }

-- one item more in front
abbrev pub before : {A R : Type 0} → A → Trail A R → Trail A R
before a t = record { items = a ∷ t.items; ends = t.ends }

-- what a pace leads to, where g is the trail from a state
abbrev pub onward : {S A R : Type 0} → (S → Trail A R) → Pace S A R → Trail A R
onward g (on a t) = before a (g t)
onward g (stop r) = ended r

-- at most k paces, and the answer d where they do not suffice
unfoldable pub run : {S A R : Type 0} → (S → Pace S A R) → R → ℕ → S → Trail A R
run f d zero s = ended d
run f d (suc k) s = elim (f s) [ on a t ↦ before a (run f d k t) | stop r ↦ ended r ]

-- the trail from s: m falls with each pace, so it has paces enough, and d is never the answer
unfoldable pub trail : {S A R : Type 0} → (S → Pace S A R) → R → (S → ℕ) → S → Trail A R
trail f d m s = run f d (suc (m s)) s
