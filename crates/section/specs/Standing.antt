-- Demand 2, "A descriptor handed out is that part of the caller's bytes.", of all loops of a section.
use Rattle.std.specs.Prelude.{ℕ, List, [], ◌∷◌}
use Rattle.loops.specs.Descriptors.{Placed}
use Rattle.loops.specs.Walking.{Standing}

-- each descriptor of each loop stands at its place in s
pub data AllStanding (s : List ℕ) : List (List Placed) → Type 0 where
  none : AllStanding s []
  more : {ds : List Placed} {ls : List (List Placed)} → Standing s ds → AllStanding s ls → AllStanding s (ds ∷ ls)
