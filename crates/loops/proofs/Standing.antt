-- Demand 2, "A descriptor handed out is that part of the caller's bytes": where a loop is a part of bytes, each of its
-- descriptors is one at its place.
use Prim.Native.Nat.{ℕ}
use mathlib.Core.Path.{◌≡◌, subst}
use mathlib.Core.List.{List, ◌∷◌}
use native.Mathlib.Omega.{arith}
use lib.ListN.{length}
use Rattle.wire.specs.Parts.{Part}
use Rattle.wire.proofs.PartLaws.{part_first, part_second}
use Rattle.loops.specs.Descriptors.{Placed}
use Rattle.loops.specs.Walking.{Standing, none, more}
use Rattle.loops.specs.Grammar as grammar
use Rattle.loops.specs.Grammar.{Descriptors}

module _ (s : List ℕ) where
  pub moved : {p q : ℕ} {l : List ℕ} → p ≡ q → Part s p l → Part s q l
  moved {l = l} e = subst (λ k. Part s k l) e

  pub in_loop : {p : ℕ} {l : List ℕ} {ds : List Placed} → Descriptors p l ds → Part s p l → Standing s ds
  in_loop grammar.Descriptors.none h = none
  in_loop {p} (grammar.Descriptors.one tag body {l = l} d) h =
      more _ (part_first (tag ∷ length body ∷ body) l h)
      (in_loop d (moved (omega arith) (part_second (tag ∷ length body ∷ body) l h)))
