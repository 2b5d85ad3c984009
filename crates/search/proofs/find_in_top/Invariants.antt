-- `search::find_in_top` meets its contract: what is still to be searched gives what the whole loop gives.
use Prim.Native.Nat.{◌-◌}
use mathlib.Core.Path.{◌≡◌}
use lib.ListN.{length, drop}
use Rattle.loops.specs.Descriptors.{descriptors}
use Rattle.search.specs.Search.{none, hit_in}
use Rattle.search.proofs.find_in_top.Given as goal

abbrev pub invariant-loop-d : goal.invariant-loop-d
invariant-loop-d l = hit_in l.tag 0 (descriptors l.p (drop l.p l.bytes)).items none ≡ hit_in l.tag 0
    (descriptors l.at (drop l.at l.bytes)).items none

abbrev pub decreases-loop-d : goal.decreases-loop-d
decreases-loop-d l = length l.bytes - l.p
