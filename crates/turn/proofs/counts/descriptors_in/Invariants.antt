-- `turn::counts::descriptors_in` meets its contract.
use Prim.Native.Nat.{◌-◌}
use lib.ListN.{length}
use Rattle.sheet.specs.Sheet.{descriptor}
use Rattle.contents.proofs.SectionLaws.{descriptor_full}
use Rattle.turn.proofs.CountLaws.{Counting}
use Rattle.turn.proofs.counts.descriptors_in.Given as goal

abbrev pub invariant-loop-p : goal.invariant-loop-p
invariant-loop-p l = Counting descriptor descriptor_full l.bytes l.p l.k

abbrev pub decreases-loop-p : goal.decreases-loop-p
decreases-loop-p l = length l.bytes - l.p
