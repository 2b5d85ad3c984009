-- The laws of the rules at a second value of what a whole section comes to: each is the one that the judge's has.
use mathlib.Core.Path.{refl}
use mathlib.Core.List.{List, flatten}
use Prim.Native.Nat.{ℕ}
use Rattle.packet.specs.Ruling.{joins, Carried}
use Rattle.collector.specs.Rules.{accepted, rejected, size_of}
use Rattle.collector.proofs.StoryLaws.{counts_in}
use Rattle.collector.proofs.Parted.{accepted-by-end, rejected-by-end}
use Rattle.history.specs.History.{value_of, payloads_from}
use Rattle.history.specs.OtherEnds.{even_accepted, story_of, BothKinds, StillHolds}
use Rattle.history.proofs.NoSpan.{sections_unbroken}
use Rattle.history.proofs.Demand3.{kept_history}

pub both_kinds : BothKinds
unfolding size_of joins flatten
both_kinds = record { fates = refl; even = refl; odd = refl }

pub still_holds : (qs : List (Carried ℕ)) → StillHolds qs
still_holds qs =
    let kept = kept_history even_accepted qs in
    record {
      one_each = kept.seen;
      make_up = counts_in even_accepted value_of (payloads_from 0 qs) (story_of qs) kept;
      in_order = (kept.order accepted accepted-by-end).out;
      others_too = (kept.order rejected rejected-by-end).out;
      unbroken = sections_unbroken even_accepted qs;
    }
