-- Request (viii) over runs of `lohitunga_collect`, "a taken packet gives out only accepted sections", in the words of the judge's grammar and of
-- its refusals.
use Rattle.std.specs.Prelude.{◌≡◌, List, [], ◌∷◌, ◌++◌, map, ℕ, length}
use Rattle.wire.specs.Each.{Each}
use Rattle.packet.specs.Ruling.{noneBefore}
use Rattle.section.specs.Faults.{First}
use Rattle.collector.specs.Rules.{Story}
use Rattle.collector.specs.Judged.{by_judge}
use Rattle.history.specs.History.{Byte, value_of, history_of}
use Rattle.history.specs.Run.{Lent, ruled_taken}
use Rattle.history.specs.Demand3.{rejected_in}
use Rattle.history.specs.Judging.{Legal, Faulty}
use Rattle.calls.specs.Collects.{Collector, Call, OverRuns, handedOut}

-- of a call, the packet and the size of the out room
abbrev pub lent_of : Call → Lent
lent_of k = record { packet = k.packet; room = length k.out }

-- the fates by the packets alone
abbrev pub story_of : ℕ → ℕ → List Lent → Story Byte
story_of pid size lent = (history_of by_judge (ruled_taken pid size noneBefore lent)).story

-- the sections of a run that are rejected, in order, each with its bytes
abbrev pub rejected_by : ℕ → List ℕ → List Call → List (List ℕ)
rejected_by pid hold calls = map (map value_of) (rejected_in (story_of pid (length hold) (map lent_of calls)))

module _ (C : Collector) where
  -- each section that the calls hand out is one of the grammar
  abbrev pub OnlyAccepted : Type 0
  OnlyAccepted = OverRuns C (λ pid hold calls r hold'. Each Legal (handedOut calls))

  -- each that is rejected has a first refusal
  abbrev pub RejectedRefused : Type 0
  RejectedRefused = OverRuns C (λ pid hold calls r hold'. Each Faulty (rejected_by pid hold calls))

  -- "A rejected section's number is kept in the record, the last one only, 0 at first"
  abbrev pub KeptNumber : Type 0
  KeptNumber = OverRuns C (λ pid hold calls r hold'.
      ((front : List (List ℕ)) (s : List ℕ) → rejected_by pid hold calls ≡ front ++ (s ∷ []) → (q : ℕ) × First s r.rejection q)
      × (rejected_by pid hold calls ≡ [] → r.rejection ≡ 0))
