-- Request (viii), "Merge the two: a taken packet gives out only accepted sections.", in the words of the judge's grammar and of its refusals, as
-- statements about any collector.
use Rattle.std.specs.Prelude.{◌≡◌, List, [], ◌∷◌, ◌++◌, map, ℕ, ◌≤◌, length, take}
use Rattle.wire.specs.Each.{Each}
use Rattle.wire.specs.Bytes.{len12_at}
use Rattle.packet.specs.Ruling.{Carried, ruling}
use Rattle.loops.specs.Descriptors.{Placed}
use Rattle.section.specs.Grammar.{Section}
use Rattle.section.specs.Faults.{First}
use Rattle.collector.specs.Refusals.{before_of, cannot_stand, too_small}
use Rattle.collector.specs.Rules.{Story, holding, plain, story_after}
use Rattle.collector.specs.Judged.{by_judge, rejected_of}
use Rattle.collector.specs.Answer.{Outcome}
use Rattle.collector.specs.declared.Record.{Record}
use Rattle.history.specs.History.{value_of}
use Rattle.history.specs.Run.{Collector, Call, ruled_in, handed}
use Rattle.history.specs.Demand3.{story_by, rejected_in, OverRuns}

-- demand 2's "its header is legal, its loops, entries and descriptors fill their declared lengths to the last byte, and its CRC .. holds"
abbrev pub Legal : List ℕ → Type 0
Legal s = (loops : List (List Placed)) × Section s loops

-- the first refusal of a section that came whole: never 1, "fewer than 3 bytes", or 5, "bytes given are not 3 + section_length"
pub record Faulty (s : List ℕ) : Type 0 where
  pub number : ℕ
  pub place : ℕ
  pub first : First s number place
  pub not-1 : number ≡ 1 → ⊥
  pub not-5 : number ≡ 5 → ⊥

abbrev pub Fits : List ℕ → Type 0
Fits s = len12_at s 1 ≤ 4093

-- the sections of a run that are rejected, in order, each with its bytes
abbrev pub rejected_by : ℕ → List ℕ → List Call → List (List ℕ)
rejected_by pid hold calls = map (map value_of) (rejected_in (story_by pid hold calls))

-- what a packet that is taken adds to what is in hand
abbrev pub story_on : Record → List ℕ → Carried ℕ → Story ℕ
story_on r hold q = story_after by_judge plain (before_of r).last (holding (take r.in_hand hold)) q

module _ (C : Collector) where
  abbrev pub OnlyAccepted : Type 0
  OnlyAccepted = OverRuns C (λ pid hold calls r hold'. Each Legal (handed calls))

  abbrev pub RejectedRefused : Type 0
  RejectedRefused = OverRuns C (λ pid hold calls r hold'. Each Faulty (rejected_by pid hold calls))

  -- "A section_length above 4,093 .. broken off": neither handed out nor rejected
  abbrev pub NeverTooLong : Type 0
  NeverTooLong = OverRuns C (λ pid hold calls r hold'. Each Fits (handed calls) × Each Fits (rejected_by pid hold calls))

  -- "A rejected section's number is kept in the record, the last one only, 0 at first"
  abbrev pub LastNumber : Type 0
  LastNumber = OverRuns C (λ pid hold calls r hold'.
      ((front : List (List ℕ)) (s : List ℕ) → rejected_by pid hold calls ≡ front ++ (s ∷ []) → (q : ℕ) × First s r.rejection q)
      × (rejected_by pid hold calls ≡ [] → r.rejection ≡ 0))

  -- of a call with any record, hold, out room and packet: the number stays where the packet, if it is taken with payload, rejects nothing
  abbrev pub AcceptanceLeaves : Type 0
  AcceptanceLeaves = (r : Record) (hold out packet : List ℕ) (o : Outcome) → C r hold out packet o
      → Each (λ q. rejected_of (story_on r hold q) ≡ [])
      (ruled_in (ruling (too_small (length hold) (length out)) (cannot_stand r hold) r.pid (before_of r) packet))
      → o.rec.rejection ≡ r.rejection

  -- and so it does where the counter of rejected bytes stays
  abbrev pub NoneRejectedLeaves : Type 0
  NoneRejectedLeaves = (r : Record) (hold out packet : List ℕ) (o : Outcome) → C r hold out packet o
      → o.rec.rejected ≡ r.rejected → o.rec.rejection ≡ r.rejection
