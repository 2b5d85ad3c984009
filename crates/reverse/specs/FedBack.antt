-- "A fresh collector fed these packets delivers exactly these sections and breaks off nothing.", as amended: "The packet writer's promise now
-- speaks of sections that the judge accepts."
use Rattle.std.specs.Prelude.{◌≡◌, ◌↔◌, true, false, ℕ, ◌+◌, ◌%◌, ◌^◌, ◌≤◌, ◌<◌, length}
use mathlib.Core.List.{List, [], ◌∷◌, ◌++◌, map, flatten}
use Rattle.wire.specs.Each.{Each}
use Rattle.packet.specs.Ruling.{next_to}
use Rattle.verdict.specs.Verdict as Verdict
use Rattle.loops.specs.Descriptors.{Placed}
use Rattle.section.specs.Grammar.{Section}
use Rattle.section.specs.Reading.{judged}
use Rattle.collector.specs.Rules.{Kind, accepted, rejected, broken, skipped, done}
use Rattle.collector.specs.Judged.{accepted_among, rejected_among, last_number}
use Rattle.collector.specs.Refusals.{last_of, cannot_stand}
use Rattle.collector.specs.Collected.{bytes_counted, fresh_record}
use Rattle.collector.specs.declared.Record.{Record}
use Rattle.history.specs.Run.{Promised, Call, Run, taken, fare_of, handed}
use Rattle.writer.specs.Packets.{packets_of}
use Rattle.reverse.specs.Sent.{Sendable}

-- a record that the packets with this PID and first counter go on from: it can stand, it is of the PID, nothing is in hand, it has no last
-- counter or the one before, and its six counters are 32-bit ones. Its mark may be set, and a rejection's number may be kept.
pub record Ready (pid counter : ℕ) (r : Record) (hold : List ℕ) : Type 0 where
  pub stands : cannot_stand r hold ≡ false
  pub pid_is : r.pid ≡ pid
  pub none_in_hand : r.in_hand ≡ 0
  pub next : next_to (last_of r.last) counter ≡ true
  pub counters : (k : Kind) → bytes_counted (done k) r < 2 ^ 32

-- exactly these sections are handed out, so many bytes are rejected, and this is the number of the section rejected last
pub record AllHanded (sections : List (List ℕ)) (calls : List Call) (bytes number : ℕ) (r' : Record) : Type 0 where
  pub handed_are : handed calls ≡ sections
  pub rejected_are : r'.rejected ≡ bytes
  pub number_is : r'.rejection ≡ number

-- "sections that the judge accepts": if it accepts each
abbrev pub AllAccepted : List (List ℕ) → List Call → ℕ → ℕ → Record → Type 0
AllAccepted sections calls bytes number r' =
    Each (λ s. judged s ≡ Verdict.accepted) sections → AllHanded sections calls bytes number r'

-- and those are the sections that document 01's grammar has
abbrev pub AcceptedByGrammar : Type 0
AcceptedByGrammar = (sections : List (List ℕ))
    → Each (λ s. judged s ≡ Verdict.accepted) sections ↔ Each (λ s. (loops : List (List Placed)) × Section s loops) sections

-- what comes of calls with these packets: each is taken, those of the sections are handed out that the judge accepts, the bytes of the others
-- are rejected, the number of the last of these is kept, no byte is broken off or skipped, and the next packets can go on. If the judge accepts
-- each section, exactly these are handed out, and what is rejected stays as it was.
pub record Delivers (pid counter : ℕ) (sections : List (List ℕ)) (r : Record) (calls : List Call) (r' : Record) (hold' : List ℕ)
    : Type 0 where
  pub each_taken : Each (λ k. fare_of k.said ≡ taken) calls
  pub handed_are : handed calls ≡ accepted_among sections
  pub accepted_are : bytes_counted (done accepted) r' ≡ (bytes_counted (done accepted) r + length (flatten (accepted_among sections))) % 2 ^ 32
  pub rejected_are : bytes_counted (done rejected) r' ≡ (bytes_counted (done rejected) r + length (flatten (rejected_among sections))) % 2 ^ 32
  pub number_is : r'.rejection ≡ last_number r.rejection (rejected_among sections)
  pub all_accepted : AllAccepted sections calls r.rejected r.rejection r'
  pub none_broken : bytes_counted (done broken) r' ≡ bytes_counted (done broken) r
  pub none_skipped : bytes_counted (done skipped) r' ≡ bytes_counted (done skipped) r
  pub goes_on : Ready pid ((counter + length calls) % 16) r' hold'
  pub room_left : 4096 ≤ length hold'

-- of every run over these packets, with a hold and out rooms that are large enough, whatever they hold
abbrev pub FedBack : Type 0
FedBack = (pid counter : ℕ) (sections : List (List ℕ)) (r : Record) (hold : List ℕ) (calls : List Call) (r' : Record) (hold' : List ℕ)
    → counter ≤ 15 → Each Sendable sections
    → Ready pid counter r hold → 4096 ≤ length hold → Each (λ k. 4280 ≤ length k.out) calls
    → Run Promised r hold calls r' hold' → map (λ k. k.packet) calls ≡ packets_of pid counter sections
    → Delivers pid counter sections r calls r' hold'

-- from a fresh record: every packet is taken, those of the sections are handed out that the judge accepts, the bytes of the others are rejected,
-- no byte is broken off or skipped, and none is left in hand. If the judge accepts each section, exactly these are handed out, no byte is
-- rejected, and the number is 0.
pub record AllDelivered (sections : List (List ℕ)) (calls : List Call) (r' : Record) : Type 0 where
  pub each_taken : Each (λ k. fare_of k.said ≡ taken) calls
  pub handed_are : handed calls ≡ accepted_among sections
  pub accepted_are : r'.accepted ≡ length (flatten (accepted_among sections)) % 2 ^ 32
  pub rejected_are : r'.rejected ≡ length (flatten (rejected_among sections)) % 2 ^ 32
  pub number_is : r'.rejection ≡ last_number 0 (rejected_among sections)
  pub all_accepted : AllAccepted sections calls 0 0 r'
  pub none_broken : r'.broken ≡ 0
  pub none_skipped : r'.skipped ≡ 0
  pub none_in_hand : r'.in_hand ≡ 0

-- "A fresh collector fed these packets delivers exactly these sections and breaks off nothing.", as amended
abbrev pub FreshDelivers : Type 0
FreshDelivers = (pid counter : ℕ) (sections : List (List ℕ)) (hold : List ℕ) (calls : List Call) (r' : Record) (hold' : List ℕ)
    → pid ≤ 8191 → counter ≤ 15 → Each Sendable sections
    → 4096 ≤ length hold → Each (λ k. 4280 ≤ length k.out) calls
    → Run Promised (fresh_record pid) hold calls r' hold' → map (λ k. k.packet) calls ≡ packets_of pid counter sections
    → AllDelivered sections calls r'

-- calls with these packets and these out rooms, and where they lead
pub record RunOver (r : Record) (hold : List ℕ) (packets outs : List (List ℕ)) : Type 0 where
  pub calls : List Call
  pub packets_are : map (λ k. k.packet) calls ≡ packets
  pub outs_are : map (λ k. k.out) calls ≡ outs
  pub rec : Record
  pub last_hold : List ℕ
  pub run : Run Promised r hold calls rec last_hold

-- there is such a run, from every record and hold and for any out rooms, as many as the packets
abbrev pub RunsOver : Type 0
RunsOver = (pid counter : ℕ) (sections : List (List ℕ)) (r : Record) (hold : List ℕ) (outs : List (List ℕ))
    → length outs ≡ length (packets_of pid counter sections)
    → RunOver r hold (packets_of pid counter sections) outs

-- ---- call after call

-- the packets of several calls, each with the counter behind the last packet of the call before
abbrev pub packets_of_calls : ℕ → ℕ → List (List (List ℕ)) → List (List ℕ)
packets_of_calls pid counter [] = []
packets_of_calls pid counter (sections ∷ others) =
    packets_of pid counter sections
    ++ packets_of_calls pid ((counter + length (packets_of pid counter sections)) % 16) others

-- they are one stream, and all their sections come back that the judge accepts
abbrev pub CallAfterCall : Type 0
CallAfterCall = (pid counter : ℕ) (batches : List (List (List ℕ))) (r : Record) (hold : List ℕ) (calls : List Call) (r' : Record)
    (hold' : List ℕ) → counter ≤ 15 → Each (Each Sendable) batches
    → Ready pid counter r hold → 4096 ≤ length hold → Each (λ k. 4280 ≤ length k.out) calls
    → Run Promised r hold calls r' hold' → map (λ k. k.packet) calls ≡ packets_of_calls pid counter batches
    → Delivers pid counter (flatten batches) r calls r' hold'
