-- The packet writer over the calls for C: what `lohitunga_packets` promises, and what comes of its packets when the
-- collector is called with them.
use Rattle.std.specs.Prelude.{◌≡◌, ◌⊎◌, ◌↔◌, ℕ, ◌*◌, ◌%◌, ◌^◌, ◌≤◌, ◌<◌, length, drop}
use mathlib.Core.List.{List, map, flatten}
use Rattle.wire.specs.Each.{Each}
use Rattle.verdict.specs.Verdict as Verdict
use Rattle.section.specs.Reading.{judged}
use Rattle.collector.specs.Judged.{accepted_among, rejected_among, last_number}
use Rattle.writer.specs.Written.{written}
use Rattle.reverse.specs.Sent.{Sent}
use Rattle.reverse.specs.Rule.{Obeys}
use Rattle.reverse.specs.Writer.{RightStart, Carries, packets_in}
use Rattle.cabinet.specs.Packets.{packets_says}
use Rattle.cabinet.specs.declared.packets.PacketsAnswer.{PacketsAnswer}
use Rattle.cabinet.specs.declared.collect.Record.{Record}
use Rattle.calls.specs.Collects.{Collector, PromisedFresh, Call, Run, handedOut}

-- what `lohitunga_packets` promises of a PID, a first counter, sections end to end, their sizes and a room: the answer,
-- and the room after it
abbrev pub Packets : ℕ → ℕ → List ℕ → List ℕ → List ℕ → PacketsAnswer → List ℕ → Type 0
Packets pid counter bytes sizes room a room' =
    (a ≡ packets_says (written pid counter bytes sizes room).said)
    × (room' ≡ (written pid counter bytes sizes room).room)

-- the number is 0 exactly if nothing is to refuse; else it is that of the first refusal
abbrev pub NumberedExactlyIf : Type 0
NumberedExactlyIf = (pid counter : ℕ) (bytes sizes room room' : List ℕ) (a : PacketsAnswer)
    → Packets pid counter bytes sizes room a room'
    → ((a.number ≡ 101) ↔ ((8191 < pid) ⊎ (15 < counter)))
    × ((a.number ≡ 102) ↔ (RightStart pid counter × ((sections : List (List ℕ)) → Sent bytes sizes sections → ⊥)))
    × ((a.number ≡ 103)
    ↔ (RightStart pid counter × ((n : ℕ) × Carries pid counter bytes sizes n × (length room < n * 188))))
    × ((a.number ≡ 0) ↔ (RightStart pid counter × Carries pid counter bytes sizes a.packets × (a.packets * 188 ≤ length room)))

-- the packets of the room obey the rule, and its later bytes stay
abbrev pub WritesByRule : Type 0
WritesByRule = (pid counter : ℕ) (bytes sizes room room' : List ℕ) (a : PacketsAnswer)
    → Packets pid counter bytes sizes room a room' → a.number ≡ 0
    → ((sections : List (List ℕ)) → Sent bytes sizes sections → Obeys pid counter sections (packets_in a.packets room'))
    × (drop (a.packets * 188) room' ≡ drop (a.packets * 188) room)

-- "all lent room unaltered": a call that gives a number writes nothing, and tells no packet
abbrev pub RefusalLeaves : Type 0
RefusalLeaves = (pid counter : ℕ) (bytes sizes room room' : List ℕ) (a : PacketsAnswer)
    → Packets pid counter bytes sizes room a room' → (a.number ≡ 0 → ⊥)
    → (room' ≡ room) × (a.packets ≡ 0)

-- ---- the packets, and the calls of the collector with them

-- exactly these sections are handed out, no byte is rejected, and the number is 0
pub record AllComeBack (sections : List (List ℕ)) (calls : List Call) (r : Record) : Type 0 where
  pub handed_are : handedOut calls ≡ sections
  pub none_rejected : r.rejected ≡ 0
  pub no_number : r.rejection ≡ 0

-- every packet is taken, those of the sections are handed out that the judge accepts, the bytes of the others are
-- rejected, no byte is broken off or skipped, and none is left in hand; if the judge accepts each section, all come back
pub record ComeBack (sections : List (List ℕ)) (calls : List Call) (r : Record) : Type 0 where
  pub each_taken : Each (λ k. (k.answer.number ≡ 0) × (k.answer.repeated ≡ 0)) calls
  pub handed_are : handedOut calls ≡ accepted_among sections
  pub accepted_are : r.accepted ≡ length (flatten (accepted_among sections)) % 2 ^ 32
  pub rejected_are : r.rejected ≡ length (flatten (rejected_among sections)) % 2 ^ 32
  pub number_is : r.rejection ≡ last_number 0 (rejected_among sections)
  pub all_accepted : Each (λ s. judged s ≡ Verdict.accepted) sections → AllComeBack sections calls r
  pub none_broken : r.broken ≡ 0
  pub none_skipped : r.skipped ≡ 0
  pub none_in_hand : r.in_hand ≡ 0

-- "A fresh collector fed these packets delivers exactly these sections and breaks off nothing", which "now speaks of
-- sections that the judge accepts": of every run over the packets that a call wrote, with a hold and out rooms that are
-- large enough, whatever they hold
abbrev pub PacketsComeBack : Collector → Type 0
PacketsComeBack C = (pid counter : ℕ) (bytes sizes room room' : List ℕ) (a : PacketsAnswer)
    (fresh : Record) (hold : List ℕ) (calls : List Call) (r : Record) (hold' : List ℕ)
    → Packets pid counter bytes sizes room a room' → a.number ≡ 0
    → PromisedFresh pid fresh → 4096 ≤ length hold → Each (λ k. 4280 ≤ length k.out) calls
    → Run C fresh hold calls r hold' → map (λ k. k.packet) calls ≡ packets_in a.packets room'
    → (sections : List (List ℕ)) → Sent bytes sizes sections → ComeBack sections calls r

-- calls with these packets and these out rooms, and where they lead
pub record RunOver (C : Collector) (r : Record) (hold : List ℕ) (packets outs : List (List ℕ)) : Type 0 where
  pub calls : List Call
  pub packets_are : map (λ k. k.packet) calls ≡ packets
  pub outs_are : map (λ k. k.out) calls ≡ outs
  pub rec : Record
  pub last_hold : List ℕ
  pub run : Run C r hold calls rec last_hold

-- there is such a run, from every record and hold and for any packets and out rooms, as many of the one as of the other
abbrev pub RunsOver : Collector → Type 0
RunsOver C = (r : Record) (hold : List ℕ) (packets outs : List (List ℕ)) → length outs ≡ length packets
    → RunOver C r hold packets outs
