-- What is asked of a collector, in one list: demand 1, demand 3, and what document 01 adds of the record and of the
-- rooms' other bytes. And that this leaves one collector.
use Rattle.std.specs.Prelude.{◌≡◌, List, map, ℕ, length, drop}
use Rattle.packet.specs.Ruling.{noneBefore}
use Rattle.collector.specs.Refusals.{before_of}
use Rattle.collector.specs.Answer.{Outcome}
use Rattle.collector.specs.Collected.{fresh_record}
use Rattle.collector.specs.declared.Record.{Record}
use Rattle.history.specs.Run.{Collector, Promised, Call, input_of, Run, lent_of, before_from, told_by}
use Rattle.history.specs.Demand3.{OverRuns, RefusedExactlyIf, TakenExactlyIf, CountersAreFates, DeliveredInOrder, KeptNumber}

module _ (C : Collector) where
  -- "It has the PID, the last counter or none, the bytes in hand", six "32-bit counters", the mark and the number of the
  -- last rejected section: the PID, the counter and the mark, by the packets and the rooms' sizes alone
  abbrev pub RecordTells : Type 0
  RecordTells = OverRuns C (λ pid hold calls r hold'.
      (r.pid ≡ pid) × (before_of r ≡ before_from pid (length hold) noneBefore (map lent_of calls)))

  -- "Out gets the finished sections .. Hold begins with the bytes in hand. Bytes of either beyond that stay."
  abbrev pub BeyondStays : Type 0
  BeyondStays = (r : Record) (hold out packet : List ℕ) (o : Outcome) → C r hold out packet o
      → (drop (told_by o.said) o.out ≡ drop (told_by o.said) out)
      × (drop o.rec.in_hand o.hold ≡ drop o.rec.in_hand hold)

  pub record Asked : Type 0 where
    pub refused_if : RefusedExactlyIf C
    pub taken_if : TakenExactlyIf C
    pub counters : CountersAreFates C
    pub delivered : DeliveredInOrder C
    pub number : KeptNumber C
    pub record_tells : RecordTells
    pub beyond_stays : BeyondStays

  -- no run from a fresh record is other than one of the collector's promise: every answer, every byte of the rooms, and
  -- the record
  abbrev pub OnlyAsPromised : Type 0
  OnlyAsPromised = OverRuns C (λ pid hold calls r hold'. Run Promised (fresh_record pid) hold calls r hold')

-- two collectors that are given the same packets and out rooms give the same calls, and leave the same record and hold
abbrev pub Agree : Collector → Collector → Type 0
Agree C D = (pid : ℕ) (hold : List ℕ) (calls calls₂ : List Call) (r r₂ : Record) (hold' hold₂ : List ℕ)
    → Run C (fresh_record pid) hold calls r hold' → Run D (fresh_record pid) hold calls₂ r₂ hold₂
    → map input_of calls ≡ map input_of calls₂
    → (calls ≡ calls₂) × (r ≡ r₂) × (hold' ≡ hold₂)
