-- Request (ix) of one call, as statements about any collector, with any record, hold, out room and packet: "The record gains
-- a mark. An adaptation field of at least one byte with that bit set, in a packet not refused, sets it; the next packet with
-- payload, the marked one itself if it has any, is never "repeated", breaks off what is in hand and clears it."
use Rattle.std.specs.Prelude.{◌≡◌, Bool, true, false, List, ◌∷◌, ◌⊎◌, ◌↔◌, ℕ, ◌+◌, ◌/◌, ◌%◌, ◌^◌, ◌≤◌, length, get_or, if◌then◌else◌, None, Some}
use Rattle.wire.specs.Each.{Each}
use Rattle.packet.specs.Refusals.{refusals}
use Rattle.collector.specs.Refusals.{cannot_stand, too_small}
use Rattle.collector.specs.Rules.{broken, done, sameKind}
use Rattle.collector.specs.Answer.{Outcome, repeated, taken}
use Rattle.collector.specs.Collected.{bytes_counted, record_with, unaltered}
use Rattle.collector.specs.declared.Record.{Record}
use Rattle.history.specs.Run.{Collector, fare_of}
use Rattle.history.specs.Run as R
use Rattle.history.specs.WrongCollectors.{hold₀, out₀, next_on, spliced_on, bare_splice}

-- ---- what the sentence speaks of, by the packet's bytes

-- adaptation control, two bits of byte 3: 10 or 11 is an adaptation field, 10 no payload
abbrev pub control_bits : List ℕ → ℕ
control_bits packet = get_or packet 3 0 / 16 % 4

-- "An adaptation field of at least one byte with that bit set": byte 4 is its length, and the bit is the first of byte 5
pub record HasBit (packet : List ℕ) : Type 0 where
  pub field : (control_bits packet ≡ 2) ⊎ (control_bits packet ≡ 3)
  pub at_least_one : 1 ≤ get_or packet 4 0
  pub set : 128 ≤ get_or packet 5 0

-- "in a packet not refused": no row of the table applies
abbrev pub NotRefused : Record → List ℕ → List ℕ → List ℕ → Type 0
NotRefused r hold out packet =
    Each (λ row. row.applies ≡ false) (refusals (too_small (length hold) (length out)) (cannot_stand r hold) r.pid packet)

-- "the next packet with payload, the marked one itself if it has any"
abbrev pub Marked : Record → List ℕ → Type 0
Marked r packet = (r.mark ≡ true) ⊎ HasBit packet

-- the record, with another mark
abbrev pub with_mark_of : Record → Record → Record
with_mark_of other r = record_with r.pid r.last other.mark r.rejection r.in_hand (λ k. bytes_counted (done k) r)

-- the record without a counter, without a mark and with nothing in hand
abbrev pub anew : Record → Record
anew r = record_with r.pid None false r.rejection 0 (λ k. bytes_counted (done k) r)

-- an outcome with n bytes more broken off
abbrev pub breaking_off : ℕ → Outcome → Outcome
breaking_off n o = record {
  rec = record_with o.rec.pid o.rec.last o.rec.mark o.rec.rejection o.rec.in_hand
      (λ k. if sameKind k broken then (bytes_counted (done k) o.rec + n) % 2 ^ 32 else bytes_counted (done k) o.rec);
  hold = o.hold;
  out = o.out;
  said = o.said;
}

-- ---- the statements

module _ (C : Collector) where
  abbrev pub OverCalls : (Record → List ℕ → List ℕ → List ℕ → Outcome → Type 0) → Type 0
  OverCalls P = (r : Record) (hold out packet : List ℕ) (o : Outcome) → C r hold out packet o → P r hold out packet o

  -- "sets it", where there is no payload to clear it; "Control 10: taken, no payload, nothing changes", as amended: nothing
  -- but the mark
  abbrev pub BareSetsTheMark : Type 0
  BareSetsTheMark = OverCalls (λ r hold out packet o.
      NotRefused r hold out packet → control_bits packet ≡ 2
      → ((o.rec.mark ≡ true) ↔ Marked r packet) × (o ≡ unaltered (with_mark_of o.rec r) hold out (taken 0 0)))

  -- "is never "repeated""
  abbrev pub MarkedIsTaken : Type 0
  MarkedIsTaken = OverCalls (λ r hold out packet o.
      NotRefused r hold out packet → Marked r packet → fare_of o.said ≡ R.taken)

  -- "breaks off what is in hand": what comes of it is what comes of it where nothing is in hand, no counter is known and no
  -- mark is set, but that so many bytes more are broken off
  abbrev pub MarkedBreaksOff : Type 0
  MarkedBreaksOff = OverCalls (λ r hold out packet o.
      NotRefused r hold out packet → (control_bits packet ≡ 2 → ⊥) → Marked r packet
      → (o₂ : Outcome) → C (anew r) hold out packet o₂ → o ≡ breaking_off r.in_hand o₂)

  -- "and clears it", as each packet with payload that is taken leaves no mark
  abbrev pub PayloadClears : Type 0
  PayloadClears = OverCalls (λ r hold out packet o.
      NotRefused r hold out packet → (control_bits packet ≡ 2 → ⊥) → fare_of o.said ≡ R.taken → o.rec.mark ≡ false)

  -- "Else a counter equal to the last: "repeated", nothing changes": so it stays
  abbrev pub RepeatedUnaltered : Type 0
  RepeatedUnaltered = OverCalls (λ r hold out packet o. o.said ≡ repeated → o ≡ unaltered r hold out repeated)

-- ---- the premises can be met: of each kind of packet, where the mark is set and where the packet has the bit

-- a record with a section's first byte in hand
abbrev pub held_one : ℕ → Bool → Record
held_one last mark = record_with 20 (Some last) mark 0 1 (λ k. 0)

abbrev pub hold₁ : List ℕ
hold₁ = 0x70 ∷ hold₀

pub record PremisesMet : Type 0 where
  pub bare_bit : NotRefused (held_one 0 false) hold₁ out₀ bare_splice × HasBit bare_splice
  pub bare_mark : NotRefused (held_one 0 true) hold₁ out₀ bare_splice
  -- the counter of the packet is the last
  pub own_bit : NotRefused (held_one 1 false) hold₁ out₀ spliced_on × HasBit spliced_on
  -- and it is the next
  pub mark_before : NotRefused (held_one 0 true) hold₁ out₀ next_on
  pub with_payload : (control_bits spliced_on ≡ 2 → ⊥) × (control_bits next_on ≡ 2 → ⊥)
