-- What is asked of a packet writer, in one list: demand 1 and request (ii), as statements about any writer, of any PID, counter, bytes, sizes and
-- room. And that this leaves one writer.
use Rattle.std.specs.Prelude.{◌≡◌, ◌⊎◌, ◌↔◌, List, [], ◌∷◌, map, ℕ, zero, suc, ◌*◌, ◌≤◌, ◌<◌, length, take, drop}
use Rattle.wire.specs.Each.{Each}
use Rattle.collector.specs.declared.Record.{Record}
use Rattle.history.specs.Run.{Call, Run}
use Rattle.history.specs.Run as history
use Rattle.writer.specs.Answer.{wrote, refused_with, Outcome}
use Rattle.writer.specs.Written.{written}
use Rattle.reverse.specs.Sent.{Sent}
use Rattle.reverse.specs.Rule.{Obeys}
use Rattle.reverse.specs.FedBack.{Ready, Delivers}

-- what a writer may make of a PID, a counter, bytes, sizes and a room
abbrev pub Writer : Type 1
Writer = ℕ → ℕ → List ℕ → List ℕ → List ℕ → Outcome → Type 0

-- what `write` promises
abbrev pub Promised : Writer
Promised pid counter bytes sizes room o = o ≡ written pid counter bytes sizes room

-- the first packets of a room, so many
abbrev pub packets_in : ℕ → List ℕ → List (List ℕ)
packets_in zero room = []
packets_in (suc n) room = take 188 room ∷ packets_in n (drop 188 room)

-- a PID and a counter to which 101 does not apply
pub record RightStart (pid counter : ℕ) : Type 0 where
  pub pid_small : pid ≤ 8191
  pub counter_small : counter ≤ 15

-- sections to which 102 does not apply, and as many packets that obey the rule
pub record Carries (pid counter : ℕ) (bytes sizes : List ℕ) (n : ℕ) : Type 0 where
  pub sections : List (List ℕ)
  pub packets : List (List ℕ)
  pub sent : Sent bytes sizes sections
  pub obeys : Obeys pid counter sections packets
  pub many : length packets ≡ n

module _ (W : Writer) where
  -- of each call
  abbrev pub OverCalls : (ℕ → ℕ → List ℕ → List ℕ → List ℕ → Outcome → Type 0) → Type 0
  OverCalls P = (pid counter : ℕ) (bytes sizes room : List ℕ) (o : Outcome) → W pid counter bytes sizes room o
      → P pid counter bytes sizes room o

  -- "101 PID above 8,191 or counter above 15"
  abbrev pub BadStartExactlyIf : Type 0
  BadStartExactlyIf = OverCalls (λ pid counter bytes sizes room o.
      (o.said ≡ refused_with 101) ↔ ((8191 < pid) ⊎ (15 < counter)))

  -- "102 a section whose length is not its header's, is over 4,096, or begins 0xFF": there are no sections to send that the bytes and sizes are
  abbrev pub BadSectionExactlyIf : Type 0
  BadSectionExactlyIf = OverCalls (λ pid counter bytes sizes room o.
      (o.said ≡ refused_with 102) ↔ (RightStart pid counter × ((sections : List (List ℕ)) → Sent bytes sizes sections → ⊥)))

  -- "103 room too small": for the packets that these sections take
  abbrev pub RoomExactlyIf : Type 0
  RoomExactlyIf = OverCalls (λ pid counter bytes sizes room o.
      (o.said ≡ refused_with 103)
      ↔ (RightStart pid counter × ((n : ℕ) × Carries pid counter bytes sizes n × (length room < n * 188))))

  -- "no other input is refused"
  abbrev pub WritesExactlyIf : Type 0
  WritesExactlyIf = OverCalls (λ pid counter bytes sizes room o. (n : ℕ)
      → (o.said ≡ wrote n) ↔ (RightStart pid counter × Carries pid counter bytes sizes n × (n * 188 ≤ length room)))

  -- and no other number is given
  abbrev pub NoOtherNumber : Type 0
  NoOtherNumber = OverCalls (λ pid counter bytes sizes room o. (n : ℕ) → o.said ≡ refused_with n
      → (n ≡ 101) ⊎ ((n ≡ 102) ⊎ (n ≡ 103)))

  -- "all lent room unaltered"
  abbrev pub RefusedUnaltered : Type 0
  RefusedUnaltered = OverCalls (λ pid counter bytes sizes room o. (n : ℕ) → o.said ≡ refused_with n → o.room ≡ room)

  -- "sections, PID and first counter in; 188-byte packets out": those of the room obey the rule, and its later bytes stay
  abbrev pub WritesByRule : Type 0
  WritesByRule = OverCalls (λ pid counter bytes sizes room o. (n : ℕ) → o.said ≡ wrote n
      → (sections : List (List ℕ)) → Sent bytes sizes sections → Obeys pid counter sections (packets_in n o.room))

  abbrev pub LaterStay : Type 0
  LaterStay = OverCalls (λ pid counter bytes sizes room o. (n : ℕ) → o.said ≡ wrote n
      → (drop (n * 188) o.room ≡ drop (n * 188) room) × (length o.room ≡ length room))

  pub record Asked : Type 0 where
    pub bad-start : BadStartExactlyIf
    pub bad_section : BadSectionExactlyIf
    pub room_short : RoomExactlyIf
    pub writes : WritesExactlyIf
    pub no_other : NoOtherNumber
    pub unaltered : RefusedUnaltered
    pub by_rule : WritesByRule
    pub later_stay : LaterStay

  -- no call is other than one of the writer's promise: the answer, and every byte of the room
  abbrev pub OnlyAsPromised : Type 0
  OnlyAsPromised = OverCalls (λ pid counter bytes sizes room o. Promised pid counter bytes sizes room o)

  -- "A fresh collector fed these packets delivers exactly these sections and breaks off nothing.", as amended those "that the judge accepts", and
  -- so does one that goes on from the counter before: every run over the packets of the room, with a hold and out rooms that are large enough
  abbrev pub GivenBack : Type 0
  GivenBack = OverCalls (λ pid counter bytes sizes room o. (n : ℕ) → o.said ≡ wrote n
      → (sections : List (List ℕ)) → Sent bytes sizes sections
      → (r : Record) (hold : List ℕ) (calls : List Call) (r' : Record) (hold' : List ℕ)
      → Ready pid counter r hold → 4096 ≤ length hold → Each (λ k. 4280 ≤ length k.out) calls
      → Run history.Promised r hold calls r' hold' → map (λ k. k.packet) calls ≡ packets_in n o.room
      → Delivers pid counter sections r calls r' hold')
