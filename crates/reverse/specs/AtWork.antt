-- The writer at work: sizes and the packets that they take, the bytes of packets, and calls; and what the judge makes of sections that are sent.
-- That each goes so is computed.
use Rattle.std.specs.Prelude.{◌≡◌, true, false, List, [], ◌∷◌, ◌++◌, map, ℕ, ◌≤◌, ◌<◌, length, take, replicate, Some}
use Rattle.wire.specs.Each.{Each}
use Rattle.verdict.specs.Verdict.{accepted, number_of}
use Rattle.section.specs.Reading.{judged}
use Rattle.collector.specs.Judged.{accepted_among, rejected_among, last_number}
use Rattle.collector.specs.Collected.{fresh_record, record_with}
use Rattle.collector.specs.declared.Record.{Record}
use Rattle.history.specs.Run.{Promised, Call, Run, handed}
use Rattle.history.specs.AtWork.{tdt}
use Rattle.history.specs.WrongCollectors.{worked, hold₀}
use Rattle.writer.specs.Layout.{Turn, turns_from, unbegun}
use Rattle.writer.specs.Packets.{packets_of}
use Rattle.writer.specs.Answer.{Reply, wrote, refused_with}
use Rattle.writer.specs.Written.{packet_count, written}
use Rattle.reverse.specs.Sent.{Sendable}
use Rattle.reverse.specs.FedBack.{Ready}

-- ---- sizes, and the packets that they take

-- a packet with the start flag: its pointer, and how many bytes of sections it has
abbrev pub begins : ℕ → ℕ → Turn
begins pointer bytes = record { start = true; left = pointer; bytes = bytes }

-- one without it: the bytes left of the section begun, and how many of them it has
abbrev pub goes_on : ℕ → ℕ → Turn
goes_on left bytes = record { start = false; left = left; bytes = bytes }

infix 70 ◌give◌
abbrev pub ◌give◌ : List ℕ → List Turn → Type 0
sizes give turns = turns_from (unbegun sizes) ≡ turns

pub record SizesAtWork : Type 0 where
  pub none : [] give []
  pub of-3 : (3 ∷ []) give (begins 0 3 ∷ [])
  pub of-183 : (183 ∷ []) give (begins 0 183 ∷ [])
  pub of-184 : (184 ∷ []) give (begins 0 183 ∷ goes_on 1 1 ∷ [])
  pub of-365 : (365 ∷ []) give (begins 0 183 ∷ goes_on 182 182 ∷ [])
  pub of-366 : (366 ∷ []) give (begins 0 183 ∷ goes_on 183 183 ∷ [])
  pub of-367 : (367 ∷ []) give (begins 0 183 ∷ goes_on 184 184 ∷ [])
  pub of-4096 : packet_count (4096 ∷ []) ≡ 23
  -- several in one packet, the last of which is cut
  pub several : (3 ∷ 60 ∷ 100 ∷ 40 ∷ []) give (begins 0 183 ∷ goes_on 20 20 ∷ [])
  -- 182 left and one that waits: it begins with the last byte of the packet
  pub last_byte : (365 ∷ 3 ∷ []) give (begins 0 183 ∷ begins 182 183 ∷ goes_on 2 2 ∷ [])
  -- 183 left: "where the one byte left would be needed by the pointer"
  pub one_byte_left : (366 ∷ 3 ∷ []) give (begins 0 183 ∷ goes_on 183 183 ∷ begins 0 3 ∷ [])
  -- 184 left: none is
  pub none_left : (367 ∷ 3 ∷ []) give (begins 0 183 ∷ goes_on 184 184 ∷ begins 0 3 ∷ [])

-- ---- the bytes of packets

pub record PacketsAtWork : Type 0 where
  -- document 01's packet
  pub the_worked_packet : packets_of 20 0 (tdt ∷ []) ≡ worked 0 ∷ []
  -- all bits of the PID; the counter goes from 15 to 0; the flag stands where the section begins
  pub headers : map (take 4) (packets_of 8191 15 (replicate 184 0 ∷ []))
      ≡ (0x47 ∷ 0x5F ∷ 0xFF ∷ 0x1F ∷ []) ∷ (0x47 ∷ 0x1F ∷ 0xFF ∷ 0x10 ∷ []) ∷ []
  -- the pointer leads behind what is left: one byte, and the rest of the payload is filler
  pub pointer : map (take 7) (packets_of 20 0 (replicate 184 7 ∷ tdt ∷ []))
      ≡ (0x47 ∷ 0x40 ∷ 0x14 ∷ 0x10 ∷ 0 ∷ 7 ∷ 7 ∷ []) ∷ (0x47 ∷ 0x40 ∷ 0x14 ∷ 0x11 ∷ 1 ∷ 7 ∷ 0x70 ∷ []) ∷ []

-- ---- calls

-- what a call answers, with a room of so many bytes
abbrev pub answered : ℕ → ℕ → List ℕ → List ℕ → ℕ → Reply
answered pid counter bytes sizes room = (written pid counter bytes sizes (replicate room 0)).said

pub record CallsAtWork : Type 0 where
  -- the packet, and what stays of the room
  pub room_after : (written 20 0 tdt (8 ∷ []) (replicate 190 1)).room ≡ worked 0 ++ (1 ∷ 1 ∷ [])
  pub written_one : answered 20 0 tdt (8 ∷ []) 188 ≡ wrote 1
  -- all three apply, and one fewer each time
  pub pid_above : answered 8192 0 tdt (7 ∷ []) 187 ≡ refused_with 101
  pub counter_above : answered 8191 16 tdt (7 ∷ []) 187 ≡ refused_with 101
  pub other_length : answered 8191 15 tdt (7 ∷ []) 187 ≡ refused_with 102
  pub room_one_short : answered 8191 15 tdt (8 ∷ []) 187 ≡ refused_with 103
  -- bytes behind the last section, a size past the bytes, one of 0, one under 3, one that begins 0xFF
  pub bytes_behind : answered 20 0 (tdt ++ (0 ∷ [])) (8 ∷ []) 188 ≡ refused_with 102
  pub size_past : answered 20 0 tdt (18446744073709551615 ∷ []) 188 ≡ refused_with 102
  pub size-0 : answered 20 0 tdt (8 ∷ 0 ∷ []) 188 ≡ refused_with 102
  pub size-2 : answered 20 0 (0x70 ∷ 0x70 ∷ []) (2 ∷ []) 188 ≡ refused_with 102
  pub begins_ff : answered 20 0 (0xFF ∷ 0x70 ∷ 0x00 ∷ []) (3 ∷ []) 188 ≡ refused_with 102
  -- a section of 4,096 passes, one of 4,097 does not
  pub largest : answered 20 0 (0x70 ∷ 0x7F ∷ 0xFD ∷ replicate 4093 0) (4096 ∷ []) 4324 ≡ wrote 23
  pub one_larger : answered 20 0 (0x70 ∷ 0x7F ∷ 0xFE ∷ replicate 4094 0) (4097 ∷ []) 4324 ≡ refused_with 102
  -- no section: no packet, and no room is needed
  pub nothing : answered 20 0 [] [] 0 ≡ wrote 0

-- ---- records from which the packets go on: a fresh one; one with the counter before; one with a mark; one with a rejection's number

abbrev pub unmarked : Record
unmarked = record_with 20 (Some 15) false 0 0 (λ k. 5)

abbrev pub marked : Record
marked = record_with 20 (Some 15) true 0 0 (λ k. 4294967295)

abbrev pub numbered : ℕ → Record
numbered n = record_with 20 (Some 15) false n 0 (λ k. 5)

pub record RecordsReady : Type 0 where
  pub fresh : (counter : ℕ) → Ready 20 counter (fresh_record 20) hold₀
  pub with_counter : Ready 20 0 unmarked hold₀
  pub with_mark_lem : Ready 20 0 marked hold₀
  -- "any number but 0 to 10" is not ready
  pub with_number : (n : ℕ) → n ≤ 10 → Ready 20 0 (numbered n) hold₀
  pub no_other_number : (n : ℕ) → 10 < n → Ready 20 0 (numbered n) hold₀ → ⊥

-- ---- sections that are sent, of which the judge accepts some

abbrev pub mixed : List (List ℕ)
mixed =
    (0x70 ∷ 0x70 ∷ 0x00 ∷ [])
    ∷ tdt
    ∷ (0x00 ∷ 0x00 ∷ 0x00 ∷ [])
    ∷ (0x70 ∷ 0xF0 ∷ 0x00 ∷ [])
    ∷ tdt
    ∷ []

pub record MixedJudged : Type 0 where
  pub sendable : Each Sendable mixed
  pub accepted_are : accepted_among mixed ≡ tdt ∷ tdt ∷ []
  pub rejected_are : rejected_among mixed ≡ (0x70 ∷ 0x70 ∷ 0x00 ∷ []) ∷ (0x00 ∷ 0x00 ∷ 0x00 ∷ []) ∷ (0x70 ∷ 0xF0 ∷ 0x00 ∷ []) ∷ []
  pub numbers_are : map (λ s. number_of (judged s)) mixed ≡ 4 ∷ 0 ∷ 2 ∷ 3 ∷ 0 ∷ []
  -- "the last one only"
  pub last_is_lem : last_number 0 (rejected_among mixed) ≡ 3
  -- those that are accepted are each accepted
  pub each_accepted : Each (λ s. judged s ≡ accepted) (tdt ∷ tdt ∷ [])

-- what a fresh collector makes of their packets
abbrev pub MixedBack : Type 0
MixedBack = (calls : List Call) (r' : Record) (hold' : List ℕ) → Each (λ k. 4280 ≤ length k.out) calls
    → Run Promised (fresh_record 20) hold₀ calls r' hold' → map (λ k. k.packet) calls ≡ packets_of 20 0 mixed
    → (handed calls ≡ tdt ∷ tdt ∷ []) × (r'.accepted ≡ 16) × (r'.rejected ≡ 9) × (r'.rejection ≡ 3)
