-- Why an out room of 4,280 bytes suffices: one call hands out 4,278 bytes at most. At most 4,095 are in hand, and of a
-- payload of 184 bytes one is the pointer; without the start flag at most one section ends, and no section has more
-- than 4,096.
use Rattle.std.specs.Prelude.{◌≡◌, false, ℕ, ◌%◌, ◌^◌, ◌≤◌, replicate, Some}
use mathlib.Core.List.{List, ◌∷◌, ◌++◌, flatten}
use Rattle.crc.specs.Crc.{crc, bytes_of}
use Rattle.collector.specs.Answer.{Outcome}
use Rattle.collector.specs.Collected.{record_with, collected}
use Rattle.collector.specs.declared.Record.{Record}
use Rattle.history.specs.Run.{Collector, told_by}

-- of a call with any record, hold, out room and packet
abbrev pub AtMost : ℕ → Collector → Type 0
AtMost n C = (r : Record) (hold out packet : List ℕ) (o : Outcome) → C r hold out packet o → told_by o.said ≤ n

-- a call that hands out so many: a section of 4,096 bytes, of which 4,095 are in hand, ends in front of the pointer's
-- target, and one of 182 bytes fills the rest. Each is an EIT of one event, whose descriptors fill it, with its CRC_32.
abbrev pub before : Record
before = record_with 20 (Some 0) false 0 4095 (λ k. 0)

abbrev pub closed : List ℕ → List ℕ
closed s = s ++ bytes_of (crc s)

-- a descriptor with n bytes in it
abbrev pub of_bytes : ℕ → List ℕ
of_bytes n = 0x00 ∷ n ∷ replicate n 0

abbrev pub longest : List ℕ
longest = 0x50 ∷ 0xFF ∷ 0xFD ∷ replicate 21 0 ++ (0x0F ∷ 0xE2 ∷ flatten (replicate 15 (of_bytes 255)) ++ of_bytes 209)

abbrev pub shorter : List ℕ
shorter = 0x50 ∷ 0xF0 ∷ 0xB3 ∷ replicate 21 0 ++ (0x00 ∷ 0x98 ∷ of_bytes 150)

-- the last byte of the first, and the second
abbrev pub fullest : List ℕ
fullest = 0x47 ∷ 0x40 ∷ 0x14 ∷ 0x11 ∷ 1 ∷ (crc longest % 2 ^ 8) ∷ closed shorter

abbrev pub Reaches : ℕ → Type 0
Reaches n = told_by (collected before (closed longest) (replicate 4280 0) fullest).said ≡ n
