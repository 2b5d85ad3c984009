-- Document 02's rule of a packet writer, said of packets alone: no layout is in it, and no packet is made.
use Rattle.std.specs.Prelude.{◌≡◌, ◌⊎◌, Bool, true, false, ℕ, ◌+◌, ◌/◌, ◌%◌, ◌<◌, length, get_or}
use mathlib.Core.List.{List, [], ◌∷◌, ◌++◌, map, flatten}
use Rattle.wire.specs.Each.{Each}
use Rattle.packet.specs.Header.{transport_error, start_flag, pid_of, scrambling, control, counter_of}
use Rattle.packet.specs.Header as Header
use Rattle.writer.specs.Layout.{Cell, pointer, byte, filler, Payload}
use Rattle.reverse.specs.Places.{Place, placed}

-- ---- what a payload's bytes are

abbrev pub value_of : Cell Place → ℕ
value_of (pointer p) = p
value_of (byte b) = b.value
value_of filler = 0xFF

-- the sections' bytes among them, in order
abbrev pub bytes_in : List (Cell Place) → List Place
bytes_in [] = []
bytes_in (pointer p ∷ cells) = bytes_in cells
bytes_in (byte b ∷ cells) = b ∷ bytes_in cells
bytes_in (filler ∷ cells) = bytes_in cells

abbrev pub NoPointer : Cell Place → Type 0
NoPointer (pointer p) = ⊥
NoPointer (byte b) = Unit {0}
NoPointer filler = Unit {0}

-- no pointer, and no section begins with it
abbrev pub BeginsNothing : Cell Place → Type 0
BeginsNothing (pointer p) = ⊥
BeginsNothing (byte b) = b.before ≡ 0 → ⊥
BeginsNothing filler = Unit {0}

-- ---- "188-byte packets out, without adaptation fields"

-- a packet of this PID, counter and payload, as document 01's collector reads it; transport_priority is 0
pub record Headed (pid counter : ℕ) (p : Payload Place) (packet : List ℕ) : Type 0 where
  pub long : length packet ≡ 188
  pub sync : get_or packet 0 0 ≡ 0x47
  pub no_error : transport_error packet ≡ false
  pub flag : start_flag packet ≡ p.start
  pub no_priority : get_or packet 1 0 / 32 % 2 ≡ 0
  pub a_byte : get_or packet 2 0 < 256
  pub pid_is : pid_of packet ≡ pid
  pub clear : scrambling packet ≡ 0
  pub no_field : control packet ≡ 1
  pub counter_is : counter_of packet ≡ counter
  pub payload_is : Header.payload_of packet ≡ map value_of p.cells

-- the first has the counter, and each other the one behind it modulo 16
abbrev pub AllHeaded : ℕ → ℕ → List (Payload Place) → List (List ℕ) → Type 0
AllHeaded pid counter [] [] = Unit {0}
AllHeaded pid counter [] (x ∷ xs) = ⊥
AllHeaded pid counter (p ∷ ps) [] = ⊥
AllHeaded pid counter (p ∷ ps) (x ∷ xs) = Headed pid counter p x × AllHeaded pid ((counter + 1) % 16) ps xs

-- ---- "The start flag stands only where a section begins"

-- with the flag: one pointer, at the start, that leads to the first byte with which a section begins
pub record Points (cells : List (Cell Place)) : Type 0 where
  pub to : ℕ
  pub front : List (Cell Place)
  pub first : Place
  pub back : List (Cell Place)
  pub whole : cells ≡ pointer to ∷ (front ++ (byte first ∷ back))
  pub leads : length front ≡ to
  pub begins : first.before ≡ 0
  pub none_before : Each BeginsNothing front
  pub no_other : Each NoPointer back

abbrev pub FlagBy : Bool → List (Cell Place) → Type 0
FlagBy true cells = Points cells
FlagBy false cells = Each BeginsNothing cells

-- ---- "a filler byte only where no section waits, or where the one byte left would be needed by the pointer"

-- no section waits: no byte of one is laid behind it
abbrev pub NoneWaits : List (Cell Place) → List (Payload Place) → Type 0
NoneWaits back ps = (bytes_in back ≡ []) × Each (λ p. bytes_in p.cells ≡ []) ps

-- it is the one byte left: the last of a payload without the flag, directly behind a section's last byte
pub record OneLeft (start : Bool) (front back : List (Cell Place)) : Type 0 where
  pub no_flag : start ≡ false
  pub last : back ≡ []
  pub others : List (Cell Place)
  pub end : Place
  pub directly : front ≡ others ++ (byte end ∷ [])
  pub ends : end.behind ≡ 0

abbrev pub FillerOnly : List (Payload Place) → Type 0
FillerOnly [] = Unit {0}
FillerOnly (p ∷ ps) =
    ((front back : List (Cell Place)) → p.cells ≡ front ++ (filler ∷ back) → NoneWaits back ps ⊎ OneLeft p.start front back)
    × FillerOnly ps

-- ---- the rule

-- these packets have these sections: each byte of theirs is laid once and in order, each payload has 184 bytes and one of a section at least
pub record Obeys (pid counter : ℕ) (sections packets : List (List ℕ)) : Type 0 where
  pub payloads : List (Payload Place)
  pub headed : AllHeaded pid counter payloads packets
  pub long : Each (λ p. length p.cells ≡ 184) payloads
  pub laid_once : flatten (map (λ p. bytes_in p.cells) payloads) ≡ flatten (placed sections)
  pub not_idle : Each (λ p. bytes_in p.cells ≡ [] → ⊥) payloads
  pub flags : Each (λ p. FlagBy p.start p.cells) payloads
  pub fillers : FillerOnly payloads

-- no filler stands between two bytes of one section
abbrev pub NoneInside : List (Payload Place) → Type 0
NoneInside ps = (a m c : List (Cell Place)) (x y : Place)
    → flatten (map (λ p. p.cells) ps) ≡ a ++ (byte x ∷ (m ++ (byte y ∷ c)))
    → x.section ≡ y.section
    → (m₁ m₂ : List (Cell Place)) → m ≡ m₁ ++ (filler ∷ m₂) → ⊥
