-- Where the bytes of sections stand in payloads of 184 bytes. A layout looks at sizes alone, so a section's bytes may be any things.
use Rattle.std.specs.Prelude.{Bool, true, false, ◌&&◌, ℕ, ◌+◌, ◌-◌, length, take, drop, replicate, ltb, leb, eqb, if◌then◌else◌}
use mathlib.Core.List.{List, [], ◌∷◌, ◌++◌, map, flatten}
use Rattle.wire.specs.Trail.{Pace, on, stop, trail}

-- ---- by sizes alone

-- what is ahead of a packet: the bytes left of the section begun, and the sizes of the sections that wait
pub record Ahead : Type 0 where
  pub left : ℕ
  pub waiting : List ℕ

abbrev pub sum : List ℕ → ℕ
sum [] = 0
sum (n ∷ ns) = n + sum ns

-- all the bytes ahead
abbrev pub bytes_ahead : Ahead → ℕ
bytes_ahead a = a.left + sum a.waiting

-- what is ahead once n bytes more are laid: a section is begun by its first byte
abbrev pub opened : ℕ → ℕ → List ℕ → Ahead
opened n left [] = record { left = left - n; waiting = [] }
opened n left (size ∷ waiting) =
    if ltb left n then opened n (left + size) waiting else record { left = left - n; waiting = size ∷ waiting }

-- a packet: whether it has the start flag, the bytes left of the section begun, and how many bytes of sections it has
pub record Turn : Type 0 where
  pub start : Bool
  pub left : ℕ
  pub bytes : ℕ

abbrev pub least : ℕ → ℕ → ℕ
least m n = if leb m n then m else n

abbrev pub waits : List ℕ → Bool
waits [] = false
waits (size ∷ sizes) = true

-- "The start flag stands only where a section begins": where one waits, and the pointer and its first byte find place behind what is left. "A
-- filler byte only where no section waits, or where the one byte left would be needed by the pointer": the packet has all the bytes ahead that
-- it can have, and without the flag none of a section that waits.
abbrev pub turn_with : Bool → ℕ → ℕ → Turn
turn_with one_waits left all =
    if one_waits && ltb left 183 then record { start = true; left = left; bytes = least 183 all }
    else record { start = false; left = left; bytes = least 184 left }

abbrev pub turn_of : Ahead → Turn
turn_of a = turn_with (waits a.waiting) a.left (bytes_ahead a)

-- what is ahead of the next packet
abbrev pub behind : Ahead → Ahead
behind a = opened (turn_of a).bytes a.left a.waiting

-- packet after packet, until nothing is ahead
abbrev pub pace : Ahead → Pace Ahead Turn (Unit {0})
pace a = if eqb (bytes_ahead a) 0 then stop tt else on (turn_of a) (behind a)

unfoldable pub turns_from : Ahead → List Turn
turns_from a = (trail pace tt bytes_ahead a).items

-- nothing begun
abbrev pub unbegun : List ℕ → Ahead
unbegun sizes = record { left = 0; waiting = sizes }

-- ---- the bytes

-- what a byte of payload is: a pointer, a section's byte, or filler
pub data Cell (A : Type 0) : Type 0 where
  pointer : ℕ → Cell A
  byte : A → Cell A
  filler : Cell A

-- a packet's start flag and its payload
pub record Payload (A : Type 0) : Type 0 where
  pub start : Bool
  pub cells : List (Cell A)

module _ {A : Type 0} where
  -- with the flag "one pointer byte p", and p bytes stand before the first section that begins
  abbrev pub pointed : Turn → List (Cell A)
  pointed t = if t.start then pointer t.left ∷ [] else []

  -- filler to the end
  abbrev pub filled_up : List (Cell A) → List (Cell A)
  filled_up cells = cells ++ replicate (184 - length cells) filler

  abbrev pub payload_of : Turn → List A → Payload A
  payload_of t bytes = record { start = t.start; cells = filled_up (pointed t ++ map byte (take t.bytes bytes)) }

  -- the bytes, packet after packet
  abbrev pub laid_out : List Turn → List A → List (Payload A)
  laid_out [] bytes = []
  laid_out (t ∷ ts) bytes = payload_of t bytes ∷ laid_out ts (drop t.bytes bytes)

  abbrev pub layout : List (List A) → List (Payload A)
  layout sections = laid_out (turns_from (unbegun (map length sections))) (flatten sections)
