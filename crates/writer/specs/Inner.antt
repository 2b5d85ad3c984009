-- Contracts among this crate's own functions: nothing that a caller must believe.
use Rattle.std.specs.Prelude.{◌≡◌, List, [], ◌∷◌, ℕ, ◌+◌, ◌≤◌, ◌<◌, length, drop, if◌then◌else◌, Option, None, Some}
use Rattle.writer.specs.Layout as Layout
use Rattle.writer.specs.Layout.{turn_of, behind, turns_from, payload_of}
use Rattle.writer.specs.Packets.{packet_of}
use Rattle.writer.specs.declared.layout.Ahead.{Ahead}
use Rattle.writer.specs.declared.layout.Turn.{Turn}
use Rattle.writer.specs.declared.layout.Leap.{Leap}
use Rattle.writer.specs.declared.stream.Stream.{Stream}

-- what is ahead, by the sizes
abbrev pub ahead_of : Ahead → Layout.Ahead
ahead_of a = record { left = a.left; waiting = a.waiting.now }

-- a packet of the layout has a pointer where it has the start flag
abbrev pub turn_said : Layout.Turn → Turn
turn_said t = record { pointer = if t.start then Some t.left else None; bytes = t.bytes }

-- the pointer's byte
abbrev pub pointed_at : Option ℕ → List ℕ
pointed_at None = []
pointed_at (Some p) = p ∷ []

-- some packets more: they are the first of the turns from a on
pub record Leaps (a : Ahead) (l : Leap) : Type 0 where
  pub turns : length (turns_from (ahead_of a)) ≡ l.packets + length (turns_from (ahead_of l.ahead))
  pub falls : length l.ahead.bytes.now + l.packets ≤ length a.bytes.now
  pub some : 0 < l.packets

-- the next packet is there, and b is left
pub record Puts (stream : Stream) (a : Ahead) (packet : List ℕ) (b : Ahead) : Type 0 where
  pub packet_is : packet ≡ packet_of stream.pid stream.counter (payload_of (turn_of (ahead_of a)) a.bytes.now)
  pub next_is : ahead_of b ≡ behind (ahead_of a)
  pub bytes_are : b.bytes.now ≡ drop (turn_of (ahead_of a)).bytes a.bytes.now
