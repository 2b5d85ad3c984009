-- Bytes that stand in a room, and the room's other bytes.
use Rattle.std.specs.Prelude.{ℕ, ◌+◌, List, ◌++◌, length, take, drop}

-- bytes at a room's start; the bytes beyond stay
abbrev pub over : List ℕ → List ℕ → List ℕ
over bytes room = bytes ++ drop (length bytes) room

-- bytes in a room from index at on
abbrev pub laid : List ℕ → ℕ → List ℕ → List ℕ
laid room at bytes = take at room ++ (bytes ++ drop (at + length bytes) room)
