-- The packets: "188-byte packets out, without adaptation fields".
use Rattle.std.specs.Prelude.{Bool, List, [], ◌∷◌, ◌++◌, map, ℕ, ◌+◌, ◌/◌, ◌%◌, if◌then◌else◌}
use Rattle.writer.specs.Layout.{Cell, pointer, byte, filler, Payload, layout}

-- a filler byte is 0xFF, as document 01's collector looks for it where a section would begin
abbrev pub value_of : Cell ℕ → ℕ
value_of (pointer p) = p
value_of (byte b) = b
value_of filler = 0xFF

-- sync byte; the start flag over the high five bits of the PID; its low eight; adaptation control 01 over the counter
abbrev pub header_of : ℕ → ℕ → Bool → List ℕ
header_of pid counter start = 0x47 ∷ ((if start then 0x40 else 0) + pid / 256) ∷ (pid % 256) ∷ (0x10 + counter) ∷ []

abbrev pub packet_of : ℕ → ℕ → Payload ℕ → List ℕ
packet_of pid counter p = header_of pid counter p.start ++ map value_of p.cells

-- the counter goes up by 1 modulo 16 from one to the next
abbrev pub packets_from : ℕ → ℕ → List (Payload ℕ) → List (List ℕ)
packets_from pid counter [] = []
packets_from pid counter (p ∷ ps) = packet_of pid counter p ∷ packets_from pid ((counter + 1) % 16) ps

-- "sections, PID and first counter in; 188-byte packets out"
abbrev pub packets_of : ℕ → ℕ → List (List ℕ) → List (List ℕ)
packets_of pid counter sections = packets_from pid counter (layout sections)
