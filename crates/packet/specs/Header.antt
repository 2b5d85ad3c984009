-- The header of a packet, as document 01 condenses ISO/IEC 13818-1, and what follows the header. A packet is its list of bytes; a byte that
-- is not there reads as 0, and refusal 41 comes before any of these is looked at.
use Rattle.std.specs.Prelude.{Bool, ◌&&◌, List, ℕ, ◌+◌, ◌*◌, ◌/◌, ◌%◌, drop, get_or, eqb, leb, if◌then◌else◌}

-- byte 1, from its high bit: transport_error_indicator, the start flag, transport_priority (never read), five bits of the PID
abbrev pub transport_error : List ℕ → Bool
transport_error packet = leb 128 (get_or packet 1 0)

abbrev pub start_flag : List ℕ → Bool
start_flag packet = eqb (get_or packet 1 0 / 64 % 2) 1

-- the low five bits of byte 1 and the eight of byte 2
abbrev pub pid_of : List ℕ → ℕ
pid_of packet = get_or packet 1 0 % 32 * 256 + get_or packet 2 0

-- byte 3, from its high bits: scrambling control, adaptation control, two bits each, and the counter
abbrev pub scrambling : List ℕ → ℕ
scrambling packet = get_or packet 3 0 / 64

abbrev pub control : List ℕ → ℕ
control packet = get_or packet 3 0 / 16 % 4

abbrev pub counter_of : List ℕ → ℕ
counter_of packet = get_or packet 3 0 % 16

-- the length of the adaptation field, where control is 10 or 11
abbrev pub adaptation : List ℕ → ℕ
adaptation packet = get_or packet 4 0

-- "An adaptation field of at least one byte with that bit set": discontinuity_indicator, the first bit of the field's first byte
abbrev pub bit_of_field : List ℕ → Bool
bit_of_field packet = leb 1 (adaptation packet) && leb 128 (get_or packet 5 0)

-- and there is a field, under control 10 or 11
abbrev pub discontinuity : List ℕ → Bool
discontinuity packet = leb 2 (control packet) && bit_of_field packet

-- the payload follows the header, and under control 11 the adaptation field after it
abbrev pub payload_from : List ℕ → ℕ
payload_from packet = if eqb (control packet) 1 then 4 else 5 + adaptation packet

abbrev pub payload_of : List ℕ → List ℕ
payload_of packet = drop (payload_from packet) packet

-- where the start flag stands: "one pointer byte p"
abbrev pub pointer_of : List ℕ → ℕ
pointer_of packet = get_or packet (payload_from packet) 0
