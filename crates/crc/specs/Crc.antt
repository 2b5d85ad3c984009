-- CRC_32 of ISO/IEC 13818-1, a bit at a time. The register is a number below 2 ^ 32.
-- "CRC_32: polynomial 0x04C11DB7, register preset to ones, high bit first, zero after the whole section."
use Rattle.std.specs.Prelude.{List, [], ◌∷◌, ℕ, zero, suc, ◌-◌, ◌*◌, ◌/◌, ◌%◌, ◌^◌, eqb, if◌then◌else◌}
use Rattle.std.specs.Int.Bits.{bit_xor}

-- "polynomial 0x04C11DB7"
abbrev pub poly : ℕ
poly = 0x04C11DB7

-- one bit x goes in: the register moves up a place, and the polynomial is added (xor) where x and the bit that leaves at the top differ
unfoldable pub feed : ℕ → ℕ → ℕ
feed r x = if eqb (r / 2 ^ 31) x then r * 2 % 2 ^ 32 else bit_xor (r * 2 % 2 ^ 32) poly

-- "high bit first": the n low bits of b go in, the highest of them first
unfoldable pub feed_bits : ℕ → ℕ → ℕ → ℕ
feed_bits zero b r = r
feed_bits (suc n) b r = feed_bits n b (feed r (b / 2 ^ n % 2))

-- the bytes of s go in, in their order
unfoldable pub feed_bytes : List ℕ → ℕ → ℕ
feed_bytes [] r = r
feed_bytes (b ∷ s) r = feed_bytes s (feed_bits 8 b r)

-- "register preset to ones": the register after the bytes of s
unfoldable pub crc : List ℕ → ℕ
crc s = feed_bytes s (2 ^ 32 - 1)

-- CRC_32 as it stands at the end of a section: the register's four bytes, the highest first
abbrev pub bytes_of : ℕ → List ℕ
bytes_of v = v / 2 ^ 24 ∷ v / 2 ^ 16 % 2 ^ 8 ∷ v / 2 ^ 8 % 2 ^ 8 ∷ v % 2 ^ 8 ∷ []
