-- "A loop is a 12-bit length in the low bits of two bytes": the 12 low bits of the number that the two bytes are.
use mathlib.Core.Path.{◌≡◌}
use mathlib.Core.List.{[], ◌∷◌}
use Prim.Native.Nat.{ℕ, ◌^◌, ◌%◌, ◌<◌}
use native.Mathlib.Omega.{arith}
use Rattle.wire.specs.Bytes.{len12}
use Rattle.wire.specs.Number.{number}

pub low_twelve : (high low : ℕ) → low < 256 → len12 high low ≡ number (high ∷ low ∷ []) % 2 ^ 12
low_twelve high low h = omega arith
