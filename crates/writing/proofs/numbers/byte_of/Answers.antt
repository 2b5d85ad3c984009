-- `writing::numbers::byte_of` meets its contract.
use mathlib.Core.Path.{sym, ap}
use Prim.Native.Nat.{◌*◌, ◌%◌, ◌≤◌}
use native.Mathlib.Nat.{div-eq_of_lt, lt_of_lt_of_le}
use native.Mathlib.Omega.{arith}
use lib.Pow.{pow_mono}
use Rattle.writing.proofs.numbers.byte_of.Goals as goal

pub returns-then-k-gt7 : goal.returns-then-k-gt7
returns-then-k-gt7 c =
    let past : 64 ≤ 8 * c.args.k = omega arith in
    sym (ap (λ q. q % 256) (div-eq_of_lt (lt_of_lt_of_le c.ranges.x.fits (pow_mono past))))
