-- `write_lists::times::time` meets its contract.
use Rattle.std.specs.Prelude.{Option, Some, None}
use mathlib.Core.Path.{◌≡◌}
use mathlib.Core.List.{List}
use Prim.Native.Nat.{ℕ, ◌^◌}
use native.Mathlib.Omega.{arith}
use borrow.Author.Tests.{ne_eqb}
use lib.IntN.{ℤ}
use lib.ListN.{drop}
use Rattle.writing.specs.Rows.{natural}
use Rattle.write_lists.specs.LocalTimeOffset.{at, moment}
use Rattle.write_lists.specs.Inner.Numbers.{Within}
use Rattle.write_lists.specs.Inner.Offsets.{some_time_bits, no_time_bits, moment_bits}
use Rattle.write_lists.proofs.ItemBytes.{moment_bits_lem}
use Rattle.write_lists.proofs.times.time.Goals as goal

module _ (zs : List ℤ) {r : Option ℕ} where
  outside : Within 2 (natural 2 (at zs 7)) None → r ≡ None → Within (2 ^ 40) (moment_bits (moment (drop 3 zs))) r
  outside read e = rw e (record { told = rw (moment_bits_lem, ← read.told); small = omega arith })

  module _ {undefined : ℕ} (read : Within 2 (natural 2 (at zs 7)) (Some undefined)) where
    none : undefined ≡ 1 → Within (2 ^ 40) (no_time_bits zs) r → Within (2 ^ 40) (moment_bits (moment (drop 3 zs))) r
    none h w = rw (moment_bits_lem, ← read.told, h) w

    some : (undefined ≡ 1 → ⊥) → Within (2 ^ 40) (some_time_bits zs) r
        → Within (2 ^ 40) (moment_bits (moment (drop 3 zs))) r
    some h w = rw (moment_bits_lem, ← read.told, ne_eqb undefined 1 h) w

pub returns-in_err-undefined : goal.returns-in_err-undefined
returns-in_err-undefined c = outside c.args.row.now c.in_err-undefined.ensures c.from_residual.ensures

pub returns-then-undefined-eq1 : goal.returns-then-undefined-eq1
returns-then-undefined-eq1 c = none c.args.row.now c.in_ok-undefined.ensures c.if-undefined-eq1.true c.no_time.ensures

pub returns-else-undefined-eq1 : goal.returns-else-undefined-eq1
returns-else-undefined-eq1 c = some c.args.row.now c.in_ok-undefined.ensures c.if-undefined-eq1.false c.some_time.ensures
