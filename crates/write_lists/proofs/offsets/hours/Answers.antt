-- `write_lists::offsets::hours` meets its contract.
use Rattle.std.specs.Prelude.{Option, None}
use mathlib.Core.Path.{◌≡◌}
use Prim.Native.Nat.{ℕ, ◌/◌, ◌%◌, ◌^◌, ◌≤◌, ◌<◌}
use native.Mathlib.Omega.{arith}
use borrow.Author.Tests.{lt-ltb, le-ltb}
use Rattle.wire.specs.Reading.{value}
use Rattle.writing.specs.declared.rows.Sized.{Sized}
use Rattle.write_lists.specs.Inner.Numbers.{told_bits, bits_or, joint, digits, Within}
use Rattle.write_lists.specs.Inner.Offsets.{hours_in}
use Rattle.write_lists.proofs.offsets.hours.Goals as goal

module _ (offset : Sized) where
  too_long : 1440 ≤ offset.size → Within (2 ^ 16) (hours_in offset) None
  unfolding hours_in
  too_long h = record { told = rw (le-ltb offset.size 1440 h); small = omega arith }

  in-a-day : {b : Option ℕ} → offset.size < 1440
      → told_bits b ≡ joint (digits (value (offset.size / 60))) 256 (digits (value (offset.size % 60)))
      → bits_or b < 2 ^ 16
      → Within (2 ^ 16) (hours_in offset) b
  unfolding hours_in
  in-a-day h e small = record { told = rw (lt-ltb offset.size 1440 h) e; small = small }

pub returns-then-minutes-ge1440 : goal.returns-then-minutes-ge1440
returns-then-minutes-ge1440 c = search too_long

pub returns : goal.returns
returns c = in-a-day _ (omega arith) (cc) (omega arith)
