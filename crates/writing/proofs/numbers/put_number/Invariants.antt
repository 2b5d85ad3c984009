-- `writing::numbers::put_number` meets its contract.
use mathlib.Core.Path.{◌≡◌}
use Prim.Native.Nat.{◌+◌, ◌≤◌}
use lib.ListN.{length, take}
use Rattle.forms.specs.Room.{put}
use Rattle.writing.specs.Number.{ofNumber}
use Rattle.writing.proofs.numbers.put_number.Given as goal

abbrev pub invariant-loop-i : goal.invariant-loop-i
invariant-loop-i l =
    (l.to + l.n ≤ length l.initial.room)
    × (l.room ≡ put l.initial.room l.to (take l.i (ofNumber l.n l.x)))
