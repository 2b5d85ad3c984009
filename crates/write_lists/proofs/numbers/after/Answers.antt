-- `write_lists::numbers::after` meets its contract.
use mathlib.Core.Path.{◌≡◌}
use mathlib.Core.List.{List}
use Prim.Native.Nat.{ℕ, ◌-◌}
use native.Mathlib.Nat.{le_of_eq}
use lib.IntN.{ℤ}
use lib.ListN.{length, take, drop, length-drop}
use lib.Seq.{take_all}
use Rattle.write_lists.proofs.numbers.after.Goals as goal

all-behind : (l : List ℤ) (n : ℕ) → take (length l - n) (drop n l) ≡ drop n l
all-behind l n = take_all (length l - n) (drop n l) (le_of_eq (length-drop n l))

pub returns : goal.returns
returns c = search all-behind
