-- When a move within one list is made, and what it leaves.
use Prim.Native.Nat.{ℕ, ◌+◌, ◌≤◌}
use mathlib.Core.Path.{◌≡◌, sym, ap, ◌∙◌, subst}
use mathlib.Core.List.{List}
use mathlib.Core.Bool.{true}
use native.Mathlib.Omega.{arith}
use borrow.Author.Tests.{le-leb}
use lib.ListN.{length, drop, take, length-drop}
use lib.Seq.{paste, length-paste, take-paste, drop-paste, drop_at, length-take-le}
use Rattle.copy.specs.Move.{moves_down, moved_down, moves_up, movedUp, Moved, MovesDown, MovesUp}
use Rattle.copy.proofs.Moves.{before, part}

module _ (l : List ℕ) (from n to : ℕ) where
  module _ (low : to ≤ from) (fits : from + n ≤ length l) where
    pub moves_down_yes : moves_down l from n to ≡ true
    unfolding moves_down
    moves_down_yes = rw (le-leb to from low, le-leb (from + n) (length l) fits)

    pub moved_down_yes : moved_down l from n to ≡ paste l to (drop from l) n
    unfolding moved_down
    moved_down_yes = rw moves_down_yes

  module _ (high : from ≤ to) (fits : to + n ≤ length l) where
    pub moves_up_yes : moves_up l from n to ≡ true
    unfolding moves_up
    moves_up_yes = rw (le-leb from to high, le-leb (to + n) (length l) fits)

    pub moved_up_yes : movedUp l from n to ≡ paste l to (drop from l) n
    unfolding movedUp
    moved_up_yes = rw moves_up_yes

-- ---- what a move leaves

pasted : (l : List ℕ) (from n to : ℕ) → from + n ≤ length l → to + n ≤ length l
    → Moved l (paste l to (drop from l) n) from n to
pasted l from n to had-there fits =
    let s = drop from l in
    let long : n ≤ length s = omega (arith, length-drop from l) in
    let low : to ≤ length l = omega arith in
    let low-after : to ≤ length (paste l to s n) = omega (arith, length-paste l to s n fits long) in
    record {
      before = before l s to n to low long (omega arith);
      there =
          sym (part (paste l to s n) to n low-after)
          ∙ ap (drop to) (take-paste l to s n low long)
          ∙ drop_at (take to l) (take n s) to (length-take-le to l low);
      behind = drop-paste l to s n low long;
    }

pub moves_down_lem : MovesDown
moves_down_lem l from n to low fits =
    subst (λ (l' : List ℕ). Moved l l' from n to) (sym (moved_down_yes l from n to low fits))
    (pasted l from n to fits (omega arith))

pub moves_up_lem : MovesUp
moves_up_lem l from n to high fits =
    subst (λ (l' : List ℕ). Moved l l' from n to) (sym (moved_up_yes l from n to high fits))
    (pasted l from n to (omega arith) fits)
