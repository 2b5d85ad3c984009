-- When a copy is made, and what it leaves.
use Prim.Native.Nat.{ℕ, ◌+◌, ◌≤◌}
use mathlib.Core.Path.{◌≡◌, refl, sym, ◌∙◌}
use mathlib.Core.List.{List}
use mathlib.Core.Bool.{Bool, true, false}
use borrow.Author.Tests.{le-leb, leb-true}
use lib.ListN.{length, drop}
use lib.Seq.{paste}
use lib.Dec.{leb}
use Rattle.std.specs.Prelude.{if◌then◌else◌}
use Rattle.wire.proofs.IfLaws.{true_not_false}
use Rattle.copy.specs.Copy.{copies, copied}

module _ (s : List ℕ) (from n : ℕ) (d : List ℕ) (at : ℕ) where
  -- s has the bytes and d the room
  module _ (h : from + n ≤ length s) (g : at + n ≤ length d) where
    pub copies_yes : copies s from n d at ≡ true
    unfolding copies
    copies_yes = rw (le-leb (from + n) (length s) h, le-leb (at + n) (length d) g)

    pub copied_yes : copied s from n d at ≡ paste d at (drop from s) n
    unfolding copied
    copied_yes = rw copies_yes

  -- a copy that is not made: s has not the bytes, or d not the room
  pub copies_not : {r : Bool} → r ≡ copies s from n d at → r ≡ false → from + n ≤ length s → at + n ≤ length d → ⊥
  copies_not e f h g = true_not_false (sym (copies_yes h g) ∙ sym e ∙ f)

  -- a copy that is made: s has the bytes and d the room
  pub copies_fits : {r : Bool} → r ≡ copies s from n d at → r ≡ true → (from + n ≤ length s) × (at + n ≤ length d)
  unfolding copies
  copies_fits e f = go (leb (from + n) (length s)) (leb (at + n) (length d)) refl refl (sym e ∙ f)
    where
      go : (x y : Bool) → leb (from + n) (length s) ≡ x → leb (at + n) (length d) ≡ y → (if x then y else false) ≡ true
          → (from + n ≤ length s) × (at + n ≤ length d)
      go true true ex ey z = (leb-true (from + n) (length s) ex, leb-true (at + n) (length d) ey)
      go true false ex ey z = absurd (true_not_false (sym z))
      go false y ex ey z = absurd (true_not_false (sym z))
