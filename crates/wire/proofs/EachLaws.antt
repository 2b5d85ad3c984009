-- Laws of a property that every element of a list has.
use mathlib.Core.List.{List, [], ◌∷◌, ◌++◌}
use Prim.Native.Nat.{ℕ, zero, suc}
use lib.ListN.{take, drop}
use Rattle.wire.specs.Each.{Each}

module _ {A : Type 0} (P : A → Type 0) where
  pub each_append : (a c : List A) → Each P a → Each P c → Each P (a ++ c)
  each_append [] c x y = y
  each_append (b ∷ a) c x y = (x.0, each_append a c x.1 y)

  pub each_take : (n : ℕ) (l : List A) → Each P l → Each P (take n l)
  each_take zero l x = tt
  each_take (suc n) [] x = tt
  each_take (suc n) (a ∷ l) x = (x.0, each_take n l x.1)

  pub each_drop : (n : ℕ) (l : List A) → Each P l → Each P (drop n l)
  each_drop zero l x = x
  each_drop (suc n) [] x = tt
  each_drop (suc n) (a ∷ l) x = each_drop n l x.1

  pub each_of : ((a : A) → P a) → (l : List A) → Each P l
  each_of f [] = tt
  each_of f (a ∷ l) = (f a, each_of f l)

pub each_map : {A : Type 0} (P Q : A → Type 0) → ((a : A) → P a → Q a) → (l : List A) → Each P l → Each Q l
each_map P Q f [] x = tt
each_map P Q f (a ∷ l) x = (f a x.0, each_map P Q f l x.1)
