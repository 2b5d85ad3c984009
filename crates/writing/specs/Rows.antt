-- Items as rows of numbers of either sign.
use Rattle.std.specs.Prelude.{ℕ, zero, suc, ◌+◌, ◌/◌, ◌%◌, Bool, true, false, List, [], ◌∷◌, ◌++◌, ltb, eqb, ℤ, pos, negsuc, nat_abs, length, drop, if◌then◌else◌}
use Rattle.wire.specs.Reading.{Reading, value, refused, ◌>>=◌}
use Rattle.clock.specs.Fault.{Answered}
use Rattle.writing.specs.declared.rows.Sized.{Sized}

-- a number by its sign and its size
abbrev pub belowZero : ℤ → Bool
belowZero (pos n) = false
belowZero (negsuc n) = true

abbrev pub sized : ℤ → Sized
sized z = record { below_zero = belowZero z; size = nat_abs z }

-- "112 a field outside its layout": a number from 0 on, below a limit
unfoldable pub natural : ℕ → ℤ → Reading ℕ
natural limit (pos n) = if ltb n limit then value n else refused 112
natural limit (negsuc n) = refused 112

module _ {A : Type 0} where
  -- the items of n rows of k numbers; `item` makes one of the numbers that a list begins with
  unfoldable pub rows : ℕ → (List ℤ → Reading A) → ℕ → List ℤ → Reading (List A)
  rows k item zero zs = value []
  rows k item (suc n) zs = item zs >>= λ a. rows k item n (drop k zs) >>= λ l. value (a ∷ l)

  -- the items of a list of numbers: an item that lacks a field has no layout
  unfoldable pub items_of : ℕ → (List ℤ → Reading A) → List ℤ → Reading (List A)
  items_of k item zs = if eqb (length zs % k) 0 then rows k item (length zs / k) zs else refused 112

  -- what each shows, one behind the other
  unfoldable pub together : {B : Type 0} → (A → List B) → List A → List B
  together show [] = []
  together show (a ∷ l) = show a ++ together show l

  -- n items that are read by their index, from an index on
  unfoldable pub items_from : (ℕ → Answered A) → ℕ → ℕ → Answered (List A)
  items_from read i zero = value []
  items_from read i (suc n) = read i >>= λ a. items_from read (i + 1) n >>= λ l. value (a ∷ l)
