-- The days of a month by the list of twelve.
use mathlib.Core.Path.{◌≡◌, refl}
use mathlib.Core.Bool.{true, false}
use mathlib.Core.List.{List}
use Prim.Native.Nat.{ℕ, zero, suc, ◌+◌, ◌-◌, ◌≤◌}
use native.Mathlib.Omega.{arith}
use lib.ListN.{get_or}
use Rattle.calendar.specs.Calendar.{leap, days_in}
use Rattle.calendar.proofs.Dates.{lengths}

-- the months of a common year, of 1901 say: by computation the list of the code
abbrev pub months : List ℕ
months = lengths 1901

-- they are those of every year, but for a leap year's February
same_but_february : (y i : ℕ) → (i ≡ 1 → leap y ≡ false) → get_or months i 0 ≡ get_or (lengths y) i 0
same_but_february y zero h = refl
same_but_february y (suc zero) h = rw (h refl) refl
same_but_february y (suc (suc i)) h = refl

module _ (y m : ℕ) where
  pub by_the_list : 1 ≤ m → (m ≡ 2 → leap y ≡ false) → get_or months (m - 1) 0 ≡ days_in y m
  by_the_list p h = same_but_february y (m - 1) (λ (e : m - 1 ≡ 1). h (omega arith))

  pub a_day_more : m ≡ 2 → leap y ≡ true → get_or months (m - 1) 0 + 1 ≡ days_in y m
  a_day_more e f = rw (e, f) refl
