-- The first of k numbers at which a test holds, from one of them on: it is this one, or it is among those that follow, or there is none.
use Prim.Native.Nat.{ℕ, suc, ◌-◌, ◌+◌, ◌<◌}
use mathlib.Core.Path.{◌≡◌, ◌∙◌}
use mathlib.Core.Bool.{Bool, true, false}
use native.Mathlib.Omega.{arith}
use Rattle.std.specs.Prelude.{if◌then◌else◌}
use Rattle.tables.specs.Tables.{first}

module _ (k i : ℕ) (p : ℕ → Bool) where
  turn : i < k → first (k - i) i p ≡ (if p i then i else first (k - (i + 1)) (i + 1) p)
  unfolding first
  turn h =
      let e : k - i ≡ suc (k - (i + 1)) = omega arith in
      rw e

  pub first_here : i < k → p i ≡ true → first (k - i) i p ≡ i
  first_here h q = turn h ∙ rw q

  pub first_on : i < k → p i ≡ false → first (k - i) i p ≡ first (k - (i + 1)) (i + 1) p
  first_on h q = turn h ∙ rw q

  pub first_none : i ≡ k → first (k - i) i p ≡ i
  unfolding first
  first_none h =
      let e : k - i ≡ 0 = omega arith in
      rw e
