-- How a proof goes by the two cases of a test.
use mathlib.Core.Path.{◌≡◌, refl}
use mathlib.Core.Bool.{Bool, true, false}
use Prim.Native.Nat.{ℕ}
use native.Mathlib.Omega.{arith}
use Rattle.std.specs.Prelude.{if◌then◌else◌}
use Rattle.wire.specs.If.{choose◌then◌else◌}

-- what holds of each of the two values, where its test led there, holds of the one chosen
pub if-case {κ} : {A : Type 0} (P : A → Type κ) (b : Bool) {x y : A} → (b ≡ true → P x) → (b ≡ false → P y) → P (if b then x else y)
if-case P true h g = h refl
if-case P false h g = g refl

pub choose-case {ℓ κ} : {A : Type ℓ} (P : A → Type κ) (b : Bool) {x y : A} → (b ≡ true → P x) → (b ≡ false → P y)
    → P (choose b then x else y)
choose-case P true h g = h refl
choose-case P false h g = g refl

-- a test does not end both ways
pub true_not_false : true ≡ false → ⊥
true_not_false e = let z : ◌≡◌ {A = ℕ} 0 1 = cc in omega arith
