-- Laws of readings: a value is no refusal, and what is read through two readings was read through the first.
use mathlib.Core.Path.{◌≡◌, refl, sym}
use Prim.Native.Nat.{ℕ}
use native.Mathlib.Omega.{arith}
use Rattle.wire.specs.Reading.{Result, value, refused, ◌>>=◌}

module _ {W A : Type 0} where
  pub value_is : {a b : A} → ◌≡◌ {A = Result W A} (value a) (value b) → a ≡ b
  value_is e = cc

  pub refused_is : {v w : W} → ◌≡◌ {A = Result W A} (refused v) (refused w) → v ≡ w
  refused_is e = cc

  pub never : {a : A} {w : W} → ◌≡◌ {A = Result W A} (value a) (refused w) → ⊥
  never e = let z : ◌≡◌ {A = ℕ} 0 1 = cc in omega arith

-- a value read through two readings was read through the first
pub through : {W A B : Type 0} (r : Result W A) (f : A → Result W B) (b : B) → (r >>= f) ≡ value b
    → (a : A) × (r ≡ value a) × (f a ≡ value b)
through (value a) f b e = (a, refl, e)
through (refused w) f b e = absurd (never (sym e))
