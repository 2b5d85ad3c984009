-- What a reading tells: the value it found, or why it is refused.
use Rattle.std.specs.Prelude.{ℕ}

-- a value of A, or a refusal that tells a W
pub data Result (W A : Type 0) : Type 0 where
  value : A → Result W A
  refused : W → Result W A

-- the reading of a value of A, whose refusal is a number
abbrev pub Reading : Type 0 → Type 0
Reading A = Result ℕ A

-- one reading after another; the first refusal is the answer
infixl 1 ◌>>=◌
abbrev pub ◌>>=◌ : {W A B : Type 0} → Result W A → (A → Result W B) → Result W B
value a >>= f = f a
refused w >>= f = refused w
