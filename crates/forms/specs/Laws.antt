-- The two laws of a form: what is shown is read, and what is read is what is shown.
use Rattle.std.specs.Prelude.{ℕ, ◌≡◌, List, ◌++◌}
use Rattle.wire.specs.Bytes.{Bytes}
use Rattle.wire.specs.Reading.{value}
use Rattle.forms.specs.Form.{Form}

-- what is shown is read, whatever stands behind it
abbrev pub Complete : {A : Type 0} → Form A → Type 0
Complete c = (a : _) (r : List ℕ) → c.Ok a → c.read (c.show a ++ r) ≡ value (a, r)

-- what is read is what is shown
abbrev pub Sound : {A : Type 0} → Form A → Type 0
Sound c = (s : List ℕ) (a : _) (r : List ℕ) → Bytes s → c.read s ≡ value (a, r) → (s ≡ c.show a ++ r) × c.Ok a

-- both
pub record Lawful {A : Type 0} (c : Form A) : Type 0 where
  pub sound : Sound c
  pub complete : Complete c
