-- One of two values of any kind, by a test: `if` of the library chooses among values of a small type alone.
use Rattle.std.specs.Prelude.{Bool, true, false}

-- the first value where the test holds
infix 1 choose◌then◌else◌
abbrev pub choose◌then◌else◌ {ℓ} : {A : Type ℓ} → Bool → A → A → A
choose true then a else b = a
choose false then a else b = b
