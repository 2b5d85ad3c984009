-- The bytes of a number, the highest first.
use Rattle.std.specs.Prelude.{List, [], ◌∷◌, ℕ, zero, suc, ◌*◌, ◌/◌, ◌%◌, ◌^◌}

-- the n low bytes of x
unfoldable pub ofNumber : ℕ → ℕ → List ℕ
ofNumber zero x = []
ofNumber (suc n) x = (x / 2 ^ (8 * n) % 256) ∷ ofNumber n x
