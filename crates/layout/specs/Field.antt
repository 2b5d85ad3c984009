-- A number in BCD at a place of a body.
use Rattle.std.specs.Prelude.{List, ℕ, ◌-◌, ◌*◌, ◌/◌, ◌^◌}
use Rattle.wire.specs.Number.{number_at}
use Rattle.wire.specs.Digits.{bcd_of}
use Rattle.clock.specs.Fault.{Answered, in_field}

-- n digits: the first of the eight that stand in the four bytes at a place; more than eight are eight
unfoldable pub digits_at : List ℕ → ℕ → ℕ → Answered ℕ
digits_at body at n = in_field at (bcd_of (number_at 4 body at / 2 ^ (4 * (8 - n))) (8 - (8 - n)))
