-- Flags and refusals as numbers.
use Rattle.std.specs.Prelude.{ℕ, Bool, true, false, not, eqb}
use Rattle.clock.specs.Fault as fault
use Rattle.cabinet.specs.declared.numbers.Why.{Why}

-- a flag is 1 or 0
abbrev pub bit : Bool → ℕ
bit true = 1
bit false = 0

-- any number but 0
abbrev pub is_set : ℕ → Bool
is_set n = not (eqb n 0)

-- a refusal's number, place and digit
abbrev pub why_says : fault.Why → Why
why_says w = record { number = w.number; place = w.place; digit = w.digit }
