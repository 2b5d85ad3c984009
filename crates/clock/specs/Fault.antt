-- What the readings of fields, times and descriptors answer, and the numbers of what can be wrong with a field.
use Rattle.std.specs.Prelude.{ℕ, ◌≡◌, Result as Returned, Ok, Err}
use Rattle.wire.specs.Reading.{Result, value, refused}
use Rattle.clock.specs.declared.Fault.{Fault}
use Rattle.clock.specs.declared.Fault.TheVariants.{BadDigit, OutOfRange, TooEarly}

-- what a refusal of a reading tells: its number; of 63 to 65 the place of the field, and of 63 that of the digit in the field; else 0
pub record Why : Type 0 where
  pub number : ℕ
  pub place : ℕ
  pub digit : ℕ

-- a value, or a refusal
abbrev pub Answered : Type 0 → Type 0
Answered A = Result Why A

-- a refusal that tells its number and nothing else
abbrev pub plain : ℕ → Why
plain k = record { number = k; place = 0; digit = 0 }

-- the number of a refusal
abbrev pub number_of : Why → ℕ
number_of w = w.number

-- an answer is refused, and its number is k
abbrev pub RefusedAs : {A : Type 0} → ℕ → Answered A → Type 0
RefusedAs k (value a) = ⊥
RefusedAs k (refused w) = number_of w ≡ k

-- "63 BCD digit above 9", with the field's place and "the place of the first bad digit, counted in half bytes from the field's start"
abbrev pub bad_digit : ℕ → ℕ → Why
bad_digit at j = record { number = 63; place = at; digit = j }

-- "64 hour above 23, minute or second above 59"; "refusals 64 and 65 carry the field's place too"
abbrev pub outOfRange : ℕ → Why
outOfRange at = record { number = 64; place = at; digit = 0 }

-- "65 MJD below 15,079"
abbrev pub too_early : ℕ → Why
too_early at = record { number = 65; place = at; digit = 0 }

-- "Every reading of BCD passes it on with the field's place"
abbrev pub in_field : {A : Type 0} → ℕ → Result ℕ A → Answered A
in_field at (value a) = value a
in_field at (refused j) = refused (bad_digit at j)

-- what is told of a fault
abbrev pub numbered : Fault → Why
numbered (BadDigit at j) = bad_digit at j
numbered (OutOfRange at) = outOfRange at
numbered (TooEarly at) = too_early at

-- what a reading returns, as document 01 tells it
abbrev pub told : {A : Type 0} → Returned A Fault → Answered A
told (Ok a) = value a
told (Err f) = refused (numbered f)
