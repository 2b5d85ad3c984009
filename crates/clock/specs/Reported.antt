-- What is told of a field that is wrong, said of the bytes alone: no reading stands in here. A place counts in the bytes b.
use Rattle.std.specs.Prelude.{ℕ, ◌+◌, ◌*◌, ◌<◌, ◌≤◌, ◌≡◌, ◌⊎◌, List, [], ◌∷◌, ◌++◌, eqb, if◌then◌else◌}
use Rattle.wire.specs.Each.{Each}
use Rattle.wire.specs.Number.{number_at, half_byte}
use Rattle.wire.specs.Digits.{NoneBad, FirstBad}
use Rattle.wire.specs.Reading.{value, refused}
use Rattle.clock.specs.Fault.{Why, Answered, plain, number_of, bad_digit, outOfRange, too_early}

-- a field that can be refused, by the place of its first byte
pub data Checked : Type 0 where
  -- so many BCD digits
  digits : ℕ → ℕ → Checked
  -- two BCD digits, a number below a limit
  clock : ℕ → ℕ → Checked
  -- an MJD
  mjd : ℕ → Checked

-- the digits of a field at a place, "counted in half bytes from the field's start"
abbrev pub halves : List ℕ → ℕ → ℕ → ℕ
halves b at j = half_byte b (2 * at + j)

-- the number that two of them are
abbrev pub two_digits : List ℕ → ℕ → ℕ
two_digits b at = halves b at 0 * 10 + halves b at 1

-- nothing is wrong with a field
abbrev pub Right : List ℕ → Checked → Type 0
Right b (digits at n) = NoneBad (halves b at) n
Right b (clock at limit) = NoneBad (halves b at) 2 × (two_digits b at < limit)
Right b (mjd at) = 15079 ≤ number_at 2 b at

-- "63 BCD digit above 9": the first of n digits that is one is told
abbrev pub BadDigit : List ℕ → ℕ → ℕ → Why → Type 0
BadDigit b at n w = (j : ℕ) × FirstBad (halves b at) n j × (w ≡ bad_digit at j)

-- "64 hour above 23, minute or second above 59"
abbrev pub OutOfRange : List ℕ → ℕ → ℕ → Why → Type 0
OutOfRange b at limit w = NoneBad (halves b at) 2 × (limit ≤ two_digits b at) × (w ≡ outOfRange at)

-- "65 MJD below 15,079"
abbrev pub TooEarly : List ℕ → ℕ → Why → Type 0
TooEarly b at w = (number_at 2 b at < 15079) × (w ≡ too_early at)

-- w tells what is wrong with a field
abbrev pub Wrong : List ℕ → Why → Checked → Type 0
Wrong b w (digits at n) = BadDigit b at n w
Wrong b w (clock at limit) = BadDigit b at 2 w ⊎ OutOfRange b at limit w
Wrong b w (mjd at) = TooEarly b at w

-- "fields left to right": w tells what is wrong with the first field of a list that is wrong
abbrev pub FirstWrong : List ℕ → Why → List Checked → Type 0
FirstWrong b w [] = ⊥
FirstWrong b w (f ∷ fs) = Wrong b w f ⊎ (Right b f × FirstWrong b w fs)

-- what a reading makes of its fields, listed in the order in which it reads them
pub record Judged {A : Type 0} (b : List ℕ) (fs : List Checked) (r : Answered A) : Type 0 where
  pub read : (a : A) → r ≡ value a → Each (Right b) fs
  pub told : (w : Why) → r ≡ refused w → FirstWrong b w fs

-- a field out of the midst of a list: what is told is wrong with it, and each field in front of it is right
pub record Found (b : List ℕ) (w : Why) (fs : List Checked) (f : Checked) : Type 0 where
  pub front : List Checked
  pub behind : List Checked
  pub among : fs ≡ front ++ (f ∷ behind)
  pub right : Each (Right b) front
  pub wrong : Wrong b w f

-- any number but 63 to 65 is no field's: 61, 62 and 66, and the 0 of what is not refused
abbrev pub Bare : ℕ → Type 0
Bare k = (k < 63) ⊎ (65 < k)

-- what a refusal tells, whichever it is
pub record Tells (b : List ℕ) (fs : List Checked) (w : Why) : Type 0 where
  -- "63 BCD digit above 9": it stands at that half byte
  pub bad_digit_lem : number_of w ≡ 63 → 9 < half_byte b (2 * w.place + w.digit)
  -- "64 hour above 23, minute or second above 59": a field with a limit stands at that place, and is not below it
  pub out_of_range : number_of w ≡ 64 → (limit : ℕ) × (OutOfRange b w.place limit w × Found b w fs (clock w.place limit))
  -- "65 MJD below 15,079": it stands at that place
  pub too_early_lem : number_of w ≡ 65 → number_at 2 b w.place < 15079
  -- "then fields left to right": every field in front of it is right
  pub first : 62 < number_of w → number_of w < 66 → (f : Checked) × Found b w fs f
  -- any other carries its number alone
  pub bare : Bare (number_of w) → w ≡ plain (number_of w)

abbrev pub RefusalTells : {A : Type 0} → List ℕ → List Checked → Answered A → Type 0
RefusalTells b fs r = (w : Why) → r ≡ refused w → Tells b fs w

-- an offset at a place
abbrev pub offset_fields : ℕ → List Checked
offset_fields at = clock at 24 ∷ clock (at + 1) 60 ∷ []

-- a duration; "A duration's hours go to 99"
abbrev pub duration_fields : ℕ → List Checked
duration_fields at = clock at 100 ∷ clock (at + 1) 60 ∷ clock (at + 2) 60 ∷ []

-- a time; "Forty ones mean "undefined", before any check; else MJD, hour, minute and second are four fields."
abbrev pub time_fields : List ℕ → ℕ → List Checked
time_fields b at =
    if eqb (number_at 5 b at) 0xFF_FFFF_FFFF then []
    else mjd at ∷ clock (at + 2) 24 ∷ clock (at + 3) 60 ∷ clock (at + 4) 60 ∷ []
