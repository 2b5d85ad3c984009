-- "refusals 8 to 10 carry a place, counted from the section's first byte as 0; the others place 0."
use Prim.{Unit}
use Rattle.std.specs.Prelude.{ℕ, Bool, true, false, Result, Ok, Err}
use Rattle.verdict.specs.declared.Refusal.{Refusal}
use Rattle.verdict.specs.declared.Refusal.TheVariants.{TooShort, UnknownTable, WrongSyntax, LengthOutside, SizeDiffers, CrcFails, NumberAboveLast, LoopPast, DescriptorPast, BytesLeft}

-- what may be said of a section: that it is accepted, or a refusal's number and its place
pub data Said : Type 0 where
  accepted : Said
  refused : ℕ → ℕ → Said

-- a section is accepted, or why not
abbrev pub Verdict : Type 0
Verdict = Result (Unit {0}) Refusal

-- document 01's number and place for every refusal
abbrev pub told_refusal : Refusal → Said
told_refusal TooShort = refused 1 0
told_refusal UnknownTable = refused 2 0
told_refusal WrongSyntax = refused 3 0
told_refusal LengthOutside = refused 4 0
told_refusal SizeDiffers = refused 5 0
told_refusal CrcFails = refused 6 0
told_refusal NumberAboveLast = refused 7 0
told_refusal (LoopPast p) = refused 8 p
told_refusal (DescriptorPast p) = refused 9 p
told_refusal (BytesLeft p) = refused 10 p

-- and for every answer
abbrev pub told : Verdict → Said
told (Ok x) = accepted
told (Err r) = told_refusal r

-- whether it is accepted
abbrev pub is_accepted : Said → Bool
is_accepted accepted = true
is_accepted (refused k p) = false

-- the refusal's number; 0 where it is accepted
abbrev pub number_of : Said → ℕ
number_of accepted = 0
number_of (refused k p) = k

-- the refusal's place
abbrev pub place_of : Said → ℕ
place_of accepted = 0
place_of (refused k p) = p
