-- What is said of a section, by whether it is accepted.
use mathlib.Core.Path.{◌≡◌, refl, sym}
use mathlib.Core.Bool.{true, false, false≢true}
use Rattle.verdict.specs.Verdict.{Said, accepted, refused, is_accepted, number_of, place_of, told_refusal}
use Rattle.verdict.specs.declared.Refusal.{Refusal}
use Rattle.verdict.specs.declared.Refusal.TheVariants.{TooShort, UnknownTable, WrongSyntax, LengthOutside, SizeDiffers, CrcFails, NumberAboveLast, LoopPast, DescriptorPast, BytesLeft}

pub is_accepted_lem : (v : Said) → is_accepted v ≡ true → v ≡ accepted
is_accepted_lem accepted h = refl
is_accepted_lem (refused k p) h = absurd (false≢true h)

pub is_refused : (v : Said) → is_accepted v ≡ false → v ≡ refused (number_of v) (place_of v)
is_refused accepted h = absurd (false≢true (sym h))
is_refused (refused k p) h = refl

pub refusal_lem : (r : Refusal) → is_accepted (told_refusal r) ≡ false
refusal_lem TooShort = refl
refusal_lem UnknownTable = refl
refusal_lem WrongSyntax = refl
refusal_lem LengthOutside = refl
refusal_lem SizeDiffers = refl
refusal_lem CrcFails = refl
refusal_lem NumberAboveLast = refl
refusal_lem (LoopPast p) = refl
refusal_lem (DescriptorPast p) = refl
refusal_lem (BytesLeft p) = refl
