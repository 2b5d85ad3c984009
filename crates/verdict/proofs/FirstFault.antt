-- Of two answers the first refusal, as the code's `?` hands it on.
use mathlib.Core.Path.{◌≡◌, refl}
use Rattle.verdict.specs.Verdict.{Said, accepted, refused, told_refusal}
use Rattle.verdict.specs.declared.Refusal.{Refusal}
use Rattle.verdict.specs.declared.Refusal.TheVariants.{TooShort, UnknownTable, WrongSyntax, LengthOutside, SizeDiffers, CrcFails, NumberAboveLast, LoopPast, DescriptorPast, BytesLeft}

abbrev pub first_fault : Said → Said → Said
first_fault accepted w = w
first_fault (refused k p) w = refused k p

pub nothing_behind : (v : Said) → first_fault v accepted ≡ v
nothing_behind accepted = refl
nothing_behind (refused k p) = refl

pub fault_first : (r : Refusal) (w : Said) → first_fault (told_refusal r) w ≡ told_refusal r
fault_first TooShort w = refl
fault_first UnknownTable w = refl
fault_first WrongSyntax w = refl
fault_first LengthOutside w = refl
fault_first SizeDiffers w = refl
fault_first CrcFails w = refl
fault_first NumberAboveLast w = refl
fault_first (LoopPast p) w = refl
fault_first (DescriptorPast p) w = refl
fault_first (BytesLeft p) w = refl
