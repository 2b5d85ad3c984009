-- Two answers that say the same are the same answer: so each promise `told answer ≡ definition` allows one outcome.
use Prim.{tt}
use Prim.Native.Nat.{ℕ}
use mathlib.Core.Path.{◌≡◌, refl, sym, ◌∙◌, ap}
use lib.Dec.{eqb}
use Rattle.std.specs.Prelude.{if◌then◌else◌}
use Rattle.std.specs.Prelude.{Ok, Err}
use Rattle.verdict.specs.Verdict.{Verdict, told, number_of, place_of}
use Rattle.verdict.specs.declared.Refusal.TheVariants.{TooShort, UnknownTable, WrongSyntax, LengthOutside, SizeDiffers, CrcFails, NumberAboveLast, LoopPast, DescriptorPast, BytesLeft}

-- the verdict with a number and a place
pub verdict_of : ℕ → ℕ → Verdict
verdict_of k p =
    if eqb k 0 then Ok tt
    else if eqb k 1 then Err TooShort
    else if eqb k 2 then Err UnknownTable
    else if eqb k 3 then Err WrongSyntax
    else if eqb k 4 then Err LengthOutside
    else if eqb k 5 then Err SizeDiffers
    else if eqb k 6 then Err CrcFails
    else if eqb k 7 then Err NumberAboveLast
    else if eqb k 8 then Err (LoopPast p)
    else if eqb k 9 then Err (DescriptorPast p)
    else Err (BytesLeft p)

pub verdict_back : (v : Verdict) → verdict_of (number_of (told v)) (place_of (told v)) ≡ v
unfolding verdict_of
verdict_back (Ok x) = refl
verdict_back (Err TooShort) = refl
verdict_back (Err UnknownTable) = refl
verdict_back (Err WrongSyntax) = refl
verdict_back (Err LengthOutside) = refl
verdict_back (Err SizeDiffers) = refl
verdict_back (Err CrcFails) = refl
verdict_back (Err NumberAboveLast) = refl
verdict_back (Err (LoopPast p)) = refl
verdict_back (Err (DescriptorPast p)) = refl
verdict_back (Err (BytesLeft p)) = refl

pub told_once : (v w : Verdict) → told v ≡ told w → v ≡ w
told_once v w e = sym (verdict_back v) ∙ ap (λ x. verdict_of (number_of x) (place_of x)) e ∙ verdict_back w
