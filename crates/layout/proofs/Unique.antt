-- Two answers that tell the same are the same.
use mathlib.Core.Path.{◌≡◌, refl, ap}
use Prim.Native.Nat.{◌<◌}
use native.Mathlib.Omega.{arith}
use Rattle.std.specs.Prelude.{Result as Returned}
use Rattle.wire.proofs.Unique.{answer_once}
use Rattle.clock.specs.Fault as fault
use Rattle.clock.specs.declared.Fault.{Fault}
use Rattle.clock.specs.declared.Fault.TheVariants.{BadDigit, OutOfRange, TooEarly}
use Rattle.clock.proofs.Unique.{fault_once}
use Rattle.layout.specs.Refusal.{numbered, told}
use Rattle.layout.specs.declared.Refusal.{Refusal}
use Rattle.layout.specs.declared.Refusal.TheVariants.{WrongTag, DoesNotFit, PastEnd, Field}

-- a field's fault has a number between those of the other refusals
between : (f : Fault) → (62 < fault.number_of (fault.numbered f)) × (fault.number_of (fault.numbered f) < 66)
between (BadDigit at j) = (omega arith, omega arith)
between (OutOfRange at) = (omega arith, omega arith)
between (TooEarly at) = (omega arith, omega arith)

by_number : (p q : Refusal) → numbered p ≡ numbered q → fault.number_of (numbered p) ≡ fault.number_of (numbered q)
    → p ≡ q
by_number WrongTag WrongTag e n = refl
by_number WrongTag DoesNotFit e n = absurd (omega arith)
by_number WrongTag PastEnd e n = absurd (omega arith)
by_number WrongTag (Field g) e n = absurd (omega (arith, between g))
by_number DoesNotFit WrongTag e n = absurd (omega arith)
by_number DoesNotFit DoesNotFit e n = refl
by_number DoesNotFit PastEnd e n = absurd (omega arith)
by_number DoesNotFit (Field g) e n = absurd (omega (arith, between g))
by_number PastEnd WrongTag e n = absurd (omega arith)
by_number PastEnd DoesNotFit e n = absurd (omega arith)
by_number PastEnd PastEnd e n = refl
by_number PastEnd (Field g) e n = absurd (omega (arith, between g))
by_number (Field f) WrongTag e n = absurd (omega (arith, between f))
by_number (Field f) DoesNotFit e n = absurd (omega (arith, between f))
by_number (Field f) PastEnd e n = absurd (omega (arith, between f))
by_number (Field f) (Field g) e n = ap Field (fault_once f g e)

pub refusal_once : (p q : Refusal) → numbered p ≡ numbered q → p ≡ q
refusal_once p q e = by_number p q e (ap fault.number_of e)

-- every reading of a descriptor, of their number or of a place; where bytes are lent, `lent` has them
pub told_once : {A : Type 0} (p q : Returned A Refusal) → told p ≡ told q → p ≡ q
told_once = answer_once told numbered (λ a. refl) (λ why. refl) refusal_once
