-- Two answers that tell the same are the same.
use mathlib.Core.Path.{◌≡◌, refl, ap, ap₂}
use native.Mathlib.Omega.{arith}
use Rattle.wire.proofs.Unique.{answer_once}
use Rattle.std.specs.Prelude.{Result as Returned}
use Rattle.clock.specs.Fault.{Why, number_of, numbered, told}
use Rattle.clock.specs.declared.Fault.{Fault}
use Rattle.clock.specs.declared.Fault.TheVariants.{BadDigit, OutOfRange, TooEarly}

-- two refusals with different numbers are two
apart : {v w : Why} → v ≡ w → (number_of v ≡ number_of w → ⊥) → ⊥
apart e h = h (ap number_of e)

pub fault_once : (p q : Fault) → numbered p ≡ numbered q → p ≡ q
fault_once (BadDigit a i) (BadDigit b j) e = ap₂ BadDigit (ap (λ w. w.place) e) (ap (λ w. w.digit) e)
fault_once (BadDigit a i) (OutOfRange b) e = absurd (apart e (omega arith))
fault_once (BadDigit a i) (TooEarly b) e = absurd (apart e (omega arith))
fault_once (OutOfRange a) (BadDigit b j) e = absurd (apart e (omega arith))
fault_once (OutOfRange a) (OutOfRange b) e = ap OutOfRange (ap (λ w. w.place) e)
fault_once (OutOfRange a) (TooEarly b) e = absurd (apart e (omega arith))
fault_once (TooEarly a) (BadDigit b j) e = absurd (apart e (omega arith))
fault_once (TooEarly a) (OutOfRange b) e = absurd (apart e (omega arith))
fault_once (TooEarly a) (TooEarly b) e = ap TooEarly (ap (λ w. w.place) e)

-- every reading of a time, a duration, an offset or a date
pub told_once : {A : Type 0} (p q : Returned A Fault) → told p ≡ told q → p ≡ q
told_once = answer_once told numbered (λ a. refl) (λ f. refl) fault_once
