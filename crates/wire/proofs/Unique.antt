-- Two answers that tell the same are the same.
use mathlib.Core.Path.{◌≡◌, refl, sym, ap, ◌∙◌}
use Prim.Native.Nat.{ℕ}
use Rattle.std.specs.Prelude.{Result as Returned, Ok, Err}
use Rattle.wire.specs.Reading.{Result, value, refused}
use Rattle.wire.proofs.ReadingLaws.{value_is, refused_is, never}
use Rattle.wire.specs.Digits.{told}
use Rattle.wire.specs.declared.digits.BadDigit.{BadDigit}

-- THE LAW, for any answer that is a value or a fault that tells a refusal: two faults that tell one refusal have to be the same
module _ {A F W : Type 0} (told : Returned A F → Result W A) (numbered : F → W)
    (tells : (a : A) → told (Ok a) ≡ value a) (refuses : (f : F) → told (Err f) ≡ refused (numbered f))
    (fault_once : (f g : F) → numbered f ≡ numbered g → f ≡ g) where
  pub answer_once : (p q : Returned A F) → told p ≡ told q → p ≡ q
  answer_once (Ok a) (Ok b) e = ap Ok (value_is (sym (tells a) ∙ e ∙ tells b))
  answer_once (Ok a) (Err g) e = absurd (never (sym (tells a) ∙ e ∙ refuses g))
  answer_once (Err f) (Ok b) e = absurd (never (sym (tells b) ∙ sym e ∙ refuses f))
  answer_once (Err f) (Err g) e = ap Err (fault_once f g (refused_is (sym (refuses f) ∙ e ∙ refuses g)))

same_place : (p q : BadDigit) → p.0 ≡ q.0 → p ≡ q
same_place p q e = ap (λ (n : ℕ). record { 0 = n }) e

pub digits_once : (p q : Returned ℕ BadDigit) → told p ≡ told q → p ≡ q
digits_once = answer_once told (λ bad. bad.0) (λ a. refl) (λ bad. refl) same_place
