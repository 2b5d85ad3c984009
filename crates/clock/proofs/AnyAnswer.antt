-- Of any type of answers: two that tell the same are the same.
use mathlib.Core.Path.{◌≡◌, sym, ap, ◌∙◌}
use Rattle.wire.specs.Reading.{Result, value, refused}
use Rattle.wire.proofs.ReadingLaws.{value_is, refused_is, never}

-- THE LAW, for any answer that is a value or a fault that tells a refusal: two faults that tell one refusal have to be the same
module _ {A F W R : Type 0} (told : R → Result W A) (is : A → R) (no : F → R) (numbered : F → W)
    (tells : (a : A) → told (is a) ≡ value a) (refuses : (f : F) → told (no f) ≡ refused (numbered f))
    (cases : (P : R → Type 0) → ((a : A) → P (is a)) → ((f : F) → P (no f)) → (r : R) → P r)
    (fault_once : (f g : F) → numbered f ≡ numbered g → f ≡ g) where
  pub answer_once : (p q : R) → told p ≡ told q → p ≡ q
  answer_once =
      cases (λ p. (q : R) → told p ≡ told q → p ≡ q)
      (λ a. cases (λ q. told (is a) ≡ told q → is a ≡ q)
      (λ b e. ap is (value_is (sym (tells a) ∙ e ∙ tells b)))
      (λ f e. absurd (never (sym (tells a) ∙ e ∙ refuses f))))
      (λ f. cases (λ q. told (no f) ≡ told q → no f ≡ q)
      (λ b e. absurd (never (sym (tells b) ∙ sym e ∙ refuses f)))
      (λ g e. ap no (fault_once f g (refused_is (sym (refuses f) ∙ e ∙ refuses g)))))
