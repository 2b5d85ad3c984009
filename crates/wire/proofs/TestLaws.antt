-- Laws of tests that are put together by "and" and "or".
use mathlib.Core.Path.{◌≡◌, refl, sym}
use mathlib.Core.Bool.{Bool, true, false, ◌&&◌, ◌||◌}
use mathlib.Core.Logic.{◌⊎◌, ◌↔◌, inl, inr, ⊎_elim}
use Rattle.wire.proofs.IfLaws.{true_not_false}

pub or_none : (t : Bool) → (t || false) ≡ t
or_none true = refl
or_none false = refl

pub and_none : (t : Bool) → (t && false) ≡ false
and_none true = refl
and_none false = refl

pub or_exactly : (a b : Bool) → ((a || b) ≡ true) ↔ ((a ≡ true) ⊎ (b ≡ true))
or_exactly true b = (λ e. inl refl, λ x. refl)
or_exactly false b = (λ e. inr e, λ x. ⊎_elim (λ e. absurd (true_not_false (sym e))) (λ e. e) x)

pub and_true : (a b : Bool) → (a && b) ≡ true → (a ≡ true) × (b ≡ true)
and_true true b e = (refl, e)
and_true false b e = absurd (true_not_false (sym e))
