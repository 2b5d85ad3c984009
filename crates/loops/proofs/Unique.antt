-- Two answers that say the same are the same answer: so each promise `told answer ≡ definition` allows one outcome.
use Prim.Native.Nat.{ℕ}
use mathlib.Core.Path.{◌≡◌, refl, sym, ◌∙◌, ap, ap₂}
use mathlib.Core.List.{List}
use Rattle.loops.specs.Descriptors.{Gives, descriptor, the_end, refusing, told_step, Steps, Step}
use Rattle.std.specs.Prelude.{Some, None, Ok, Err}
use Rattle.loops.specs.declared.walk.Stepped.{Stepped}

step_of : Gives → Step
step_of (descriptor t b n) = Ok (Some (record { tag = t; start = b; size = n }))
step_of the_end = Ok None
step_of (refusing k p) = Err (record { 0 = p })

step_back : (s : Step) → step_of (told_step s) ≡ s
unfolding step_of
step_back (Ok (Some d)) = refl
step_back (Ok None) = refl
step_back (Err cut) = refl

pub told_step_once : (s t : Step) → told_step s ≡ told_step t → s ≡ t
told_step_once s t e = sym (step_back s) ∙ ap step_of e ∙ step_back t

-- two steps from one place give the same and lead to the same place
pub steps_once : {l : List ℕ} {a : ℕ} (s t : Step) {b c : ℕ} → Steps l a s b → Steps l a t c → (s ≡ t) × (b ≡ c)
steps_once s t x y = (told_step_once s t (x.gives ∙ sym y.gives), x.moves ∙ sym y.moves)

pub stepped_once : {l : List ℕ} {a : ℕ} (x y : Stepped) → Steps l a x.step x.at → Steps l a y.step y.at → x ≡ y
stepped_once x y v w =
    let same = steps_once x.step y.step v w in
    ap₂ (λ (s : Step) (n : ℕ). record { step = s; at = n }) same.0 same.1
