-- What is told of an answer tells the answer, so that a call ends in one way.
use mathlib.Core.Path.{◌≡◌, refl, sym, ap, ◌∙◌}
use mathlib.Core.List.{List}
use Prim.Native.Nat.{ℕ}
use lib.Dec.{eqb}
use Rattle.std.specs.Prelude.{if◌then◌else◌, Result, Ok, Err}
use Rattle.wire.specs.Reading.{Reading}
use Rattle.writing.specs.Written.{Told, wrote, refused_with, told, Writes}
use Rattle.writing.specs.declared.Refusal.{Refusal}
use Rattle.writing.specs.declared.Refusal.TheVariants.{Room, Field, Long}

-- the answer of which so much is told
of_told : Told → Result ℕ Refusal
of_told (wrote n) = Ok n
of_told (refused_with k p) = Err (if eqb k 111 then Room else if eqb k 112 then Field else Long)

of_told_is : (r : Result ℕ Refusal) → of_told (told r) ≡ r
unfolding of_told
of_told_is (Ok n) = refl
of_told_is (Err Room) = refl
of_told_is (Err Field) = refl
of_told_is (Err Long) = refl

pub told_once : (r q : Result ℕ Refusal) → told r ≡ told q → r ≡ q
told_once r q e = sym (of_told_is r) ∙ ap of_told e ∙ of_told_is q

-- the answer, and every byte of the room
pub writes_once : (d : Reading (List ℕ)) (o : List ℕ) (r q : Result ℕ Refusal) (o' p' : List ℕ) → Writes d o r o'
    → Writes d o q p' → (r ≡ q) × (o' ≡ p')
writes_once d o r q o' p' x y = (told_once r q (x.0 ∙ sym y.0), x.1 ∙ sym y.1)
