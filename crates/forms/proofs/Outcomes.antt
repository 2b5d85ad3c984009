-- What a writer's answer comes to, byte by byte.
use Prim.Native.Nat.{ℕ, ◌+◌, ◌≤◌}
use mathlib.Core.Path.{◌≡◌, refl, ap, ◌∙◌}
use mathlib.Core.List.{List}
use native.Mathlib.Omega.{arith}
use lib.ListN.{length, take, drop}
use lib.Seq.{take_at, drop_at}
use Rattle.forms.specs.Room.{put}
use Rattle.forms.specs.Outcome.{SuccessWrites, RefusalAltersNothing}
use Rattle.forms.proofs.Puts.{put_fits, length_put}

-- the first bytes of a room in which something was put, and those behind it
pub take_put : (o l : List ℕ) → length l ≤ length o → take (length l) (put o 0 l) ≡ l
take_put o l h = ap (take (length l)) (put_fits o 0 l (omega arith)) ∙ take_at l (drop (0 + length l) o) (length l) refl

drop_put : (o l : List ℕ) → length l ≤ length o → drop (length l) (put o 0 l) ≡ drop (length l) o
drop_put o l h =
    let e : 0 + length l ≡ length l = omega arith in
    ap (drop (length l)) (put_fits o 0 l (omega arith))
    ∙ drop_at l (drop (0 + length l) o) (length l) refl
    ∙ ap (λ n. drop n o) e

pub success_writes : SuccessWrites
success_writes o l h =
    (refl, record { first = take_put o l h; later = drop_put o l h; same_length = length_put o 0 l (omega arith) })

pub refusal_alters_nothing : RefusalAltersNothing
refusal_alters_nothing o k p = (refl, refl)
