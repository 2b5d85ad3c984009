-- Two answers of the judge that tell the same are the same: its promise allows one.
use Prim.Native.Nat.{ℕ}
use mathlib.Core.Path.{◌≡◌, refl, sym, ap, ◌∙◌}
use lib.Dec.{eqb}
use Rattle.std.specs.Prelude.{if◌then◌else◌, Ok, Err}
use Rattle.wire.specs.Reading.{Reading, value, refused}
use Rattle.sheet.specs.Reads.{Judged, told}
use Rattle.sheet.specs.declared.Refusal.{Refusal}
use Rattle.sheet.specs.declared.Refusal.TheVariants.{Early, Unknown, Wide, After, Long}

-- the refusal that has a number
byNumber : ℕ → Refusal
byNumber k = if eqb k 22 then Early else if eqb k 23 then Unknown else if eqb k 24 then Wide else if eqb k 25 then After else Long

answer_of : Reading ℕ → Judged
answer_of (value n) = Ok n
answer_of (refused k) = Err (byNumber k)

answer_back : (r : Judged) → answer_of (told r) ≡ r
unfolding answer_of byNumber
answer_back (Ok n) = refl
answer_back (Err Early) = refl
answer_back (Err Unknown) = refl
answer_back (Err Wide) = refl
answer_back (Err After) = refl
answer_back (Err Long) = refl

pub told_once : (p q : Judged) → told p ≡ told q → p ≡ q
told_once p q e = sym (answer_back p) ∙ ap answer_of e ∙ answer_back q
