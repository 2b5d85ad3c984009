-- What a call promises, out of what the writer beneath it promised; and of a field that no reading gives.
use mathlib.Core.Path.{◌≡◌, refl, ap, ◌∙◌}
use mathlib.Core.List.{List}
use Prim.Native.Nat.{ℕ}
use lib.Dec.{ltb}
use lib.ListN.{length}
use Rattle.std.specs.Prelude.{Result}
use Rattle.wire.specs.Reading.{Reading, refused}
use Rattle.wire.proofs.IfLaws.{if-case}
use Rattle.writing.specs.Written.{told, roomAfter, into, Writes}
use Rattle.writing.specs.declared.Refusal.{Refusal}
use Rattle.desk.specs.Answers.{says, saysOutside, Called}
use Rattle.desk.specs.declared.answers.WriteAnswer.{WriteAnswer}

pub called : (d : Reading (List ℕ)) (o o' : List ℕ) (w : Result ℕ Refusal) (r : WriteAnswer) → Writes d o w o'
    → r ≡ says (told w) → Called d o r o'
called d o o' w r x e = (e ∙ ap says x.0, x.1)

pub called_outside : (d : Reading (List ℕ)) (o : List ℕ) (r : WriteAnswer) → d ≡ refused 112
    → r ≡ saysOutside (length o) → Called d o r o
unfolding into
called_outside d o r e h =
    rw (e) (h, if-case (λ u. o ≡ roomAfter o u) (ltb (length o) 257) (λ _. refl) (λ _. refl))
