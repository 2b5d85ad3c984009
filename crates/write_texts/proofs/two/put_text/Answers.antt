-- `write_texts::two::put_text` meets its contract.
use mathlib.Core.Path.{refl, ◌∙◌}
use mathlib.Core.List.{[], ◌∷◌}
use native.Mathlib.Omega.{arith}
use Rattle.write_texts.proofs.Rooms.{copied_whole, put_next}
use Rattle.write_texts.proofs.two.put_text.Goals as goal

pub returns : goal.returns
returns c =
    put_next _ _ (_ ∷ []) _ _ refl (omega arith) c.put_byte.ensures
    (c.copy_few.ensures.1 ∙ copied_whole _ _ _ (omega arith))
