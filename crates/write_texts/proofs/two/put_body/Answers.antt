-- `write_texts::two::put_body` meets its contract.
use native.Mathlib.Omega.{arith}
use Rattle.write_texts.proofs.Numbered.{numbered_put}
use Rattle.write_texts.proofs.two.put_body.Goals as goal

pub returns : goal.returns
returns c =
    numbered_put _ _ _ _ _ 2 c.put_number.ensures c.put_text.ensures c.put_text-2.ensures
    (omega arith)
