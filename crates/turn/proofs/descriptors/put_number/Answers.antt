-- `turn::descriptors::put_number` meets its contract.
use Rattle.turn.proofs.descriptors.put_number.Goals as goal

pub returns : goal.returns
returns c =
    cc (c.put_byte-2.ensures, c.put_byte.ensures, c.past.ensures)
