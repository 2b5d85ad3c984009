-- `turn::pieces::packed` meets its contract.
use Rattle.turn.proofs.PieceLaws.{byte_joined, byte_parted, byte_as}
use Rattle.turn.proofs.pieces.packed.Goals as goal

pub returns-then-forth : goal.returns-then-forth
returns-then-forth c = search (byte_as, byte_joined)

pub returns : goal.returns
returns c = search (byte_as, byte_parted)
