-- `desk::answers::outside` meets its contract.
use borrow.Author.Tests.{lt-ltb, le-ltb}
use Rattle.writing.specs.Written.{into}
use Rattle.desk.proofs.answers.outside.Goals as goal

pub returns-then-room-lt257 : goal.returns-then-room-lt257
unfolding into
returns-then-room-lt257 c = rw (lt-ltb c.args.room 257 c.if-room-lt257.true) c.answer_of.ensures

pub returns-else-room-lt257 : goal.returns-else-room-lt257
unfolding into
returns-else-room-lt257 c = rw (le-ltb c.args.room 257 c.if-room-lt257.false) c.answer_of-else-room-lt257.ensures
