-- `write_delivery::body::put_body` meets its contract.
use borrow.Author.Rules.{rules}
use Rattle.write_delivery.proofs.Bodies.{two_puts}
use Rattle.write_delivery.proofs.body.put_body.Goals as goal

pub returns : goal.returns
returns c = search (two_puts, rules)
