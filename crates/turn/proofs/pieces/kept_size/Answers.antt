-- `turn::pieces::kept_size` meets its contract.
use mathlib.Core.Path.{refl}
use borrow.Author.Tests.{eq-eqb, ne_eqb}
use Rattle.turn.proofs.pieces.kept_size.Goals as goal

pub returns-then-span-eq0 : goal.returns-then-span-eq0
returns-then-span-eq0 c = rw (eq-eqb c.args.span 0 c.if-span-eq0.true) refl

pub returns-else-span-eq0 : goal.returns-else-span-eq0
returns-else-span-eq0 c = rw (ne_eqb c.args.span 0 c.if-span-eq0.false) refl
