use mathlib.Core.Path.{◌∙◌}
use native.Mathlib.Omega.{arith}
use Rattle.copy.proofs.Moves.{up_ends}
use Rattle.copy.proofs.within.up.Goals as goal

pub returns : goal.returns
returns c =
    let a = c.args in
    let p = c.requires in
    let l = c.loop-i in
    c.singly-2.ensures
    ∙ up_ends a.room.now a.from a.to a.n p.1 p.2 l.room _ l.i p.0 (omega arith) l.invariant.1 c.singly.ensures
