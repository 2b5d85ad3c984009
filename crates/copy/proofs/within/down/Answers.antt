-- In the end all but the last are moved, and that one is laid over their end.
use mathlib.Core.Path.{◌∙◌}
use Prim.Native.Nat.{◌+◌}
use native.Mathlib.Omega.{arith}
use Rattle.copy.proofs.Moves.{down_on, down_ends}
use Rattle.copy.proofs.within.down.Goals as goal
use Rattle.copy.proofs.within.down.Goals.{else-loop-i-test, then-loop-i-test+else-i-end-i-gt32}

pub returns : goal.returns
returns c =
    let a = c.args in
    let p = c.requires in
    let l = c.loop-i in
    let last = c.singly.ensures in
    c.singly-2.ensures
    ∙ elim c.loop-i-test.branch [
      | else-loop-i-test w ↦
          rw w.room-is
          (down_ends a.room.now a.from a.to p.1 l.room _ l.i a.n p.0 p.2 l.invariant.0 (omega arith) l.invariant.1 last)
      | then-loop-i-test+else-i-end-i-gt32 w ↦
          rw w.room-is
          (down_ends a.room.now a.from a.to p.1 w.few.new.room _ (l.i + 32) a.n p.0 p.2 (omega arith) (omega arith)
          (w.few.ensures ∙ down_on a.room.now a.from a.to p.1 l.room l.i (omega arith) l.invariant.1) last)
    ]
