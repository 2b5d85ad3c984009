-- `writer::layout::Ahead::open_next` meets its contract: what is ahead is the same for each section that is opened.
use Rattle.std.proofs.Common.{take_all, length-drop, sym, ◌∙◌, arith}
use Rattle.writer.proofs.TurnLaws.{opened_here}
use Rattle.writer.proofs.layout.Ahead.open_next.Goals as goal

pub returns : goal.returns
returns c =
    let l = c.loop-left in
    let a = c.args in (
      sym (opened_here a.n l.left l.waiting.now c.loop-left-test.false) ∙ l.invariant.0,
      take_all _ _ (omega (arith, length-drop a.n a.self.bytes.now)),
    )
