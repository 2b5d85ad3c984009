-- `writer::layout::Ahead::open_next` meets its contract: what is ahead is the same for each section that is opened.
use Rattle.std.proofs.Common.{◌≡◌, ◌+◌, length}
use Rattle.writer.specs.Layout.{sum, opened}
use Rattle.writer.proofs.layout.Ahead.open_next.Given as goal

abbrev pub invariant-loop-left : goal.invariant-loop-left
invariant-loop-left l = (opened l.n l.left l.waiting ≡ opened l.n l.self.left l.self.waiting.now) ×
    (l.left + sum l.waiting ≡ length l.self.bytes.now)

abbrev pub decreases-loop-left : goal.decreases-loop-left
decreases-loop-left l = length l.waiting
