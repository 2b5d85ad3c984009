-- `writer::layout::Ahead::count` meets its contract: the packets counted and those ahead are all of them.
use Rattle.std.proofs.Common.{◌≡◌, ◌+◌, ◌≤◌, length}
use Rattle.writer.specs.Layout.{turns_from}
use Rattle.writer.specs.Inner.{ahead_of}
use Rattle.writer.proofs.layout.Ahead.count.Given as goal

abbrev pub invariant-loop-a : goal.invariant-loop-a
invariant-loop-a l = (l.n + length (turns_from (ahead_of l.a)) ≡ length (turns_from (ahead_of l.self))) ×
    (l.n + length l.a.bytes.now ≤ length l.self.bytes.now)

abbrev pub decreases-loop-a : goal.decreases-loop-a
decreases-loop-a l = length l.a.bytes.now
