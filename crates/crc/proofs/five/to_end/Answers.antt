-- The invariant of both loops: the window, and then the bytes behind it, give the CRC_32 of s.
use Rattle.crc.proofs.Ahead.{one_more, ends}
use Rattle.crc.proofs.five.to_end.Goals as goal

pub step-w-requires : goal.step-w-requires
step-w-requires c = let l = c.loop-w-2 in (l.invariant, one_more l.invariant c.loop-w-2-test.true)

pub returns : goal.returns
returns c =
    let l = c.loop-w-2 in
    ends _ l.w.at l.invariant c.loop-w-2-test.false
