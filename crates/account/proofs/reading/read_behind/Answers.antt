-- `account::reading::read_behind` meets its contract: the part that is lent begins behind what is there.
use Rattle.std.proofs.Common.{◌-◌, length, drop, arith, length-drop, length-take}
use borrow.Rule.Slice.PartMut.{take_put}
use Rattle.account.proofs.reading.read_behind.Goals as goal

pub returns : goal.returns
returns c =
    let a = c.args in
    let n = length a.buf.now - a.left in
    record {
      fits =
          omega (
            arith,
            c.read_into.ensures,
            length-take n (drop a.left a.buf.now),
            length-drop a.left a.buf.now,
          );
      kept = take_put a.left n a.buf.now c.read_into.new.room (omega arith);
    }
