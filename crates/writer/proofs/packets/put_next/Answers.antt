-- `writer::packets::put_next` meets its contract, whether the section begun fills the packet or not.
use mathlib.Core.Path.{sym, ap, ◌∙◌}
use native.Mathlib.Omega.{arith}
use lib.ListN.{drop}
use Rattle.writer.specs.Layout as Layout
use Rattle.writer.specs.Layout.{opened, payload_of}
use Rattle.writer.specs.Packets.{packet_of}
use Rattle.writer.proofs.TurnLaws.{turn_full}
use Rattle.writer.proofs.PayloadLaws.{full_packet}
use Rattle.writer.proofs.packets.put_next.Goals as goal

pub returns-then-a-ge184 : goal.returns-then-a-ge184
returns-then-a-ge184 c =
    let a = c.args.a in
    let s = c.args.stream in
    let full = turn_full a.left a.waiting.now c.if-a-ge184.true in
    record {
      packet_is =
          c.put_full.ensures
          ∙ full_packet s.pid s.counter a.left a.bytes.now (omega (arith, a.whole, c.if-a-ge184.true))
          ∙ ap (λ (t : Layout.Turn). packet_of s.pid s.counter (payload_of t a.bytes.now)) (sym full);
      next_is = c.open_next.ensures.0 ∙ ap (λ (t : Layout.Turn). opened t.bytes a.left a.waiting.now) (sym full);
      bytes_are = c.open_next.ensures.1 ∙ ap (λ (t : Layout.Turn). drop t.bytes a.bytes.now) (sym full);
    }
