-- `writer::packets::put_packet` meets its contract: header, pointer, bytes and filler stand one behind the other.
use mathlib.Core.Path.{ap, ◌∙◌}
use mathlib.Core.List.{List, ◌++◌}
use Prim.Native.Nat.{ℕ}
use lib.ListN.{drop, replicate}
use borrow.Author.Rules.{rules}
use Rattle.writer.specs.Packets.{header_of}
use Rattle.writer.proofs.RoomLaws.{bytes_there, bytes_in, packet_laid, copied_laid}
use Rattle.writer.proofs.packets.put_packet.Goals as goal

pub returns : goal.returns
returns c =
    let a = c.args.a in
    let s = c.args.stream in
    let room = c.args.packet.now in
    let t = c.next_turn-t.result in
    let says = c.next_turn-t.ensures in
    let there = bytes_there room s.pid s.counter a c.requires t says in
    let within = bytes_in room s.pid s.counter a c.requires t says in (
      packet_laid room s.pid s.counter a c.requires t says c.put_pointer-from.result c.put_pointer-from.ensures.1
          _ c.put_pointer-from.new.packet c.copy.new.dst c.fill.new.rest
          (ap (λ (l : List ℕ). l ++ drop 4 room)
          (c.copy_from_slice.ensures.after ∙ c.header.ensures ∙ ap (header_of s.pid s.counter) c.is_some.ensures))
          c.put_pointer-from.ensures.0
          (c.copy.ensures.1 ∙ copied_laid a.bytes.now t.bytes c.put_pointer-from.new.packet c.put_pointer-from.result there (search rules))
          (c.fill.ensures ∙ ap (λ (n : ℕ). replicate n 0xFF) (search rules)),
      ap (λ (u : _). u.bytes) says,
    )
