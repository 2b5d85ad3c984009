-- `writer::packets::put_full` meets its contract.
use mathlib.Core.Path.{ap, ◌∙◌}
use mathlib.Core.Bool.{false}
use mathlib.Core.List.{List, ◌++◌}
use Prim.Native.Nat.{ℕ}
use native.Mathlib.Omega.{arith}
use lib.ListN.{take, drop, length-append}
use lib.Seq.{length-take-le}
use borrow.Author.Rules.{rules}
use Rattle.copy.specs.Laid.{laid}
use Rattle.copy.proofs.LaidLaws.{laid_behind}
use Rattle.writer.specs.Packets.{header_of}
use Rattle.writer.proofs.RoomLaws.{copied_laid, laid_whole}
use Rattle.writer.proofs.packets.put_full.Goals as goal

pub returns : goal.returns
returns c =
    let a = c.args in
    let header : List ℕ = header_of a.stream.pid a.stream.counter false in
    let bytes : List ℕ = take 184 a.bytes.now in
    c.copy.ensures.1
    ∙ copied_laid a.bytes.now 184 _ 4 c.requires.1 (search rules)
    ∙ ap (λ (l : List ℕ). laid (l ++ drop 4 a.packet.now) 4 bytes) (c.copy_from_slice.ensures.after ∙ c.header.ensures)
    ∙ laid_behind a.packet.now 0 header bytes (omega arith)
    ∙ laid_whole a.packet.now (header ++ bytes)
    (omega (arith, c.requires.0, length-append header bytes, length-take-le 184 a.bytes.now c.requires.1))
