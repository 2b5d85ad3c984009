-- `writer::packets::put_all` meets its contract: the packets in the room and those to come are all of them.
use mathlib.Core.Path.{◌≡◌}
use mathlib.Core.List.{List, flatten}
use Prim.Native.Nat.{ℕ, ◌+◌, ◌*◌, ◌≤◌}
use lib.ListN.{length, take, drop}
use Rattle.copy.specs.Laid.{laid}
use Rattle.writer.specs.Layout.{turns_from, laid_out}
use Rattle.writer.specs.Packets.{packets_from}
use Rattle.writer.specs.Inner.{ahead_of}
use Rattle.writer.specs.declared.layout.Ahead.{Ahead}
use Rattle.writer.proofs.packets.put_all.Given as goal

-- the bytes of the packets to come
abbrev pub comingFrom : ℕ → ℕ → Ahead → List ℕ
comingFrom pid counter a = flatten (packets_from pid counter (laid_out (turns_from (ahead_of a)) a.bytes.now))

-- of all bytes the first at stand in the room, and the others are to come
pub record Placed (all room₀ room : List ℕ) (pid counter : ℕ) (a : Ahead) (at : ℕ) : Type 0 where
  pub same : length room ≡ length room₀
  pub within : at ≤ length all
  pub fits : at + length (turns_from (ahead_of a)) * 188 ≤ length room₀
  pub laid-down : room ≡ laid room₀ 0 (take at all)
  pub to-come : comingFrom pid counter a ≡ drop at all

abbrev pub invariant-loop-a : goal.invariant-loop-a
invariant-loop-a l =
    let pid : ℕ = l.fn.first.pid in
    let all : List ℕ = comingFrom pid l.fn.first.counter l.all in
    Placed all l.initial.room l.room pid l.stream.counter l.a l.at × (l.stream.pid ≡ pid)

abbrev pub decreases-loop-a : goal.decreases-loop-a
decreases-loop-a l = length l.a.bytes.now
