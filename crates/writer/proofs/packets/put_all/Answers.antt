-- `writer::packets::put_all` meets its contract: the packets in the room and those to come are all of them.
use mathlib.Core.Path.{◌≡◌, sym, ap, ◌∙◌}
use mathlib.Core.List.{List, [], ◌∷◌, ◌++◌, flatten}
use Prim.Native.Nat.{ℕ, ◌+◌, ◌-◌, ◌%◌, ◌≤◌, ◌<◌}
use native.Mathlib.Nat.{zero-add}
use native.Mathlib.Omega.{arith}
use borrow.Rule.Slice.PartMut.{put_mid}
use borrow.Author.Rules.{rules}
use lib.ListN.{length, take, drop, length-append, length-drop}
use lib.Seq.{take_all, take-append_seam, length-take-le, drop-drop, drop_at, take-add}
use Rattle.copy.specs.Laid.{over, laid}
use Rattle.copy.proofs.LaidLaws.{laid_behind, laid_long}
use Rattle.writer.specs.Layout as Layout
use Rattle.writer.specs.Layout.{turn_of, behind, turns_from, payload_of, laid_out}
use Rattle.writer.specs.Packets.{packet_of, packets_from}
use Rattle.writer.specs.Inner.{ahead_of}
use Rattle.writer.specs.declared.layout.Ahead.{Ahead}
use Rattle.writer.proofs.TurnLaws.{Takes, turn_takes, turns_stop, turns_on}
use Rattle.writer.proofs.PayloadLaws.{packet_long}
use Rattle.writer.proofs.RoomLaws.{put_laid}
use Rattle.writer.proofs.packets.put_all.Invariants.{comingFrom, Placed}
use Rattle.writer.proofs.packets.put_all.Goals as goal

-- bytes in two parts, the first of which has 188
module _ (all packet more : List ℕ) (at : ℕ) (k : at ≤ length all) (e : drop at all ≡ packet ++ more)
    (n : length packet ≡ 188) where
  next-in : at + 188 ≤ length all
  next-in = omega (arith, ap length e, length-append packet more, length-drop at all)

  taken : take at all ++ packet ≡ take (at + 188) all
  taken =
      ap (λ (l : List ℕ). take at all ++ l)
      (sym (take-append_seam packet more) ∙ ap (λ (m : ℕ). take m (packet ++ more)) n ∙ ap (take 188) (sym e))
      ∙ sym (take-add at 188 all)

  left : more ≡ drop (at + 188) all
  left = sym (drop_at packet more 188 n) ∙ ap (drop 188) (sym e) ∙ drop-drop 188 at all

module _ {all room₀ room : List ℕ} {pid counter : ℕ} {a : Ahead} {at : ℕ} (i : Placed all room₀ room pid counter a at) where
  module _ (some_left : 0 < length a.bytes.now) where
    abbrev turn : Layout.Turn
    turn = turn_of (ahead_of a)

    turns : turns_from (ahead_of a) ≡ turn ∷ turns_from (behind (ahead_of a))
    turns = turns_on (ahead_of a) (omega (arith, a.whole))

    -- it has place in the room
    fits_in : at + 188 ≤ length room
    fits_in = omega (arith, i.fits, i.same, ap length turns)

    abbrev packet : List ℕ
    packet = packet_of pid counter (payload_of turn a.bytes.now)

    long : length packet ≡ 188
    long =
        let takes : Takes (ahead_of a) turn = turn_takes (ahead_of a) in
        packet_long pid counter turn a.bytes.now (omega (arith, takes.there, a.whole)) takes.in_payload

    -- one more is there
    module _ (b : Ahead) (packet' : List ℕ) (is : packet' ≡ packet) (next : ahead_of b ≡ behind (ahead_of a))
        (bytes : b.bytes.now ≡ drop turn.bytes a.bytes.now) where
      parts : drop at all ≡ packet ++ comingFrom pid ((counter + 1) % 16) b
      unfolding flatten
      parts =
          sym i.to-come
          ∙ ap (λ (ts : List Layout.Turn). flatten (packets_from pid counter (laid_out ts a.bytes.now))) turns
          ∙ sym (λ j. packet
          ++ flatten (packets_from pid ((counter + 1) % 16) (laid_out (turns_from (next j)) (bytes j))))

      one_more : (c : ℕ) → c ≡ (counter + 1) % 16
          → Placed all room₀ (put_mid at (at + 188 - at) room packet') pid c b (at + 188)
      one_more c e =
          let coming : List ℕ = comingFrom pid ((counter + 1) % 16) b in
          let at_is : at ≡ 0 + length (take at all) = omega (arith, length-take-le at all i.within) in
          let room_is : put_mid at (at + 188 - at) room packet' ≡ laid room at packet =
          put_laid room at (at + 188 - at) packet' (ap length is ∙ long ∙ omega arith) ∙ ap (laid room at) is in
          let turns-left = ap (λ (z : Layout.Ahead). length (turns_from z)) next in
          record {
            same = ap length room_is ∙ laid_long room at packet (omega (arith, long, fits_in)) ∙ i.same;
            within = next-in all packet coming at i.within parts long;
            fits = omega (arith, i.fits, ap length turns, turns-left);
            laid-down =
                room_is
                ∙ ap (λ (l : List ℕ). laid l at packet) i.laid-down
                ∙ ap (λ (m : ℕ). laid (laid room₀ 0 (take at all)) m packet) at_is
                ∙ laid_behind room₀ 0 (take at all) packet (omega arith)
                ∙ ap (laid room₀ 0) (taken all packet coming at i.within parts long);
            to-come = ap (λ (m : ℕ). comingFrom pid m b) e ∙ left all packet coming at i.within parts long;
          }

  -- nothing is ahead
  all_placed : length a.bytes.now ≤ 0 → room ≡ over all room₀
  unfolding flatten
  all_placed k =
      let none : turns_from (ahead_of a) ≡ [] = turns_stop (ahead_of a) (omega (arith, a.whole)) in
      let empty : [] ≡ drop at all =
      ap (λ (ts : List Layout.Turn). flatten (packets_from pid counter (laid_out ts a.bytes.now))) (sym none)
      ∙ i.to-come in
      let end = ap length empty in
      i.laid-down
      ∙ ap (laid room₀ 0) (take_all at all (omega (arith, end, length-drop at all)))
      ∙ ap (λ (n : ℕ). all ++ drop n room₀) (zero-add (length all))

pub slice_bounds-put_next-end : goal.slice_bounds-put_next-end
slice_bounds-put_next-end c = fits_in c.loop-a.invariant.0 (search rules)

pub loop-a-preserved : goal.loop-a-preserved
loop-a-preserved c =
    let i = c.loop-a.invariant in
    let x = c.put_next-a.ensures in
    let a = c.loop-a.a in
    let packet : ℕ → List ℕ = λ pid. packet_of pid c.loop-a.stream.counter (payload_of (turn_of (ahead_of a)) a.bytes.now) in (
      one_more i.0 (search rules) c.put_next-a.result c.put_next-a.new.packet (x.packet_is ∙ ap packet i.1)
          x.next_is x.bytes_are c.next-stream.result.counter c.next-stream.ensures.1,
      c.next-stream.ensures.0 ∙ i.1,
    )

pub returns : goal.returns
returns c = all_placed c.loop-a.invariant.0 (search rules)
