-- Laws of bytes that are laid into a room one behind the other.
use mathlib.Core.Path.{◌≡◌, refl, sym, ap, ◌∙◌}
use mathlib.Core.Bool.{Bool, true, false}
use mathlib.Core.List.{List, ◌++◌, append-nil, append_assoc}
use Prim.Native.Nat.{ℕ, ◌+◌, ◌-◌, ◌≤◌}
use native.Mathlib.Omega.{arith}
use borrow.Rule.Slice.PartMut.{put_mid}
use lib.ListN.{length, take, replicate, length-append, length-replicate, drop_of_length-le}
use lib.Seq.{take_all, length-take-le}
use Rattle.std.specs.Prelude.{if◌then◌else◌, None, Some, is_some}
use Rattle.std.proofs.lemmas.Slice.{put_mid-paste}
use Rattle.copy.specs.Copy.{copied}
use Rattle.copy.specs.Laid.{laid}
use Rattle.copy.proofs.Copies.{copied_yes}
use Rattle.copy.proofs.LaidLaws.{laid_behind, laid_long, pasted}
use Rattle.writer.specs.Layout as Layout
use Rattle.writer.specs.Layout.{turn_of, payload_of}
use Rattle.writer.specs.Packets.{header_of, packet_of}
use Rattle.writer.specs.Inner.{ahead_of, turn_said, pointed_at}
use Rattle.writer.specs.declared.layout.Ahead.{Ahead}
use Rattle.writer.specs.declared.layout.Turn.{Turn}
use Rattle.writer.proofs.TurnLaws.{turn_takes}
use Rattle.writer.proofs.PayloadLaws.{pointer_of, pointers, payload_bytes}

-- ---- a room

-- a copy that is made
pub copied_laid : (s : List ℕ) (n : ℕ) (room : List ℕ) (at : ℕ) → n ≤ length s → at + n ≤ length room
    → copied s 0 n room at ≡ laid room at (take n s)
copied_laid s n room at k w = copied_yes s 0 n room at (omega arith) w ∙ pasted room at s n k

-- what is written to a part
pub put_laid : (room : List ℕ) (at n : ℕ) (bytes : List ℕ) → length bytes ≡ n → put_mid at n room bytes ≡ laid room at bytes
put_laid room at n bytes e =
    put_mid-paste at n room bytes bytes (length bytes) (λ i. bytes) e (λ i. length bytes)
    ∙ pasted room at bytes (length bytes) (omega arith)
    ∙ ap (laid room at) (take_all (length bytes) bytes (omega arith))

-- bytes that fill it
pub laid_whole : (room bytes : List ℕ) → length bytes ≡ length room → laid room 0 bytes ≡ bytes
laid_whole room bytes e =
    ap (λ (l : List ℕ). bytes ++ l) (drop_of_length-le room (omega (arith, e))) ∙ append-nil bytes

-- ---- a packet

said_starts : (start : Bool) (left : ℕ) → is_some (if start then Some left else None) ≡ start
said_starts true left = refl
said_starts false left = refl

said_point : (start : Bool) (left : ℕ) → pointed_at (if start then Some left else None) ≡ pointer_of start left
said_point true left = refl
said_point false left = refl

-- header, pointer, bytes and filler, laid one behind the other, are a packet
module _ (room : List ℕ) (pid counter : ℕ) (a : Ahead) (k : length room ≡ 188) (t : Turn)
    (says : t ≡ turn_said (turn_of (ahead_of a))) where
  abbrev turn : Layout.Turn
  turn = turn_of (ahead_of a)

  abbrev header : List ℕ
  header = header_of pid counter (is_some t.pointer)

  abbrev point : List ℕ
  point = pointed_at t.pointer

  abbrev some : List ℕ
  some = take t.bytes a.bytes.now

  bytes_are : t.bytes ≡ turn.bytes
  bytes_are = ap (λ (u : Turn). u.bytes) says

  point_is : point ≡ pointer_of turn.start turn.left
  point_is = ap (λ (u : Turn). pointed_at u.pointer) says ∙ said_point turn.start turn.left

  -- its bytes are there, and it has place for them
  pub bytes_there : t.bytes ≤ length a.bytes.now
  bytes_there = omega (arith, bytes_are, (turn_takes (ahead_of a)).there, a.whole)

  pub bytes_in : length point + t.bytes ≤ 184
  bytes_in =
      omega (
        arith,
        bytes_are,
        (turn_takes (ahead_of a)).in_payload,
        ap length point_is,
        pointers turn.start turn.left,
      )

  pub packet_laid : (from : ℕ) → from ≡ 4 + length point → (room₁ room₂ room₃ fill : List ℕ) → room₁ ≡ laid room 0 header
      → room₂ ≡ laid room₁ 4 point
      → room₃ ≡ laid room₂ from some
      → fill ≡ replicate (length room₃ - (from + t.bytes)) 0xFF
      → put_mid (from + t.bytes) (length room₃ - (from + t.bytes)) room₃ fill
      ≡ packet_of pid counter (payload_of turn a.bytes.now)
  packet_laid from e room₁ room₂ room₃ fill e₁ e₂ e₃ e₄ =
      let front : List ℕ = (header ++ point) ++ some in
      let long : length some ≡ t.bytes = length-take-le t.bytes a.bytes.now bytes_there in
      let from_is : from ≡ 0 + length (header ++ point) = omega (arith, e, length-append header point) in
      let end_is : from + t.bytes ≡ 0 + length front = omega (arith, from_is, long, length-append (header ++ point) some) in
      let laid-down : room₃ ≡ laid room 0 front =
      e₃
      ∙ ap (λ (l : List ℕ). laid l from some)
      (e₂ ∙ ap (λ (l : List ℕ). laid l 4 point) e₁ ∙ laid_behind room 0 header point (omega arith))
      ∙ ap (λ (n : ℕ). laid (laid room 0 (header ++ point)) n some) from_is
      ∙ laid_behind room 0 (header ++ point) some (omega arith) in
      let within : length front ≤ 188 = omega (arith, bytes_in, e, end_is) in
      let room_is : length room₃ ≡ 188 = ap length laid-down ∙ laid_long room 0 front (omega (arith, within, k)) ∙ k in
      let left : ℕ = 184 - length (point ++ some) in
      let left-is : length room₃ - (from + t.bytes) ≡ left =
      omega (arith, room_is, e, long, length-append point some) in
      let fill-is : fill ≡ replicate left 0xFF = e₄ ∙ ap (λ (n : ℕ). replicate n 0xFF) left-is in
      let fill-long : length fill ≡ left = ap length fill-is ∙ length-replicate {A = ℕ} left 0xFF in
      put_laid room₃ (from + t.bytes) (length room₃ - (from + t.bytes)) fill (fill-long ∙ sym left-is)
      ∙ (λ i. laid (laid-down i) (end_is i) (fill-is i))
      ∙ laid_behind room 0 front (replicate left 0xFF) (omega arith)
      ∙ laid_whole room (front ++ replicate left 0xFF)
      (omega (arith, k, fill-long, ap length fill-is, length-append front (replicate left 0xFF), within, end_is, left-is, room_is))
      ∙ append_assoc (header ++ point) some (replicate left 0xFF)
      ∙ append_assoc header point (some ++ replicate left 0xFF)
      ∙ ap (λ (l : List ℕ). header ++ l) (sym (append_assoc point some (replicate left 0xFF)))
      ∙ (λ i. header_of pid counter ((ap (λ (u : Turn). is_some u.pointer) says ∙ said_starts turn.start turn.left) i)
      ++ ((point_is i ++ take (bytes_are i) a.bytes.now)
      ++ replicate (184 - length (point_is i ++ take (bytes_are i) a.bytes.now)) 0xFF))
      ∙ ap (λ (l : List ℕ). header_of pid counter turn.start ++ l) (sym (payload_bytes turn a.bytes.now))
