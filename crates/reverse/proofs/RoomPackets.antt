-- The packets of a room that were laid into it, and how many there are.
use mathlib.Core.Path.{◌≡◌, refl, sym, ap, ◌∙◌}
use mathlib.Core.List.{List, [], ◌∷◌, ◌++◌, append_assoc, map, flatten}
use Prim.Native.Nat.{ℕ, zero, suc, ◌+◌, ◌*◌, ◌%◌}
use native.Mathlib.Omega.{arith}
use lib.ListN.{length, take, drop, length-append, take-append-drop}
use lib.Seq.{take_at, drop_at, drop-drop}
use Rattle.wire.specs.Each.{Each}
use Rattle.writer.specs.Layout.{Payload, Turn, unbegun, turns_from, laid_out, layout}
use Rattle.writer.specs.Packets.{packets_from, packets_of}
use Rattle.writer.specs.Written.{packet_count}
use Rattle.reverse.specs.Places.{Place}
use Rattle.reverse.specs.Rule.{AllHeaded}
use Rattle.reverse.specs.Writer.{packets_in}

abbrev pub Long : List ℕ → Type 0
Long x = length x ≡ 188

-- packets that stand end to end at a room's start
pub packets_laid : (packets : List (List ℕ)) (more : List ℕ) → Each Long packets
    → packets_in (length packets) (flatten packets ++ more) ≡ packets
unfolding flatten
packets_laid [] more x = refl
packets_laid (p ∷ packets) more x =
    let all : List ℕ = flatten packets ++ more in
    let joined : (p ++ flatten packets) ++ more ≡ p ++ all = append_assoc p (flatten packets) more in
    let first = ap (take 188) joined ∙ take_at p all 188 x.0 in
    let others =
    ap (λ (l : List ℕ). packets_in (length packets) (drop 188 l)) joined
    ∙ ap (packets_in (length packets)) (drop_at p all 188 x.0)
    ∙ packets_laid packets more x.1 in
    λ i. first i ∷ others i

pub flatten_long : (packets : List (List ℕ)) → Each Long packets → length (flatten packets) ≡ length packets * 188
unfolding flatten
flatten_long [] x = refl
flatten_long (p ∷ packets) x =
    let first = x.0 in
    omega (arith, first, flatten_long packets x.1, length-append p (flatten packets))

-- a room is its first packets and what is behind them
pub room_packets : (n : ℕ) (room : List ℕ) → flatten (packets_in n room) ++ drop (n * 188) room ≡ room
unfolding flatten
room_packets zero room = refl
room_packets (suc n) room =
    let next : 188 + n * 188 ≡ suc n * 188 = omega arith in
    append_assoc (take 188 room) (flatten (packets_in n (drop 188 room))) (drop (suc n * 188) room)
    ∙ ap (λ (l : List ℕ). take 188 room ++ (flatten (packets_in n (drop 188 room)) ++ l))
    (ap (λ (m : ℕ). drop m room) (sym next) ∙ sym (drop-drop (n * 188) 188 room))
    ∙ ap (λ (l : List ℕ). take 188 room ++ l) (room_packets n (drop 188 room))
    ∙ take-append-drop 188 room

-- packets with the rule's header have 188 bytes
pub headed_long : (pid counter : ℕ) (ps : List (Payload Place)) (packets : List (List ℕ))
    → AllHeaded pid counter ps packets
    → Each Long packets
headed_long pid counter [] [] x = tt
headed_long pid counter [] (p ∷ packets) x = absurd x
headed_long pid counter (q ∷ ps) [] x = absurd x
headed_long pid counter (q ∷ ps) (p ∷ packets) x = (x.0.long, headed_long pid ((counter + 1) % 16) ps packets x.1)

-- there are as many as turns
packets_many : (pid counter : ℕ) (ps : List (Payload ℕ)) → length (packets_from pid counter ps) ≡ length ps
packets_many pid counter [] = refl
packets_many pid counter (p ∷ ps) = ap suc (packets_many pid ((counter + 1) % 16) ps)

payloads_many : (ts : List Turn) (bytes : List ℕ) → length (laid_out ts bytes) ≡ length ts
payloads_many [] bytes = refl
payloads_many (t ∷ ts) bytes = ap suc (payloads_many ts (drop t.bytes bytes))

pub count_is : (pid counter : ℕ) (sections : List (List ℕ))
    → length (packets_of pid counter sections) ≡ packet_count (map length sections)
count_is pid counter sections =
    packets_many pid counter (layout sections)
    ∙ payloads_many (turns_from (unbegun (map length sections))) (flatten sections)
