-- The collector, fed the writer's packets, gives those of the writer's sections back that the judge accepts.
use mathlib.Core.Path.{◌≡◌, refl, sym, ap, ◌∙◌, subst}
use mathlib.Core.Bool.{true}
use mathlib.Core.List.{List, [], ◌∷◌, ◌++◌, map, flatten}
use mathlib.Core.Logic.{inr, ⊎_elim}
use Prim.Native.Nat.{ℕ, suc, ◌+◌, ◌%◌, ◌^◌, ◌≤◌, ◌<◌}
use native.Mathlib.Omega.{arith}
use lib.ListN.{length, take, get_or}
use borrow.Author.Tests.{le-ltb}
use Rattle.wire.specs.Each.{Each}
use Rattle.collector.specs.Rules.{Kind, accepted, rejected, by_kind, done, plain}
use Rattle.collector.specs.Judged.{by_judge}
use Rattle.collector.specs.Refusals.{cannot_stand}
use Rattle.collector.specs.Answer.{Outcome}
use Rattle.collector.specs.Collected.{bytes_counted, fresh_record, collected}
use Rattle.collector.specs.declared.Record.{Record}
use Rattle.collector.proofs.ByteRuns.{lt_or_ge}
use Rattle.collector.proofs.SectionLoop.{by_judge_apart}
use Rattle.collector.proofs.StoryLaws.{sections_more}
use Rattle.history.specs.Run.{Promised, Call, Input, input_of, Run, no_call, one_call}
use Rattle.history.proofs.Promise.{runs_exist}
use Rattle.wire.proofs.TestLaws.{or_none}
use Rattle.writer.specs.Layout.{bytes_ahead, Turn, turn_of, turns_from, payload_of, laid_out}
use Rattle.writer.specs.Packets.{packet_of, packets_from, packets_of}
use Rattle.writer.proofs.TurnLaws.{turns_stop, turns_on, turn_takes}
use Rattle.writer.proofs.PayloadLaws.{payload_long}
use Rattle.reverse.specs.Sent.{Sendable}
use Rattle.reverse.specs.FedBack.{Ready, Delivers, FedBack, FreshDelivers, RunsOver}
use Rattle.reverse.proofs.CutSections.{Begun, none, part, unended, ahead_of, begun_stands, ahead_long}
use Rattle.reverse.proofs.OneTurn.{body_of, body_points, Step, step}
use Rattle.reverse.proofs.Leaves.{left_by, leaves_none, leaves_more, delivered}
use Rattle.reverse.proofs.Taken.{Holds, Went, went}

-- ---- the packets of what is ahead

-- those of the bytes that are not laid, from this counter on
abbrev packets_ahead : ℕ → ℕ → List ℕ → List (List ℕ) → List (List ℕ)
packets_ahead pid counter rest ws = packets_from pid counter (laid_out (turns_from (ahead_of rest ws)) (rest ++ flatten ws))

-- how many bytes are not laid
abbrev all : List ℕ → List (List ℕ) → ℕ
all rest ws = bytes_ahead (ahead_of rest ws)

none_ahead : (pid counter : ℕ) (rest : List ℕ) (ws : List (List ℕ)) → all rest ws ≤ 0
    → packets_ahead pid counter rest ws ≡ []
none_ahead pid counter rest ws k =
    ap (λ (ts : List Turn). packets_from pid counter (laid_out ts (rest ++ flatten ws)))
    (turns_stop (ahead_of rest ws) (omega arith))

-- the first packet, and those behind it
abbrev first_ahead : ℕ → ℕ → List ℕ → List (List ℕ) → List ℕ
first_ahead pid counter rest ws = packet_of pid counter (payload_of (turn_of (ahead_of rest ws)) (rest ++ flatten ws))

one_ahead : {comes : List ℕ → Kind} (pid counter : ℕ) {h : List ℕ} (rest : List ℕ) (ws : List (List ℕ))
    → 0 < all rest ws → (s : Step comes h rest ws (turn_of (ahead_of rest ws)))
    → packets_ahead pid counter rest ws
    ≡ first_ahead pid counter rest ws ∷ packets_ahead pid ((counter + 1) % 16) s.left s.waiting
one_ahead pid counter rest ws k s =
    ap (λ (ts : List Turn). packets_from pid counter (laid_out ts (rest ++ flatten ws))) (turns_on (ahead_of rest ws) k)
    ∙ (λ i. first_ahead pid counter rest ws
    ∷ packets_from pid ((counter + 1) % 16) (laid_out (turns_from (s.sizes i)) (s.not_laid i)))

-- where nothing is ahead, no section has not ended
all_ended : {h rest : List ℕ} → Begun h rest → (ws : List (List ℕ)) → Each Sendable ws → all rest ws ≤ 0
    → (h ≡ []) × (unended h rest ws ≡ [])
all_ended none [] x k = (refl, refl)
all_ended none (s ∷ ws) x k = absurd (omega (arith, x.0.whole.header))
all_ended (part b h c rest y) ws x k = absurd (omega arith)

-- ---- a run

ready_of : (pid counter : ℕ) {h : List ℕ} {r : Record} {hold : List ℕ} → Holds pid counter h r hold → h ≡ []
    → Ready pid counter r hold
ready_of pid counter x e = record {
  stands = x.stands;
  pid_is = x.pid_is;
  none_in_hand = x.in_hand_is ∙ ap length e;
  next = x.next;
  counters = x.counters;
}

holds_of : {pid counter : ℕ} {r : Record} {hold : List ℕ} → Ready pid counter r hold → 4096 ≤ length hold
    → Holds pid counter [] r hold
holds_of {hold = hold} x k = record {
  stands = x.stands;
  pid_is = x.pid_is;
  in_hand_is = x.none_in_hand;
  hold_is = ap (λ (n : ℕ). take n hold) x.none_in_hand;
  next = x.next;
  unmarked = inr refl;
  counters = x.counters;
  room = k;
}

-- no call, where nothing is ahead
no_more : (pid counter : ℕ) {h rest : List ℕ} → Begun h rest → (ws : List (List ℕ)) → Each Sendable ws → counter ≤ 15
    → all rest ws ≤ 0 → {r : Record} {hold : List ℕ} → Holds pid counter h r hold
    → Delivers pid counter (unended h rest ws) r [] r hold
no_more pid counter x ws each few k {r} {hold} y =
    let e = all_ended x ws each k in
    let same : counter ≡ (counter + 0) % 16 = omega arith in
    subst (λ (l : List (List ℕ)). Delivers pid counter l r [] r hold) (sym e.1)
    (delivered [] (y.counters rejected) refl (leaves_none r y.counters) pid counter tt
    (subst (λ (n : ℕ). Ready pid n r hold) same (ready_of pid counter y e.0)) y.room)

-- one call, and what comes of the calls behind it
one_more : {comes : List ℕ → Kind} (pid counter : ℕ) {h rest : List ℕ} {ws : List (List ℕ)}
    {r r₁ r' : Record} {hold hold₁ hold' : List ℕ} {k : Call} {ks : List Call}
    → (s : Step comes h rest ws (turn_of (ahead_of rest ws))) → Holds pid counter h r hold
    → Went pid counter s.ended s.hand r (record { rec = r₁; hold = hold₁; out = k.out'; said = k.said })
    → Delivers pid ((counter + 1) % 16) (unended s.hand s.left s.waiting) r₁ ks r' hold'
    → Delivers pid counter (unended h rest ws) r (k ∷ ks) r' hold'
one_more pid counter {r = r} {r' = r'} {hold' = hold'} {k = k} {ks = ks} s y w d =
    let others : List (List ℕ) = unended s.hand s.left s.waiting in
    let same : ((counter + 1) % 16 + length ks) % 16 ≡ (counter + suc (length ks)) % 16 = omega arith in
    subst (λ (l : List (List ℕ)). Delivers pid counter l r (k ∷ ks) r' hold') (sym s.sections_are)
    (delivered (s.ended ++ others) (y.counters rejected)
    ((λ i. w.handed_are i ++ d.handed_are i) ∙ sym (sections_more by_judge plain accepted s.ended others))
    (leaves_more s.ended others w.leaves (left_by d)) pid counter (w.is_taken, d.each_taken)
    (subst (λ (n : ℕ). Ready pid n r' hold') same d.goes_on) d.room_left)

-- the call with the first packet
first_call : (pid counter : ℕ) {h rest : List ℕ} (ws : List (List ℕ)) {r : Record} {hold : List ℕ} (out : List ℕ)
    → counter ≤ 15 → Holds pid counter h r hold → 4280 ≤ length out
    → (s : Step by_judge h rest ws (turn_of (ahead_of rest ws)))
    → (o : Outcome) → o ≡ collected r hold out (first_ahead pid counter rest ws)
    → Went pid counter s.ended s.hand r o
first_call pid counter {h} {rest} ws out few x enough s o e =
    let t : Turn = turn_of (ahead_of rest ws) in
    let bytes : List ℕ = rest ++ flatten ws in
    let takes = turn_takes (ahead_of rest ws) in
    let there : t.bytes ≤ length bytes = subst (λ (n : ℕ). t.bytes ≤ n) (ahead_long rest ws) takes.there in
    let points : t.start ≡ true → get_or (body_of t bytes) 0 0 ≤ 182 = λ w.
    let small = takes.pointer_small w in
    let is = body_points t bytes w in
    omega arith in
    went x few t.start (body_of t bytes) out (payload_long t bytes there takes.in_payload) points enough
    s.ended s.hand s.tells (begun_stands s.begun) o e

-- from any place between two packets, with what is laid of a section in hand
fed : (pid counter : ℕ) {h rest : List ℕ} → Begun h rest → (ws : List (List ℕ)) → Each Sendable ws → counter ≤ 15
    → {r r' : Record} {hold hold' : List ℕ} {calls : List Call} → Holds pid counter h r hold
    → Each (λ k. 4280 ≤ length k.out) calls → Run Promised r hold calls r' hold'
    → map (λ k. k.packet) calls ≡ packets_ahead pid counter rest ws
    → Delivers pid counter (unended h rest ws) r calls r' hold'
fed pid counter {rest = rest} x ws each few y rooms no_call e =
    ⊎_elim
    (λ w. let s = step by_judge by_judge_apart x ws each w in
    let l = ap length (e ∙ one_ahead pid counter rest ws w s) in absurd (omega arith))
    (λ w. no_more pid counter x ws each few w y) (lt_or_ge 0 (all rest ws))
fed pid counter {rest = rest} x ws each few {r = r} {hold = hold} y rooms (one_call {k = k} {ks = ks} c run) e =
    ⊎_elim
    (λ w.
    let s = step by_judge by_judge_apart x ws each w in
    let cut : k.packet ∷ map (λ j. j.packet) ks
    ≡ first_ahead pid counter rest ws ∷ packets_ahead pid ((counter + 1) % 16) s.left s.waiting =
    e ∙ one_ahead pid counter rest ws w s in
    let first : k.packet ≡ first_ahead pid counter rest ws = cc in
    let others : map (λ j. j.packet) ks ≡ packets_ahead pid ((counter + 1) % 16) s.left s.waiting = cc in
    let g = first_call pid counter ws k.out few y rooms.0 s _ (c ∙ ap (collected r hold k.out) first) in
    one_more pid counter s y g
    (fed pid ((counter + 1) % 16) s.begun s.waiting s.each_waiting (omega arith) g.holds rooms.1 run
    others))
    (λ w. let l = ap length (e ∙ none_ahead pid counter rest ws w) in absurd (omega arith)) (lt_or_ge 0 (all rest ws))

pub fed_back : FedBack
fed_back pid counter sections r hold calls r' hold' few each ready room rooms run e =
    fed pid counter none sections each few (holds_of ready room) rooms run e

-- ---- from a fresh record

fresh_ready : (pid counter : ℕ) (hold : List ℕ) → pid ≤ 8191 → Ready pid counter (fresh_record pid) hold
unfolding cannot_stand
fresh_ready pid counter hold k = record {
  stands = or_none _ ∙ le-ltb 8191 pid k;
  pid_is = refl;
  none_in_hand = refl;
  next = refl;
  counters =
      by_kind (λ k. bytes_counted (done k) (fresh_record pid) < 2 ^ 32) (omega arith) (omega arith) (omega arith)
      (omega arith) (omega arith) (omega arith);
}

pub fed_back_fresh : FreshDelivers
fed_back_fresh pid counter sections hold calls r' hold' a-pid few each room rooms run e =
    let d = fed_back pid counter sections (fresh_record pid) hold calls r' hold' few each
    (fresh_ready pid counter hold a-pid) room rooms run e in
    record {
      each_taken = d.each_taken;
      handed_are = d.handed_are;
      accepted_are = omega (arith, d.accepted_are);
      rejected_are = omega (arith, d.rejected_are);
      number_is = d.number_is;
      all_accepted = d.all_accepted;
      none_broken = d.none_broken;
      none_skipped = d.none_skipped;
      none_in_hand = d.goes_on.none_in_hand;
    }

-- ---- there is a run

-- packet by packet, each with its room
inputs_of : List (List ℕ) → List (List ℕ) → List Input
inputs_of [] outs = []
inputs_of (p ∷ packets) [] = []
inputs_of (p ∷ packets) (out ∷ outs) = record { packet = p; out = out } ∷ inputs_of packets outs

-- the calls with these inputs have their packets and their rooms
record With (packets outs : List (List ℕ)) (calls : List Call) : Type 0 where
  packets_are : map (λ k. k.packet) calls ≡ packets
  outs_are : map (λ k. k.out) calls ≡ outs

with_inputs : (packets outs : List (List ℕ)) (calls : List Call) → length outs ≡ length packets
    → map input_of calls ≡ inputs_of packets outs → With packets outs calls
unfolding inputs_of
with_inputs [] [] [] k e = record { packets_are = refl; outs_are = refl }
with_inputs [] [] (c ∷ calls) k e = let l = ap length e in absurd (omega arith)
with_inputs [] (out ∷ outs) calls k e = absurd (omega arith)
with_inputs (p ∷ packets) [] calls k e = absurd (omega arith)
with_inputs (p ∷ packets) (out ∷ outs) [] k e = let l = ap length e in absurd (omega arith)
with_inputs (p ∷ packets) (out ∷ outs) (c ∷ calls) k e =
    let cut : input_of c ∷ map input_of calls ≡ record { packet = p; out = out } ∷ inputs_of packets outs = e in
    let first : input_of c ≡ record { packet = p; out = out } = cc in
    let more = with_inputs packets outs calls (omega arith) cc in
    record {
      packets_are = λ i. (first i).packet ∷ more.packets_are i;
      outs_are = λ i. (first i).out ∷ more.outs_are i;
    }

pub runs_over : RunsOver
runs_over pid counter sections r hold outs k =
    let packets : List (List ℕ) = packets_of pid counter sections in
    let x = runs_exist r hold (inputs_of packets outs) in
    let w = with_inputs packets outs x.calls k x.inputs in
    record {
      calls = x.calls;
      packets_are = w.packets_are;
      outs_are = w.outs_are;
      rec = x.rec;
      last_hold = x.last_hold;
      run = x.run;
    }
