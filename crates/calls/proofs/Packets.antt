-- What `lohitunga_packets` answers and writes; and that its packets, fed to `lohitunga_collect`, give the sections back.
use mathlib.Core.Path.{◌≡◌, refl, sym, ap, ◌∙◌, subst}
use mathlib.Core.List.{List, [], ◌∷◌, map}
use mathlib.Core.Option.{Option, none, some}
use Prim.Native.Nat.{ℕ, ◌*◌, ◌≤◌}
use native.Mathlib.Omega.{arith}
use lib.ListN.{length, drop}
use Rattle.wire.specs.Each.{Each}
use Rattle.packet.specs.Refusals.{first_of}
use Rattle.collector.specs.Rules.{accepted, rejected, broken, skipped}
use Rattle.collector.specs.Answer as collector
use Rattle.collector.specs.Collected.{fresh_record}
use Rattle.history.specs.Run as beneath
use Rattle.history.specs.Run.{Fare, fare_of}
use Rattle.writer.specs.Answer as writer
use Rattle.writer.specs.Written.{refusals, outcome_by, written}
use Rattle.reverse.specs.Rule.{Obeys}
use Rattle.reverse.specs.Writer.{packets_in}
use Rattle.reverse.proofs.Writer.{writes_at, packets_are, bad_start_exactly_if, bad_section_exactly_if, room_exactly_if, writes_exactly_if, later_stay}
use Rattle.reverse.proofs.Writer as reverse
use Rattle.reverse.specs.FedBack.{AllDelivered}
use Rattle.reverse.proofs.FedBack.{fed_back_fresh}
use Rattle.cabinet.specs.Collect.{collect_says, Outcome, collecting}
use Rattle.cabinet.specs.Packets.{packets_says}
use Rattle.cabinet.specs.declared.packets.PacketsAnswer.{PacketsAnswer}
use Rattle.cabinet.specs.declared.collect.Record.{Record}
use Rattle.calls.specs.Collects.{Promised, Call, no_call, one_call, call_says, Beneath}
use Rattle.calls.specs.Packets.{NumberedExactlyIf, WritesByRule, RefusalLeaves, ComeBack, PacketsComeBack, RunsOver}
use Rattle.calls.proofs.Collects.{runs_beneath, handed_out}
use Rattle.calls.proofs.PacketLaws.{said_wrote, told_wrote, refused_as}

-- ---- one call

pub numbered_exactly_if : NumberedExactlyIf
numbered_exactly_if pid counter bytes sizes room room' a p =
    let o : writer.Outcome = written pid counter bytes sizes room in
    let writes = writes_exactly_if pid counter bytes sizes room o refl in (
      refused_as pid counter bytes sizes room room' a p 101 (λ e. omega arith)
          (bad_start_exactly_if pid counter bytes sizes room o refl),
      refused_as pid counter bytes sizes room room' a p 102 (λ e. omega arith)
          (bad_section_exactly_if pid counter bytes sizes room o refl),
      refused_as pid counter bytes sizes room room' a p 103 (λ e. omega arith)
          (room_exactly_if pid counter bytes sizes room o refl),
      (
        λ z. (writes a.packets).0 (said_wrote pid counter bytes sizes room room' a p z),
        λ x. (told_wrote pid counter bytes sizes room room' a p a.packets ((writes a.packets).1 x)).0,
      ),
    )

pub writes_by_rule : WritesByRule
writes_by_rule pid counter bytes sizes room room' a p z =
    let o : writer.Outcome = written pid counter bytes sizes room in
    let said = said_wrote pid counter bytes sizes room room' a p z in (
      λ sections x. subst (λ (l : List ℕ). Obeys pid counter sections (packets_in a.packets l)) (sym p.1)
          (reverse.writes_by_rule pid counter bytes sizes room o refl a.packets said sections x),
      ap (drop (a.packets * 188)) p.1 ∙ (later_stay pid counter bytes sizes room o refl a.packets said).0,
    )

-- a refusal
leaves_by : (o : Option ℕ) (pid counter : ℕ) (bytes sizes room : List ℕ)
    → let x = outcome_by o pid counter bytes sizes room in ((packets_says x.said).number ≡ 0 → ⊥)
    → (x.room ≡ room) × ((packets_says x.said).packets ≡ 0)
leaves_by (some n) pid counter bytes sizes room h = (refl, refl)
leaves_by none pid counter bytes sizes room h = absurd (h refl)

pub refusal_leaves : RefusalLeaves
refusal_leaves pid counter bytes sizes room room' a (tells, leaves) h =
    let z = leaves_by (first_of (refusals pid counter bytes sizes (length room))) pid counter bytes sizes room
    (λ e. h (ap (λ (x : PacketsAnswer). x.number) tells ∙ e)) in
    (leaves ∙ z.0, ap (λ (x : PacketsAnswer). x.packets) tells ∙ z.1)

-- ---- calls of the collector, by those beneath

abbrev TakenCall : Call → Type 0
TakenCall k = (k.answer.number ≡ 0) × (k.answer.repeated ≡ 0)

abbrev IsTaken : Fare → Type 0
IsTaken (beneath.refused_by n) = ⊥
IsTaken beneath.repeated = ⊥
IsTaken beneath.taken = Unit {0}

taken_says : (said : collector.Reply) → IsTaken (fare_of said)
    → ((collect_says said).number ≡ 0) × ((collect_says said).repeated ≡ 0)
taken_says (collector.refused_with n) x = absurd x
taken_says collector.repeated x = absurd x
taken_says (collector.taken n b) x = (refl, refl)

each_says : (under : List beneath.Call) → Each (λ k. fare_of k.said ≡ beneath.taken) under
    → Each TakenCall (map call_says under)
each_says [] x = tt
each_says (k ∷ ks) x = (taken_says k.said (subst IsTaken (sym x.0) tt), each_says ks x.1)

rooms_beneath : (under : List beneath.Call) → Each (λ k. 4280 ≤ length k.out) (map call_says under)
    → Each (λ k. 4280 ≤ length k.out) under
rooms_beneath [] x = tt
rooms_beneath (k ∷ ks) x = (x.0, rooms_beneath ks x.1)

packets_beneath : (under : List beneath.Call) → map (λ k. k.packet) (map call_says under) ≡ map (λ k. k.packet) under
packets_beneath [] = refl
packets_beneath (k ∷ ks) = ap (λ (l : List (List ℕ)). k.packet ∷ l) (packets_beneath ks)

-- what is delivered beneath comes back
come_back : (pid : ℕ) (sections : List (List ℕ)) (hold : List ℕ) (calls : List Call) (r : Record) (hold' : List ℕ)
    → (b : Beneath (fresh_record pid) hold calls r hold') → AllDelivered sections b.under b.rec
    → ComeBack sections calls r
come_back pid sections hold calls r hold' b d =
    let stands = b.record_stands in
    record {
      each_taken = subst (Each TakenCall) (sym b.calls_say) (each_says b.under d.each_taken);
      handed_are = handed_out b ∙ d.handed_are;
      accepted_are = sym (stands.counters accepted) ∙ d.accepted_are;
      rejected_are = sym (stands.counters rejected) ∙ d.rejected_are;
      number_is = sym stands.rejection ∙ d.number_is;
      all_accepted = λ each. let all = d.all_accepted each in record {
        handed_are = handed_out b ∙ all.handed_are;
        none_rejected = sym (stands.counters rejected) ∙ all.rejected_are;
        no_number = sym stands.rejection ∙ all.number_is;
      };
      none_broken = sym (stands.counters broken) ∙ d.none_broken;
      none_skipped = sym (stands.counters skipped) ∙ d.none_skipped;
      none_in_hand = sym stands.in-hand ∙ d.none_in_hand;
    }

pub packets_come_back : PacketsComeBack Promised
packets_come_back pid counter bytes sizes room room' a fresh hold calls r hold' p z is enough rooms run e sections x =
    let w = writes_at pid counter bytes sizes room (written pid counter bytes sizes room) refl a.packets
    (said_wrote pid counter bytes sizes room room' a p z) in
    let there = ap (packets_in a.packets) p.1 ∙ packets_are w sections x in
    let b = runs_beneath pid fresh hold calls r hold' is run in
    let are = sym (packets_beneath b.under) ∙ sym (ap (map (λ k. k.packet)) b.calls_say) ∙ e ∙ there in
    let rooms_are = rooms_beneath b.under (subst (Each (λ k. 4280 ≤ length k.out)) b.calls_say rooms) in
    come_back pid sections hold calls r hold' b
    (fed_back_fresh pid counter sections hold b.under b.rec hold' w.right.pid_small w.right.counter_small
    x.each enough rooms_are b.run are)

-- ---- there is a run

pub runs_over : RunsOver Promised
runs_over r hold [] [] e = record {
  calls = [];
  packets_are = refl;
  outs_are = refl;
  rec = r;
  last_hold = hold;
  run = no_call;
}
runs_over r hold [] (out ∷ outs) e = absurd (omega arith)
runs_over r hold (p ∷ packets) [] e = absurd (omega arith)
runs_over r hold (p ∷ packets) (out ∷ outs) e =
    let o : Outcome = collecting r hold out p in
    let k : Call = record { packet = p; out = out; out' = o.out; answer = o.answer } in
    let more = runs_over o.rec o.hold packets outs (omega arith) in
    record {
      calls = k ∷ more.calls;
      packets_are = ap (λ (l : List (List ℕ)). p ∷ l) more.packets_are;
      outs_are = ap (λ (l : List (List ℕ)). out ∷ l) more.outs_are;
      rec = more.rec;
      last_hold = more.last_hold;
      run = one_call refl more.run;
    }
