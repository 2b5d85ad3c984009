-- The packets of one call after those of another are one stream: a run over them is one over the first and one over the
-- others.
use mathlib.Core.Path.{◌≡◌, refl, sym, ap, ◌∙◌, subst}
use mathlib.Core.List.{List, [], ◌∷◌, ◌++◌, append_assoc, map, flatten, nil≢cons, head-eq_of_cons-eq, tail-eq_of_cons-eq}
use Prim.Native.Nat.{ℕ, ◌+◌, ◌%◌, ◌≤◌}
use native.Mathlib.Omega.{arith}
use lib.ListN.{length, length-append, length-map}
use Rattle.wire.specs.Each.{Each}
use Rattle.wire.proofs.EachLaws.{each_append}
use Rattle.collector.specs.Rules.{accepted, rejected, plain}
use Rattle.collector.specs.Judged.{by_judge}
use Rattle.collector.specs.declared.Record.{Record}
use Rattle.collector.proofs.StoryLaws.{sections_more}
use Rattle.history.specs.Run.{Promised, Call, Run, no_call, one_call, taken, fare_of, handed_by, handed}
use Rattle.writer.specs.Layout.{Turn, unbegun, laid_out}
use Rattle.writer.specs.Packets.{packets_from, packets_of}
use Rattle.writer.proofs.TurnLaws.{turns_stop}
use Rattle.reverse.specs.FedBack.{Ready, Delivers, packets_of_calls, CallAfterCall}
use Rattle.reverse.proofs.Leaves.{left_by, leaves_more, delivered}
use Rattle.reverse.proofs.FedBack.{fed_back}

abbrev packet_of : Call → List ℕ
packet_of k = k.packet

abbrev Roomy : Call → Type 0
Roomy k = 4280 ≤ length k.out

-- a run whose packets are of two parts, in two
record Parted (ps qs : List (List ℕ)) (r : Record) (hold : List ℕ) (calls : List Call) (r' : Record) (hold' : List ℕ)
    : Type 0 where
  first : List Call
  others : List Call
  are : calls ≡ first ++ others
  first_are : map packet_of first ≡ ps
  others_are : map packet_of others ≡ qs
  rec : Record
  hold₁ : List ℕ
  run₁ : Run Promised r hold first rec hold₁
  run₂ : Run Promised rec hold₁ others r' hold'
  roomy₁ : Each Roomy first
  roomy₂ : Each Roomy others

parted : (ps qs : List (List ℕ)) {r r' : Record} {hold hold' : List ℕ} {calls : List Call}
    → Run Promised r hold calls r' hold' → Each Roomy calls → map packet_of calls ≡ ps ++ qs
    → Parted ps qs r hold calls r' hold'
parted [] qs {r} {r'} {hold} {hold'} {calls} run x e = record {
  first = [];
  others = calls;
  are = refl;
  first_are = refl;
  others_are = e;
  rec = r;
  hold₁ = hold;
  run₁ = no_call;
  run₂ = run;
  roomy₁ = tt;
  roomy₂ = x;
}
parted (p ∷ ps) qs no_call x e = absurd (nil≢cons e)
parted (p ∷ ps) qs (one_call {k = k} {ks = ks} c run) x e =
    let more = parted ps qs run x.1 (tail-eq_of_cons-eq e) in
    record {
      first = k ∷ more.first;
      others = more.others;
      are = ap (λ (l : List Call). k ∷ l) more.are;
      first_are = λ i. head-eq_of_cons-eq e i ∷ more.first_are i;
      others_are = more.others_are;
      rec = more.rec;
      hold₁ = more.hold₁;
      run₁ = one_call c more.run₁;
      run₂ = more.run₂;
      roomy₁ = (x.0, more.roomy₁);
      roomy₂ = more.roomy₂;
    }

handed_append : (a c : List Call) → handed (a ++ c) ≡ handed a ++ handed c
handed_append [] c = refl
handed_append (k ∷ a) c =
    ap (λ (l : List (List ℕ)). handed_by k.said k.out' ++ l) (handed_append a c)
    ∙ sym (append_assoc (handed_by k.said k.out') (handed a) (handed c))

-- what comes of both
both : (pid counter : ℕ) (ss more : List (List ℕ)) {r r₁ r' : Record} {hold hold₁ hold' : List ℕ} (a c : List Call)
    → Ready pid counter r hold → Delivers pid counter ss r a r₁ hold₁
    → Delivers pid ((counter + length a) % 16) more r₁ c r' hold'
    → Delivers pid counter (ss ++ more) r (a ++ c) r' hold'
both pid counter ss more {r' = r'} {hold' = hold'} a c ready x y =
    let same : ((counter + length a) % 16 + length c) % 16 ≡ (counter + length (a ++ c)) % 16 =
    omega (arith, length-append a c) in
    delivered (ss ++ more) (ready.counters rejected)
    (handed_append a c
    ∙ (λ i. x.handed_are i ++ y.handed_are i)
    ∙ sym (sections_more by_judge plain accepted ss more))
    (leaves_more ss more (left_by x) (left_by y)) pid counter
    (each_append (λ k. fare_of k.said ≡ taken) a c x.each_taken y.each_taken)
    (subst (λ (n : ℕ). Ready pid n r' hold') same y.goes_on) y.room_left

no_packets : (pid counter : ℕ) → packets_of pid counter [] ≡ []
unfolding flatten
no_packets pid counter =
    ap (λ (ts : List Turn). packets_from pid counter (laid_out ts [])) (turns_stop (unbegun []) refl)

pub call_after_call : CallAfterCall
unfolding flatten
call_after_call pid counter [] r hold calls r' hold' few each ready room rooms run e =
    fed_back pid counter [] r hold calls r' hold' few tt ready room rooms run
    (e ∙ sym (no_packets pid counter))
call_after_call pid counter (sections ∷ batches) r hold calls r' hold' few each ready room rooms run e =
    let many : ℕ = length (packets_of pid counter sections) in
    let p = parted (packets_of pid counter sections) (packets_of_calls pid ((counter + many) % 16) batches) run rooms e in
    let x = fed_back pid counter sections r hold p.first p.rec p.hold₁ few each.0 ready room p.roomy₁
    p.run₁ p.first_are in
    let as_many : length p.first ≡ many = sym (length-map p.first packet_of) ∙ ap length p.first_are in
    let next : (counter + length p.first) % 16 ≡ (counter + many) % 16 =
    ap (λ (n : ℕ). (counter + n) % 16) as_many in
    let y = call_after_call pid ((counter + many) % 16) batches p.rec p.hold₁ p.others r' hold' (omega arith)
    each.1 (subst (λ (n : ℕ). Ready pid n p.rec p.hold₁) next x.goes_on) x.room_left p.roomy₂
    p.run₂
    p.others_are in
    subst (λ (l : List Call). Delivers pid counter (sections ++ flatten batches) r l r' hold') (sym p.are)
    (both pid counter sections (flatten batches) p.first p.others ready x
    (subst (λ (n : ℕ). Delivers pid n (flatten batches) p.rec p.others r' hold') (sym next) y))
