-- What is asked fixes the collector: a run of any that keeps it is, call by call, a run of the promise.
use mathlib.Core.Path.{◌≡◌, refl, sym, ap, ◌∙◌, subst}
use mathlib.Core.List.{List, [], ◌∷◌, ◌++◌, append_assoc, append-nil, map, map-append, flatten}
use mathlib.Core.Logic.{◌↔◌}
use mathlib.Core.Option.{Option, none, some}
use Prim.Native.Nat.{ℕ, zero, suc, ◌%◌, ◌^◌}
use native.Mathlib.Omega.{arith}
use lib.ListN.{length, take, drop, take-append-drop}
use lib.Seq.{drop-append_seam}
use lib.Dec.{ltb}
use Rattle.wire.specs.Each.{Each}
use Rattle.wire.specs.Sections.{total_of}
use Rattle.copy.specs.Laid.{over}
use Rattle.packet.specs.Ruling.{Before, noneBefore, Ruling, takes, ruling}
use Rattle.collector.specs.Rules.{in-hand, done, Story, count_of, hand_of, holding, plain, story_after}
use Rattle.collector.specs.Judged.{by_judge, delivered_of}
use Rattle.collector.specs.Refusals.{last_of, before_of, cannot_stand, too_small, Last}
use Rattle.packet.specs.Ruling as Ruled
use Rattle.collector.specs.Answer.{Reply, refused_with, repeated, taken, Outcome}
use Rattle.collector.specs.Collected.{record_with, fresh_record, outcome_of, collected}
use Rattle.collector.specs.declared.Record.{Record}
use Rattle.std.specs.Prelude.{None, Some}
use Rattle.history.specs.History.{value_of, History, history_of}
use Rattle.history.specs.Run.{Collector, Promised, Call, Input, input_of, Run, no_call, one_call, Fare, fare_of, ruled_fare, Lent, lent_of, ruling_on, before_after, fares_from, ruled_taken, before_from, cut, handed_by, handed, bytes_by, told_by}
use Rattle.history.specs.Run as R
use Rattle.history.specs.Demand3.{TakenCallByCall, RefusedIf, delivered_in, number_in}
use Rattle.history.specs.Fixed.{RecordTells, BeyondStays, Asked, OnlyAsPromised, Agree}
use Rattle.history.proofs.Agrees.{ran, agrees_fresh}
use Rattle.history.proofs.FaresByTable.{fare_number}
use Rattle.history.proofs.FaresByTable as fares
use Rattle.history.proofs.Demand1.{said_refused}
use Rattle.history.proofs.Demand3.{refused_exactly_if, taken_exactly_if, counters_are_fates, delivered_in_order, kept_number}

-- ---- fares

-- fares that are refused alike and taken alike
same_fare : (f g : Fare) → ((n : ℕ) → (f ≡ R.refused_by n) ↔ (g ≡ R.refused_by n)) → (f ≡ R.taken) ↔ (g ≡ R.taken) → f ≡ g
same_fare (R.refused_by n) g a b = sym ((a n).0 refl)
same_fare R.taken g a b = sym (b.0 refl)
same_fare R.repeated (R.refused_by n) a b = (a n).1 refl
same_fare R.repeated R.repeated a b = refl
same_fare R.repeated R.taken a b = b.1 refl

-- "refused exactly if" and "taken exactly if" leave one fare for each packet
fares_by_lem : (pid size : ℕ) (before : Before) (ks : List Call) → Each (RefusedIf pid size) ks
    → TakenCallByCall pid size before ks
    → map (λ k. fare_of k.said) ks ≡ fares_from pid size before (map lent_of ks)
fares_by_lem pid size before [] a b = refl
fares_by_lem pid size before (k ∷ ks) a b =
    let row = fares.refused_exactly_if (too_small size (lent_of k).room) (ltb 8191 pid) pid before k.packet in
    let new = fares.taken_exactly_if (too_small size (lent_of k).room) (ltb 8191 pid) pid before k.packet in
    let z : Ruling = ruling_on pid size before (lent_of k) in
    let here : fare_of k.said ≡ ruled_fare z =
    same_fare (fare_of k.said) (ruled_fare z)
    (λ n. (
      λ e. (row n).1 ((a.0 n).0 ((said_refused n k.said).1 e)),
      λ e. (said_refused n k.said).0 ((a.0 n).1 ((row n).0 e)),
    ))
    (λ e. new.1 (b.0.0 e), λ e. b.0.1 (new.0 e)) in
    λ i. here i ∷ fares_by_lem pid size (before_after before z) ks a.1 b.1 i

-- ---- what the statements say of a run, by the packets and the out rooms' sizes

abbrev pub last_in : Option ℕ → Last
last_in none = None
last_in (some c) = Some c

pub last_in_lem : (l : Last) → last_in (last_of l) ≡ l
last_in_lem None = refl
last_in_lem (Some c) = refl

abbrev record_in : ℕ → Before → History → Record
record_in pid before h =
    record_with pid (last_in before.last) before.mark (number_in h.story) (count_of in-hand h.story.marks)
    (λ k. count_of (done k) h.story.marks % 2 ^ 32)

record Shown (pid : ℕ) (hold : List ℕ) (xs : List Lent) (ks : List Call) (r : Record) (hold' : List ℕ) : Type 0 where
  fares_are : map (λ k. fare_of k.said) ks ≡ fares_from pid (length hold) noneBefore xs
  sections_are : handed ks
      ≡ map (map value_of) (delivered_in (history_of by_judge (ruled_taken pid (length hold) noneBefore xs)).story)
  record_is : r
      ≡ record_in pid (before_from pid (length hold) noneBefore xs)
      (history_of by_judge (ruled_taken pid (length hold) noneBefore xs))
  hand_is : take r.in_hand hold'
      ≡ map value_of (hand_of (history_of by_judge (ruled_taken pid (length hold) noneBefore xs)).story)

shown : (C : Collector) → Asked C → (pid : ℕ) (hold : List ℕ) (ks : List Call) (r : Record) (hold' : List ℕ)
    → Run C (fresh_record pid) hold ks r hold' → Shown pid hold (map lent_of ks) ks r hold'
shown C a pid hold ks r hold' x =
    let c = a.counters pid hold ks r hold' x in
    let t = a.record_tells pid hold ks r hold' x in
    let number = a.number pid hold ks r hold' x in
    let last : r.last ≡ last_in (before_from pid (length hold) noneBefore (map lent_of ks)).last =
    sym (last_in_lem r.last) ∙ ap (λ (b : Before). last_in b.last) t.1 in
    record {
      fares_are =
          fares_by_lem pid (length hold) noneBefore ks (a.refused_if pid hold ks r hold' x)
          (a.taken_if pid hold ks r hold' x);
      sections_are = (a.delivered pid hold ks r hold' x).sections_are;
      record_is = λ i. record_with (t.0 i) (last i) (t.1 i).mark (number i) (c.in_hand_is i)
          (λ k. c.counters_are k i);
      hand_is = c.hold_is;
    }

-- ---- the promise keeps it all

behind_over : (bytes room : List ℕ) → drop (length bytes) (over bytes room) ≡ drop (length bytes) room
behind_over bytes room = drop-append_seam bytes (drop (length bytes) room)

stays_by : (r : Record) (hold out : List ℕ) (z : Ruling) → let o : Outcome = outcome_of r hold out z in
    (drop (told_by o.said) o.out ≡ drop (told_by o.said) out)
    × (drop o.rec.in_hand o.hold ≡ drop o.rec.in_hand hold)
stays_by r hold out (Ruled.refuses n) = (refl, refl)
stays_by r hold out Ruled.repeated = (refl, refl)
stays_by r hold out (Ruled.bare splice) = (refl, refl)
stays_by r hold out (takes q) =
    let s : Story ℕ = story_after by_judge plain (before_of r).last (holding (take r.in_hand hold)) q in
    (behind_over (flatten (delivered_of s)) out, behind_over (hand_of s) hold)

pub beyond_stays : BeyondStays Promised
beyond_stays r hold out packet o x =
    subst (λ (y : Outcome). (drop (told_by y.said) y.out ≡ drop (told_by y.said) out)
    × (drop y.rec.in_hand y.hold ≡ drop y.rec.in_hand hold)) (sym x)
    (stays_by r hold out
    (ruling (too_small (length hold) (length out)) (cannot_stand r hold) r.pid (before_of r) packet))

pub record_tells : RecordTells Promised
record_tells pid hold calls r hold' x =
    let g = (ran x noneBefore _ (agrees_fresh pid hold)).agrees in (g.pid_is, g.before_is)

pub promise_keeps : Asked Promised
promise_keeps = record {
  refused_if = refused_exactly_if;
  taken_if = taken_exactly_if;
  counters = counters_are_fates;
  delivered = delivered_in_order;
  number = kept_number;
  record_tells = record_tells;
  beyond_stays = beyond_stays;
}

-- ---- one call more

run_snoc : {C : Collector} {r r₁ r₂ : Record} {hold hold₁ hold₂ : List ℕ} {ks : List Call} {k : Call}
    → Run C r hold ks r₁ hold₁
    → C r₁ hold₁ k.out k.packet (record { rec = r₂; hold = hold₂; out = k.out'; said = k.said })
    → Run C r hold (ks ++ (k ∷ [])) r₂ hold₂
run_snoc no_call c = one_call c no_call
run_snoc (one_call d x) c = one_call d (run_snoc x c)

pub cancel : {A : Type 0} (a x y : List A) → a ++ x ≡ a ++ y → x ≡ y
cancel a x y e = sym (drop-append_seam a x) ∙ ap (drop (length a)) e ∙ drop-append_seam a y

handed_snoc : (ks : List Call) (k : Call) → handed (ks ++ (k ∷ [])) ≡ handed ks ++ handed_by k.said k.out'
handed_snoc [] k = append-nil (handed_by k.said k.out')
handed_snoc (j ∷ ks) k =
    ap (λ (l : List (List ℕ)). handed_by j.said j.out' ++ l) (handed_snoc ks k)
    ∙ sym (append_assoc (handed_by j.said j.out') (handed ks) (handed_by k.said k.out'))

each_snoc : (P : Call → Type 0) (ks : List Call) (k : Call) → Each P (ks ++ (k ∷ [])) → P k
each_snoc P [] k x = x.0
each_snoc P (j ∷ ks) k x = each_snoc P ks k x.1

cut_long : (n : ℕ) (bs : List ℕ) → length (cut n bs) ≡ n
cut_long zero bs = refl
cut_long (suc n) bs = ap suc (cut_long n (drop (total_of bs) bs))

-- an answer is fixed by how the packet fares, by the number of sections handed out and by the bytes that it tells
pub same_told : (a b : Reply) (out out₂ : List ℕ) → fare_of a ≡ fare_of b → length (handed_by a out) ≡ length (handed_by b out₂)
    → told_by a ≡ told_by b → a ≡ b
same_told (refused_with n) b out out₂ f s t = sym ((said_refused n b).1 (sym f))
same_told repeated (refused_with n) out out₂ f s t = let z : ◌≡◌ {A = ℕ} 1 0 = ap fare_number f in absurd (omega arith)
same_told repeated repeated out out₂ f s t = refl
same_told repeated (taken m n) out out₂ f s t = let z : ◌≡◌ {A = ℕ} 1 2 = ap fare_number f in absurd (omega arith)
same_told (taken m n) (refused_with k) out out₂ f s t = let z : ◌≡◌ {A = ℕ} 2 0 = ap fare_number f in absurd (omega arith)
same_told (taken m n) repeated out out₂ f s t = let z : ◌≡◌ {A = ℕ} 2 1 = ap fare_number f in absurd (omega arith)
same_told (taken m n) (taken k l) out out₂ f s t = λ i. taken
    ((sym (cut_long m (take n out)) ∙ s ∙ cut_long k (take l out₂)) i) (t i)

-- a room is fixed by what stands in front and by what stays behind it
rebuilt : (n : ℕ) (room was : List ℕ) → drop n room ≡ drop n was → room ≡ take n room ++ drop n was
rebuilt n room was e = sym (take-append-drop n room) ∙ ap (λ (l : List ℕ). take n room ++ l) e

bytes_told : (t : Reply) (out : List ℕ) → take (told_by t) out ≡ bytes_by t out
bytes_told (refused_with n) out = refl
bytes_told repeated out = refl
bytes_told (taken sections bytes) out = refl

-- after the same calls, two collectors that keep what is asked make the same of a packet
module _ (C D : Collector) (a : Asked C) (b : Asked D) (pid : ℕ) (hold : List ℕ) (ks : List Call) (r : Record)
    (hold₁ : List ℕ) where
  abbrev call_of : List ℕ → List ℕ → Outcome → Call
  call_of out packet o = record { packet = packet; out = out; out' = o.out; said = o.said }

  one_outcome : Run C (fresh_record pid) hold ks r hold₁ → Run D (fresh_record pid) hold ks r hold₁
      → (out packet : List ℕ) (o o₂ : Outcome) → C r hold₁ out packet o → D r hold₁ out packet o₂ → o ≡ o₂
  one_outcome x y out packet o o₂ c d =
      let k : Call = call_of out packet o in
      let k₂ : Call = call_of out packet o₂ in
      let x' : Run C (fresh_record pid) hold (ks ++ (k ∷ [])) o.rec o.hold = run_snoc x c in
      let y' : Run D (fresh_record pid) hold (ks ++ (k₂ ∷ [])) o₂.rec o₂.hold = run_snoc y d in
      let lents : map lent_of (ks ++ (k ∷ [])) ≡ map lent_of (ks ++ (k₂ ∷ [])) =
      map-append lent_of ks (k ∷ []) ∙ sym (map-append lent_of ks (k₂ ∷ [])) in
      let u = subst (λ (xs : List Lent). Shown pid hold xs (ks ++ (k ∷ [])) o.rec o.hold) lents
      (shown C a pid hold (ks ++ (k ∷ [])) o.rec o.hold x') in
      let v = shown D b pid hold (ks ++ (k₂ ∷ [])) o₂.rec o₂.hold y' in
      let p = a.delivered pid hold (ks ++ (k ∷ [])) o.rec o.hold x' in
      let q = b.delivered pid hold (ks ++ (k₂ ∷ [])) o₂.rec o₂.hold y' in
      let given : handed_by o.said o.out ≡ handed_by o₂.said o₂.out =
      cancel (handed ks) _ _
      (sym (handed_snoc ks k) ∙ u.sections_are ∙ sym v.sections_are ∙ handed_snoc ks k₂) in
      let fare-list : fare_of o.said ∷ [] ≡ fare_of o₂.said ∷ [] =
      cancel (map (λ j. fare_of j.said) ks) _ _
      (sym (map-append (λ j. fare_of j.said) ks (k ∷ []))
      ∙ u.fares_are
      ∙ sym v.fares_are
      ∙ map-append (λ j. fare_of j.said) ks (k₂ ∷ [])) in
      let fare : fare_of o.said ≡ fare_of o₂.said = cc in
      let told : told_by o.said ≡ told_by o₂.said =
      sym (each_snoc _ ks k p.told_are)
      ∙ ap (λ (l : List (List ℕ)). length (flatten l)) given
      ∙ each_snoc _ ks k₂ q.told_are in
      let said : o.said ≡ o₂.said = same_told o.said o₂.said o.out o₂.out fare (ap length given) told in
      let bytes : bytes_by o.said o.out ≡ bytes_by o₂.said o₂.out =
      sym (each_snoc _ ks k p.bytes_are) ∙ ap flatten given ∙ each_snoc _ ks k₂ q.bytes_are in
      let the-record : o.rec ≡ o₂.rec = u.record_is ∙ sym v.record_is in
      let stays = a.beyond_stays r hold₁ out packet o c in
      let stays₂ = b.beyond_stays r hold₁ out packet o₂ d in
      let front : take (told_by o.said) o.out ≡ take (told_by o₂.said) o₂.out =
      bytes_told o.said o.out ∙ bytes ∙ sym (bytes_told o₂.said o₂.out) in
      let the_out : o.out ≡ o₂.out =
      rebuilt (told_by o.said) o.out out stays.0 ∙ (λ i. front i ++ drop (told i) out)
      ∙ sym (rebuilt (told_by o₂.said) o₂.out out stays₂.0) in
      let held : take o.rec.in_hand o.hold ≡ take o₂.rec.in_hand o₂.hold =
      u.hand_is ∙ sym v.hand_is in
      let the_hold : o.hold ≡ o₂.hold =
      rebuilt o.rec.in_hand o.hold hold₁ stays.1 ∙ (λ i. held i ++ drop (the-record i).in_hand hold₁)
      ∙ sym (rebuilt o₂.rec.in_hand o₂.hold hold₁ stays₂.1) in
      λ i. record { rec = the-record i; hold = the_hold i; out = the_out i; said = said i }

-- ---- runs

module _ (C : Collector) (a : Asked C) (pid : ℕ) (hold : List ℕ) where
  -- where the calls so far were a run of both, the rest is a run of the promise
  rest_as_promised : (ks : List Call) {r r' : Record} {hold₁ hold' : List ℕ} {more : List Call}
      → Run C (fresh_record pid) hold ks r hold₁ → Run Promised (fresh_record pid) hold ks r hold₁
      → Run C r hold₁ more r' hold' → Run Promised r hold₁ more r' hold'
  rest_as_promised ks x y no_call = no_call
  rest_as_promised ks {r} {hold₁ = hold₁} x y (one_call {k = k} c rest) =
      let same = one_outcome C Promised a promise_keeps pid hold ks r hold₁ x y k.out k.packet _
      (collected r hold₁ k.out k.packet) c refl in
      one_call same (rest_as_promised (ks ++ (k ∷ [])) (run_snoc x c) (run_snoc y same) rest)

pub fixed : (C : Collector) → Asked C → OnlyAsPromised C
fixed C a pid hold calls r hold' x = rest_as_promised C a pid hold [] no_call no_call x

-- the promise leaves one run for each list of inputs
promised_once : {r r₁ r₂ : Record} {hold hold₁ hold₂ : List ℕ} {ks ks₂ : List Call} → Run Promised r hold ks r₁ hold₁
    → Run Promised r hold ks₂ r₂ hold₂ → map input_of ks ≡ map input_of ks₂ → (ks ≡ ks₂) × (r₁ ≡ r₂) × (hold₁ ≡ hold₂)
promised_once no_call no_call e = (refl, refl, refl)
promised_once no_call (one_call d y) e = let z : ◌≡◌ {A = ℕ} 0 1 = cc in absurd (omega arith)
promised_once (one_call c x) no_call e = let z : ◌≡◌ {A = ℕ} 0 1 = cc in absurd (omega arith)
promised_once {r} {r₂ = r₂} {hold = hold} {hold₂ = hold₂} (one_call {r₁ = s} {hold₁ = h} {k = k} {ks = ks} c x)
    (one_call {r₁ = s₂} {hold₁ = h₂} {k = k₂} {ks = ks₂} d y) e =
    let input : input_of k ≡ input_of k₂ = cc in
    let inputs : map input_of ks ≡ map input_of ks₂ = cc in
    let same : ◌≡◌ {A = Outcome} (record { rec = s; hold = h; out = k.out'; said = k.said })
    (record { rec = s₂; hold = h₂; out = k₂.out'; said = k₂.said }) =
    c ∙ ap (λ (i : Input). collected r hold i.out i.packet) input ∙ sym d in
    let y' : Run Promised s h ks₂ r₂ hold₂ =
    subst (λ (o : Outcome). Run Promised o.rec o.hold ks₂ r₂ hold₂) (sym same) y in
    let w = promised_once x y' inputs in (
      (λ i. record { packet = (input i).packet; out = (input i).out; out' = (same i).out; said = (same i).said } ∷ w.0 i),
      w.1,
      w.2,
    )

-- two collectors that keep what is asked agree in every run
pub agree : (C D : Collector) → Asked C → Asked D → Agree C D
agree C D a b pid hold calls calls₂ r r₂ hold' hold₂ x y e =
    promised_once (fixed C a pid hold calls r hold' x) (fixed D b pid hold calls₂ r₂ hold₂ y) e
