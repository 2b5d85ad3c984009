-- Request (xii): a packet with payload and the start flag that is taken leaves a record and a hold that tell what came
-- from beyond its target, behind counters and a number that stood before it. From there on a run goes as from a fresh
-- record.
use mathlib.Core.Path.{◌≡◌, refl, sym, ap, ◌∙◌, subst}
use mathlib.Core.Bool.{Bool, true, false, ◌||◌}
use mathlib.Core.Logic.{inr}
use mathlib.Core.List.{List, [], ◌∷◌, ◌++◌, map, flatten}
use Prim.Native.Nat.{ℕ, ◌+◌, ◌%◌, ◌^◌, ◌≤◌}
use native.Mathlib.Omega.{arith}
use lib.ListN.{length, take, drop}
use lib.Dec.{ltb}
use borrow.Author.Tests.{le-ltb}
use Rattle.std.specs.Prelude.{if◌then◌else◌}
use Rattle.wire.specs.Each.{Each}
use Rattle.wire.specs.Sections.{WholeSection}
use Rattle.wire.proofs.EachLaws.{each_of}
use Rattle.packet.specs.Header.{pid_of, counter_of, discontinuity, payload_from, pointer_of}
use Rattle.packet.specs.Refusals.{refusals}
use Rattle.packet.specs.Ruling.{Before, mark_with, joins, Carried, Ruling, ruling}
use Rattle.packet.proofs.Table.{Passed}
use Rattle.collector.specs.Rules.{Kind, pointer, accepted, rejected, done, in-hand, Story, count_of, given, holding, Rest, filling, skipping, kind_of, outside, plain, joined, stretch, goesOn}
use Rattle.collector.specs.Judged.{by_judge, accepted_among, delivered_of, last_number}
use Rattle.collector.specs.Refusals.{before_of, cannot_stand, too_small}
use Rattle.collector.specs.Answer.{Outcome}
use Rattle.collector.specs.Answer as Answer
use Rattle.collector.specs.Collected.{fresh_record, outcome_after, outcome_of, collected}
use Rattle.collector.specs.declared.Record.{Record}
use Rattle.collector.proofs.Invariants.{keep-sections}
use Rattle.collector.proofs.StoryLaws.{Any, Kept, keeps_kept, kept_holding}
use Rattle.collector.proofs.Fits.{small_pid}
use Rattle.history.specs.History.{Byte, value_of, numbered, History, history_from}
use Rattle.history.specs.Run.{Promised, Call, Input, input_of, Run, no_call, one_call, RunOn, Fare, fare_of, ruled_fare, Lent, lent_of, ruling_on, before_after, ruled_in, fares_from, ruled_taken, before_from, handed_by, bytes_by, told_by}
use Rattle.history.specs.Demand3.{delivered_in}
use Rattle.history.specs.Healing.{Starts, beyond_target, from_target, behind, Following, following_of, lent_by, taken_behind, since, delivered_since, rejected_since, OnceSince, until_target, Tally, ToldFrom, state_of, states_in, Took, IsTaken, followed, target, handed_now, Now, FromTarget, SameCalls, Grown, Overwritten, AsFresh, ByPacketsSince, EachAsFresh, Heals}
use Rattle.history.proofs.Agrees.{whole_taken, bytes_after, handed_after, Agrees, agrees_fresh, Went, went, Ran, ran}
use Rattle.history.proofs.Target.{parted_behind, TakenHere, taken_here, story, story_is, behind_until, one_until, agrees_behind}
use Rattle.history.proofs.FaresByTable.{here}
use Rattle.history.proofs.FaresByTable as fares
use Rattle.history.proofs.Demand1.{fare_is}
use Rattle.history.proofs.Demand3.{kept_from}
use Rattle.history.proofs.OutRoom.{fewer}
use Rattle.history.proofs.Promise.{runs_exist}
use Rattle.history.proofs.Fixed.{last_in, last_in_lem, cancel, same_told}

-- ---- packets that follow alike fare alike, whatever the rooms' sizes

small_alike : (size room : ℕ) → 4096 ≤ size → too_small size room ≡ too_small 4096 (if ltb room 4280 then 0 else 4280)
small_alike size room big = ap (λ (t : Bool). t || ltb room 4280) (le-ltb size 4096 big) ∙ by (ltb room 4280)
  where
    by : (t : Bool) → t ≡ too_small 4096 (if t then 0 else 4280)
    by true = refl
    by false = refl

ruled_alike : (pid size : ℕ) (before : Before) (k : Call) → 4096 ≤ size
    → ruling_on pid size before (lent_of k) ≡ ruling_on pid 4096 before (lent_by (following_of k))
ruled_alike pid size before k big =
    ap (λ (t : Bool). ruling t (ltb 8191 pid) pid before k.packet) (small_alike size (length k.out) big)

record Faring (pid size : ℕ) (before : Before) (ks : List Call) : Type 0 where
  fares_are : fares_from pid size before (map lent_of ks) ≡ fares_from pid 4096 before (map lent_by (map following_of ks))
  taken_are : ruled_taken pid size before (map lent_of ks) ≡ ruled_taken pid 4096 before (map lent_by (map following_of ks))
  before_is : before_from pid size before (map lent_of ks) ≡ before_from pid 4096 before (map lent_by (map following_of ks))

faring : (pid size : ℕ) (before : Before) (ks : List Call) → 4096 ≤ size → Faring pid size before ks
faring pid size before [] big = record { fares_are = refl; taken_are = refl; before_is = refl }
faring pid size before (k ∷ ks) big =
    let z : Ruling = ruling_on pid size before (lent_of k) in
    let same : z ≡ ruling_on pid 4096 before (lent_by (following_of k)) = ruled_alike pid size before k big in
    let x = faring pid size (before_after before z) ks big in
    let xs : List Lent = map lent_by (map following_of ks) in
    record {
      fares_are =
          ap (λ (l : List Fare). ruled_fare z ∷ l) x.fares_are
          ∙ ap (λ (y : Ruling). ruled_fare y ∷ fares_from pid 4096 (before_after before y) xs) same;
      taken_are =
          ap (λ (l : List (Carried ℕ)). ruled_in z ++ l) x.taken_are
          ∙ ap (λ (y : Ruling). ruled_in y ++ ruled_taken pid 4096 (before_after before y) xs) same;
      before_is = x.before_is ∙ ap (λ (y : Ruling). before_from pid 4096 (before_after before y) xs) same;
    }

-- ---- one history

module _ {packet : List ℕ} (starts : Starts packet) (t : Took Promised IsTaken packet) where
  here_taken : TakenHere t.at t.at_hold t.out packet
  here_taken = taken_here t.at t.at_hold t.out packet t.outcome t.call starts t.fared

  abbrev after : Story ℕ
  after = story t.at t.at_hold packet

  abbrev came_of_it : Outcome
  came_of_it = outcome_after t.at t.at_hold t.out (counter_of packet) after

  outcome_is : t.outcome ≡ came_of_it
  outcome_is =
      t.call
      ∙ ap (outcome_of t.at t.at_hold t.out) here_taken.ruled
      ∙ ap (outcome_after t.at t.at_hold t.out (counter_of packet))
      (story_is t.at t.at_hold packet starts here_taken.within)

  agrees_now : Agrees (target t) (pid_of packet) (length t.at_hold) t.outcome.rec t.outcome.hold
      (behind packet)
      (from_target packet)
  agrees_now =
      subst
      (λ (o : Outcome). Agrees (target t) (pid_of packet) (length t.at_hold) o.rec o.hold (behind packet)
      (from_target packet))
      (sym outcome_is)
      (agrees_behind t.at t.at_hold packet here_taken.pid_is here_taken.hold_big here_taken.number_few)

  ran_on : Ran (target t) (pid_of packet) (length t.at_hold) (behind packet) (from_target packet) t.later t.left
      t.left_hold
  ran_on = ran t.went_on (behind packet) (from_target packet) agrees_now

  after_whole : Each WholeSection after.sections
  after_whole =
      subst (λ (s : Story ℕ). Each WholeSection s.sections)
      (story_is t.at t.at_hold packet starts here_taken.within)
      (whole_taken by_judge (before_of t.at).last (take t.at.in_hand t.at_hold)
      (here (before_of t.at) packet))

  hands_now : Now t
  hands_now =
      let given : handed_by t.outcome.said t.outcome.out ≡ delivered_of after =
      ap (λ (o : Outcome). handed_by o.said o.out) outcome_is
      ∙ handed_after t.at t.at_hold t.out (counter_of packet) after after_whole in
      record {
        sections_are = given ∙ parted_behind (behind_until t.at t.at_hold packet) accepted;
        one_before = one_until t.at t.at_hold packet;
        told_is =
            ap (λ (o : Outcome). o.said) outcome_is
            ∙ ap (λ (l : List (List ℕ)). Answer.taken (length l) (length (flatten l))) (sym given);
        bytes_are =
            ap (λ (o : Outcome). bytes_by o.said o.out) outcome_is
            ∙ bytes_after t.at t.at_hold t.out (counter_of packet) after
            ∙ ap flatten (sym given);
      }

  from_target_lem : FromTarget t
  from_target_lem =
      let x = ran_on in
      let w = faring (pid_of packet) (length t.at_hold) (behind packet) t.later here_taken.hold_big in
      record {
        now = hands_now;
        fares_are = x.fares ∙ w.fares_are;
        sections_are =
            ap (λ (qs : List (Carried ℕ)). map (map value_of)
            (delivered_in (history_from by_judge (from_target packet) qs).story))
            (sym w.taken_are)
            ∙ x.sections;
        bytes_are = x.bytes;
        told_are = x.told;
        pid_is = x.agrees.pid_is;
        before_is = x.agrees.before_is ∙ w.before_is;
        told_from =
            subst
            (λ (qs : List (Carried ℕ)). ToldFrom (target t) t.left t.left_hold
            (history_from by_judge (from_target packet) qs).story)
            w.taken_are x.agrees.told;
      }

pub by_packets_since : ByPacketsSince Promised
by_packets_since packet starts t = from_target_lem starts t

-- ---- two histories

-- records that agree with one history are in the same state
state_alike : {f₁ f₂ : Tally} {pid₁ pid₂ size₁ size₂ : ℕ} {r₁ r₂ : Record} {hold₁ hold₂ : List ℕ} {before : Before}
    {h : History}
    → Agrees f₁ pid₁ size₁ r₁ hold₁ before h → Agrees f₂ pid₂ size₂ r₂ hold₂ before h
    → state_of r₁ hold₁ ≡ state_of r₂ hold₂
state_alike {r₁ = r₁} {r₂ = r₂} g₁ g₂ =
    let same : before_of r₁ ≡ before_of r₂ = g₁.before_is ∙ sym g₂.before_is in
    let last : r₁.last ≡ r₂.last =
    sym (last_in_lem r₁.last) ∙ ap (λ (z : Before). last_in z.last) same ∙ last_in_lem r₂.last in
    let held = g₁.told.in_hand_is ∙ sym g₂.told.in_hand_is in
    let bytes = g₁.told.hold_is ∙ sym g₂.told.hold_is in
    λ i. record { last = last i; mark = (same i).mark; in-hand = held i; bytes = bytes i }

record AlikeOn {r₁ r₂ r₁' r₂' : Record} {hold₁ hold₂ hold₁' hold₂' : List ℕ} {ks js : List Call}
    (x : Run Promised r₁ hold₁ ks r₁' hold₁') (y : Run Promised r₂ hold₂ js r₂' hold₂') : Type 0 where
  calls : SameCalls ks js
  states : states_in x ≡ states_in y

-- two records that agree with one history, whatever they told before it, answer alike, call by call
calls_alike : {f₁ f₂ : Tally} {pid size₁ size₂ : ℕ} {r₁ r₂ r₁' r₂' : Record} {hold₁ hold₂ hold₁' hold₂' : List ℕ}
    {ks js : List Call} → 4096 ≤ size₁ → 4096 ≤ size₂
    → (x : Run Promised r₁ hold₁ ks r₁' hold₁') (y : Run Promised r₂ hold₂ js r₂' hold₂')
    → (before : Before) (h : History) → Agrees f₁ pid size₁ r₁ hold₁ before h → Agrees f₂ pid size₂ r₂ hold₂ before h
    → map following_of ks ≡ map following_of js → AlikeOn x y
calls_alike big₁ big₂ no_call no_call before h g₁ g₂ e =
    record { calls = record { said = refl; sections = refl; bytes = refl }; states = λ i. state_alike g₁ g₂ i ∷ [] }
calls_alike big₁ big₂ no_call (one_call d y) before h g₁ g₂ e = let z : ◌≡◌ {A = ℕ} 0 1 = cc in absurd (omega arith)
calls_alike big₁ big₂ (one_call c x) no_call before h g₁ g₂ e = let z : ◌≡◌ {A = ℕ} 0 1 = cc in absurd (omega arith)
calls_alike {f₂ = f₂} {pid} {size₁} {size₂} big₁ big₂ (one_call {k = k} {ks = ks} c x)
    (one_call {r₁ = rec} {hold₁ = hold} {k = j} {ks = js} d y) before h g₁ g₂ e =
    let same : following_of k ≡ following_of j = cc in
    let rest : map following_of ks ≡ map following_of js = cc in
    let ruled : ruling_on pid size₂ before (lent_of j) ≡ ruling_on pid size₁ before (lent_of k) =
    ruled_alike pid size₂ before j big₂
    ∙ ap (λ (z : Following). ruling_on pid 4096 before (lent_by z)) (sym same)
    ∙ sym (ruled_alike pid size₁ before k big₁) in
    let o : Outcome = record { rec = rec; hold = hold; out = j.out'; said = j.said } in
    let v = went g₁ k.out k.packet _ c in
    let w = subst (λ (z : Ruling). Went f₂ pid size₂ before h z o) ruled (went g₂ j.out j.packet o d) in
    let sections : handed_by k.said k.out' ≡ handed_by j.said j.out' =
    cancel (map (map value_of) (delivered_in h.story)) _ _ (sym v.sections ∙ w.sections) in
    let bytes : bytes_by k.said k.out' ≡ bytes_by j.said j.out' =
    sym v.bytes ∙ ap flatten sections ∙ w.bytes in
    let told : told_by k.said ≡ told_by j.said =
    sym v.told ∙ ap (λ (l : List (List ℕ)). length (flatten l)) sections ∙ w.told in
    let said : k.said ≡ j.said =
    same_told k.said j.said k.out' j.out' (v.fare ∙ sym w.fare) (ap length sections) told in
    let z = calls_alike big₁ big₂ x y _ _ v.agrees w.agrees rest in
    record {
      calls = record {
        said = λ i. said i ∷ z.calls.said i;
        sections = λ i. sections i ∷ z.calls.sections i;
        bytes = λ i. bytes i ∷ z.calls.bytes i;
      };
      states = λ i. state_alike g₁ g₂ i ∷ z.states i;
    }

-- a number that is overwritten is the same, whatever it was
overwritten : (n m : ℕ) (secs : List (List ℕ)) → (secs ≡ [] → ⊥) → last_number n secs ≡ last_number m secs
overwritten n m [] x = absurd (x refl)
overwritten n m (s ∷ secs) x = refl

module _ {packet : List ℕ} (starts : Starts packet) (a b : Took Promised IsTaken packet)
    (alike : followed a ≡ followed b) where
  on_alike : AlikeOn a.went_on b.went_on
  on_alike =
      calls_alike (here_taken starts a).hold_big (here_taken starts b).hold_big a.went_on b.went_on
      (behind packet)
      (from_target packet) (agrees_now starts a) (agrees_now starts b) alike

  grown_alike : (k : Kind) → Grown a b k
  grown_alike k = record {
    more = count_of (done k) (since packet (followed a)).marks;
    one = (from_target_lem starts a).told_from.counters_are k;
    other =
        (from_target_lem starts b).told_from.counters_are k
        ∙ ap (λ l. ((target b).counted k + count_of (done k) (since packet l).marks) % 2 ^ 32) (sym alike);
  }

  overwrites : Overwritten a b
  overwrites =
      let rejected : List (List ℕ) = rejected_since packet (followed a) in
      let one : a.left.rejection ≡ last_number (target a).number rejected =
      (from_target_lem starts a).told_from.number_is in
      let other : b.left.rejection ≡ last_number (target b).number rejected =
      (from_target_lem starts b).told_from.number_is
      ∙ ap (λ l. last_number (target b).number (rejected_since packet l)) (sym alike) in
      record {
        since_then = λ some. one ∙ overwritten (target a).number (target b).number rejected some ∙ sym other;
        one_until = λ none. one ∙ ap (last_number (target a).number) none;
        other_until = λ none. other ∙ ap (last_number (target b).number) none;
      }

pub heals : Heals Promised
heals = record {
  now = λ packet starts a b alike. (hands_now starts a, hands_now starts b);
  from_then_on = λ packet starts a b alike. (on_alike starts a b alike).calls;
  state = λ packet starts a b alike. (on_alike starts a b alike).states;
  counters = λ packet starts a b alike. grown_alike starts a b alike;
  number = λ packet starts a b alike. overwrites starts a b alike;
}

-- ---- beside a fresh record

-- where no section is in hand none ends before the target
none_ends : (s : Story ℕ) (rest : Rest) (bs : List ℕ)
    → (stretch by_judge plain (outside filling) (record { mode = outside rest; story = s }) bs).story.sections
    ≡ s.sections
none_ends s rest [] = refl
none_ends s rest (b ∷ bs) = none_ends (given (done (kind_of rest)) b s) rest bs

none_before : (pid : ℕ) (hold packet : List ℕ) → (until_target (fresh_record pid) hold packet).sections ≡ []
none_before pid hold packet =
    none (joins fresh_before.last (mark_with fresh_before (discontinuity packet)) (counter_of packet))
  where
    fresh_before : Before
    fresh_before = before_of (fresh_record pid)

    bytes : List ℕ
    bytes = take (pointer_of packet) (drop (payload_from packet + 1) packet)

    none : (t : Bool)
        → (goesOn by_judge plain (given (done pointer) (pointer_of packet) (joined t (holding []))) bytes).sections ≡ []
    none true = none_ends (given (done pointer) (pointer_of packet) (holding [])) skipping bytes
    none false = none_ends (given (done pointer) (pointer_of packet) (holding [])) skipping bytes

-- the same packets and out rooms are alike
abbrev following_by : Input → Following
following_by x = record { packet = x.packet; small = ltb (length x.out) 4280 }

by_inputs : (ks : List Call) → map following_of ks ≡ map following_by (map input_of ks)
by_inputs [] = refl
by_inputs (k ∷ ks) = ap (λ (l : List Following). following_of k ∷ l) (by_inputs ks)

module _ {packet : List ℕ} (starts : Starts packet) (t : Took Promised IsTaken packet) where
  abbrev anew : Record
  anew = fresh_record t.at.pid

  -- the fresh record can stand as well, and has no counter that the packet could repeat
  taken_anew : IsTaken (fare_of (collected anew t.at_hold t.out packet).said)
  taken_anew =
      let small : Bool = too_small (length t.at_hold) (length t.out) in
      let passed = (here_taken starts t).passed in
      let stands : cannot_stand t.at t.at_hold ≡ cannot_stand anew t.at_hold =
      passed.1.1.0
      ∙ sym ((agrees_fresh t.at.pid t.at_hold).stand_is ∙ small_pid t.at t.at_hold passed.1.1.0) in
      fare_is anew t.at_hold t.out
      (ruling small (cannot_stand anew t.at_hold) t.at.pid (before_of anew) packet)
      ∙ (fares.taken_exactly_if small (cannot_stand anew t.at_hold) t.at.pid (before_of anew) packet).1
      (subst (λ (u : Bool). Each Passed (refusals small u t.at.pid packet)) stands passed, inr (inr refl))

  -- its history, with the same packets and out rooms
  goes_anew : RunOn (collected anew t.at_hold t.out packet).rec
      (collected anew t.at_hold t.out packet).hold
      (map input_of t.later)
  goes_anew = runs_exist _ _ (map input_of t.later)

  abbrev new : Took Promised IsTaken packet
  new = record {
    from = anew;
    from_hold = t.at_hold;
    past = [];
    at = anew;
    at_hold = t.at_hold;
    came = no_call;
    out = t.out;
    outcome = collected anew t.at_hold t.out packet;
    call = refl;
    fared = taken_anew;
    later = goes_anew.calls;
    left = goes_anew.rec;
    left_hold = goes_anew.last_hold;
    went_on = goes_anew.run;
  }

  as_fresh : AsFresh t
  as_fresh =
      let alike : followed t ≡ followed new =
      by_inputs t.later ∙ ap (map following_by) (sym goes_anew.inputs) ∙ sym (by_inputs goes_anew.calls) in
      let here = on_alike starts t new alike in
      let none : delivered_of (until_target anew t.at_hold packet) ≡ [] =
      ap accepted_among (none_before t.at.pid t.at_hold packet) in
      let beyond : handed_now new ≡ delivered_since packet [] =
      (hands_now starts new).sections_are ∙ ap (λ (l : List (List ℕ)). l ++ delivered_since packet []) none in
      record {
        new = new;
        is_fresh = refl;
        no_past = refl;
        same_rooms = (refl, refl);
        same_inputs = goes_anew.inputs;
        before = delivered_of (until_target t.at t.at_hold packet);
        one_before =
            omega (arith, fewer accepted (until_target t.at t.at_hold packet).sections, (hands_now starts t).one_before);
        now =
            (hands_now starts t).sections_are
            ∙ ap (λ (l : List (List ℕ)). delivered_of (until_target t.at t.at_hold packet) ++ l) (sym beyond);
        from_then_on = here.calls;
        state = here.states;
      }

pub each_as_fresh : EachAsFresh Promised
each_as_fresh packet starts t = as_fresh starts t

-- ---- each byte from beyond the target is in the story once

pub once_since : OnceSince
once_since packet later =
    let bytes : List Byte = numbered 0 (beyond_target packet) in
    (kept_from by_judge (from_target packet) bytes (taken_behind packet later)
    (keep-sections by_judge value_of Any (Kept by_judge value_of) (keeps_kept by_judge value_of) [] (holding []) bytes
    (each_of Any (λ b. tt) bytes) (kept_holding by_judge value_of []))
    ).seen
