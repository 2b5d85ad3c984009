-- What a packet with payload and the start flag leaves, where it is taken: what stands beyond its target, behind what came
-- before it.
use mathlib.Core.Path.{◌≡◌, refl, sym, ap, ◌∙◌, subst}
use mathlib.Core.Bool.{Bool, true, false}
use mathlib.Core.Logic.{⊎_elim}
use mathlib.Core.List.{List, [], ◌∷◌, ◌++◌, append-nil, map, map-id}
use Prim.Native.Nat.{ℕ, suc, ◌+◌, ◌%◌, ◌^◌, ◌≤◌, ◌<◌}
use native.Mathlib.Nat.{add-zero}
use native.Mathlib.Omega.{arith}
use lib.ListN.{length, take, drop}
use lib.Seq.{drop-cons, drop-drop}
use borrow.Author.Tests.{eqb-true, not-false, ne_eqb}
use Rattle.std.specs.Prelude.{if◌then◌else◌}
use Rattle.wire.specs.Each.{Each}
use Rattle.copy.specs.Laid.{over}
use Rattle.packet.specs.Header.{start_flag, pid_of, control, counter_of, discontinuity, payload_from, pointer_of}
use Rattle.packet.specs.Refusals.{refusals, has_payload, judged_by, judged}
use Rattle.packet.specs.Refusals as Refusals
use Rattle.packet.specs.Ruling.{Before, mark_with, joins, repeats, Carried, Ruling, repeated, takes, ruled_by, ruling}
use Rattle.packet.proofs.Table.{Passed, all_passed}
use Rattle.collector.specs.Rules.{Kind, pointer, rejected, broken, done, Fate, Story, count_of, hand_of, given, holding, plain, joined, payload, sections_of, goesOn, sections_in, story_after}
use Rattle.collector.specs.Judged.{by_judge, rejected_of, last_number}
use Rattle.collector.specs.Refusals.{before_of, cannot_stand, too_small}
use Rattle.collector.specs.Answer.{Outcome}
use Rattle.collector.specs.Collected.{record_after}
use Rattle.collector.specs.declared.Record.{Record}
use Rattle.collector.proofs.MarkLaws.{settled_hand}
use Rattle.collector.proofs.Simulation.{Beside, beside_sections}
use Rattle.collector.proofs.StoryLaws.{sections_more, sections_values}
use Rattle.collector.proofs.Parted.{last_more}
use Rattle.collector.proofs.Fits.{fit_of, few_number}
use Rattle.history.specs.History.{Byte, value_of, numbered}
use Rattle.history.specs.Run.{Promised, fare_of, ruled_fare}
use Rattle.history.specs.Run as R
use Rattle.history.specs.Healing.{Starts, beyond_target, from_target, behind, since, rejected_since, until_target, at_target}
use Rattle.history.proofs.LeftInHand.{stands_sections}
use Rattle.history.proofs.Agrees.{Agrees, values_of, agrees_left}
use Rattle.history.proofs.FaresByTable.{fare_number, here}
use Rattle.history.proofs.FaresByTable as fares
use Rattle.history.proofs.Demand1.{fare_is}
use Rattle.history.proofs.OutRoom.{one_goes, none_yet}

-- ---- beyond the target, behind what came before it

-- a story behind another, whose bytes in hand are broken off
pub record Behind (before now : Story ℕ) (s : Story Byte) : Type 0 where
  pub hand : hand_of now ≡ map value_of (hand_of s)
  pub sections : now.sections ≡ before.sections ++ map (map value_of) s.sections
  pub counts : (k : Kind) → count_of (done k) now.marks ≡ count_of (done k) before.marks + count_of (done k) s.marks

plain_all : (secs : List (List ℕ)) → map (map plain) secs ≡ secs
plain_all [] = refl
plain_all (s ∷ secs) = λ i. map-id s i ∷ plain_all secs i

module _ (before : Story ℕ) (none : hand_of before ≡ []) (bytes : List ℕ) where
  -- the bytes by themselves
  abbrev alone : Story ℕ
  alone = sections_in by_judge plain (holding []) bytes

  abbrev base : Fate → ℕ
  base f = count_of f before.marks

  abbrev secs : List (List ℕ)
  secs = map (map plain) before.sections

  beside_before : Beside plain base secs alone (sections_in by_judge plain before bytes)
  beside_before =
      subst (λ (l : List ℕ). Beside plain base secs (sections_in by_judge plain (holding []) l)
      (sections_in by_judge plain before bytes))
      (map-id bytes)
      (beside_sections by_judge plain base secs (holding []) before bytes (record {
        hand = ap (map plain) none;
        sections = sym (append-nil secs);
        counts = λ f e. sym (add-zero (base f));
      }))

  beside_numbered : Beside value_of (λ f. 0) [] alone (sections_in by_judge value_of (holding []) (numbered 0 bytes))
  beside_numbered =
      subst
      (λ (l : List ℕ). Beside value_of (λ f. 0) [] (sections_in by_judge plain (holding []) l)
      (sections_in by_judge value_of (holding []) (numbered 0 bytes)))
      (values_of 0 bytes)
      (beside_sections by_judge value_of (λ f. 0) [] (holding []) (holding []) (numbered 0 bytes)
      (record { hand = refl; sections = refl; counts = λ f e. refl }))

  stands_behind : Behind before (sections_in by_judge plain before bytes)
      (sections_in by_judge value_of (holding []) (numbered 0 bytes))
  stands_behind =
      let x = beside_before in
      let y = beside_numbered in
      record {
        hand = sym (map-id _) ∙ x.hand ∙ sym y.hand;
        sections =
            sym (plain_all _) ∙ x.sections
            ∙ (λ i. plain_all before.sections i ++ sym y.sections i);
        counts = λ k. omega (arith, x.counts (done k) refl, y.counts (done k) refl);
      }

-- the sections of a kind
pub parted_behind : {before now : Story ℕ} {s : Story Byte} → Behind before now s → (k : Kind)
    → sections_of by_judge plain k now.sections
    ≡ sections_of by_judge plain k before.sections ++ map (map value_of) (sections_of by_judge value_of k s.sections)
parted_behind {before} {s = s} x k =
    ap (sections_of by_judge plain k) x.sections
    ∙ sections_more by_judge plain k before.sections (map (map value_of) s.sections)
    ∙ ap (λ (l : List (List ℕ)). sections_of by_judge plain k before.sections ++ l)
    (sym (sections_values by_judge value_of k s.sections))

-- ---- the packet that is taken

-- what is known of it, and of the record and the hold that took it
pub record TakenHere (r : Record) (hold out packet : List ℕ) : Type 0 where
  pub passed : Each Passed (refusals (too_small (length hold) (length out)) (cannot_stand r hold) r.pid packet)
  pub pid_is : pid_of packet ≡ r.pid
  pub hold_big : 4096 ≤ length hold
  pub number_few : r.rejection ≤ 10
  pub ruled : ruling (too_small (length hold) (length out)) (cannot_stand r hold) r.pid (before_of r) packet
      ≡ takes (here (before_of r) packet)
  pub within : payload_from packet < length packet

not_bare : {packet : List ℕ} → Starts packet → control packet ≡ 2 → ⊥
not_bare x e = ⊎_elim (λ w. omega arith) (λ w. omega arith) x.payload

with_payload : (small unfit : Bool) (pid : ℕ) (p : List ℕ) → Each Passed (refusals small unfit pid p)
    → (control p ≡ 2 → ⊥)
    → judged small unfit pid p ≡ has_payload (payload_from p) (start_flag p) (counter_of p) (discontinuity p)
unfolding judged
with_payload small unfit pid p x n =
    ap (λ o. judged_by o p) (all_passed (refusals small unfit pid p) x)
    ∙ ap (λ (t : Bool). if t then Refusals.bare (discontinuity p)
    else has_payload (payload_from p) (start_flag p) (counter_of p) (discontinuity p)) (ne_eqb (control p) 2 n)

new_takes : (q : Carried ℕ) (t : Bool) → ruled_fare (if t then repeated else takes q) ≡ R.taken
    → (if t then repeated else takes q) ≡ takes q
new_takes q true e = let z : ◌≡◌ {A = ℕ} 1 2 = ap fare_number e in absurd (omega arith)
new_takes q false e = refl

pub taken_here : (r : Record) (hold out packet : List ℕ) (o : Outcome) → Promised r hold out packet o → Starts packet
    → fare_of o.said ≡ R.taken → TakenHere r hold out packet
taken_here r hold out packet o is starts e =
    let small : Bool = too_small (length hold) (length out) in
    let unfit : Bool = cannot_stand r hold in
    let before : Before = before_of r in
    let z : Ruling = ruling small unfit r.pid before packet in
    let fare : ruled_fare z ≡ R.taken =
    sym (fare_is r hold out z) ∙ ap (λ (y : Outcome). fare_of y.said) (sym is) ∙ e in
    let passed = ((fares.taken_exactly_if small unfit r.pid before packet).0 fare).0 in
    let has = with_payload small unfit r.pid packet passed (not_bare starts) in
    let fit = fit_of r hold out packet (payload_from packet) (start_flag packet) (counter_of packet) (discontinuity packet)
    has in
    let same : z
    ≡ ruled_by before packet (has_payload (payload_from packet) (start_flag packet) (counter_of packet) (discontinuity packet)) =
    ap (ruled_by before packet) has in
    record {
      passed = passed;
      pid_is = eqb-true _ _ (not-false _ passed.1.1.1.1.1.0);
      hold_big = fit.hold_big;
      number_few = few_number r hold passed.1.1.0;
      ruled =
          same
          ∙ new_takes (here before packet)
          (repeats before.last (mark_with before (discontinuity packet)) (counter_of packet))
          (ap ruled_fare (sym same) ∙ fare);
      within = omega (arith, fit.from_within, fit.long);
    }

module _ (r : Record) (hold packet : List ℕ) where
  abbrev until : Story ℕ
  until = until_target r hold packet

  -- what the packet adds to what is in hand
  abbrev pub story : Story ℕ
  story = sections_in by_judge plain until (beyond_target packet)

  -- what is in hand, as the packet finds it, and how it goes on up to the target
  abbrev first : Story ℕ
  first =
      joined (joins (before_of r).last (mark_with (before_of r) (discontinuity packet)) (counter_of packet))
      (holding (take r.in_hand hold))

  abbrev gone : Story ℕ
  gone =
      goesOn by_judge plain (given (done pointer) (pointer_of packet) first)
      (take (pointer_of packet) (drop (payload_from packet + 1) packet))

  until_broken : hand_of until ≡ []
  until_broken = settled_hand (done broken) refl gone.marks

  pub story_is : Starts packet → payload_from packet < length packet
      → story_after by_judge plain (before_of r).last (holding (take r.in_hand hold)) (here (before_of r) packet)
      ≡ story
  story_is starts within =
      let one_on : suc (payload_from packet) ≡ payload_from packet + 1 = omega arith in
      let bytes : drop (payload_from packet) packet ≡ pointer_of packet ∷ drop (payload_from packet + 1) packet =
      drop-cons packet (payload_from packet) 0 within ∙ ap (λ (n : ℕ). pointer_of packet ∷ drop n packet) one_on in
      (λ i. payload by_judge plain (starts.flag i) first (bytes i))
      ∙ ap (sections_in by_judge plain until) (drop-drop (pointer_of packet) (payload_from packet + 1) packet)

  pub behind_until : Behind until story (since packet [])
  behind_until = stands_behind until until_broken (beyond_target packet)

  pub one_until : length until.sections ≤ 1
  one_until =
      one_goes by_judge (given (done pointer) (pointer_of packet) first)
      (take (pointer_of packet) (drop (payload_from packet + 1) packet))
      (none_yet (joins (before_of r).last (mark_with (before_of r) (discontinuity packet)) (counter_of packet))
      (take r.in_hand hold))

  -- what it leaves agrees with the history that begins at the target
  pub agrees_behind : pid_of packet ≡ r.pid → 4096 ≤ length hold → r.rejection ≤ 10
      → Agrees (at_target r hold packet) (pid_of packet) (length hold) (record_after r (counter_of packet) story)
      (over (hand_of story) hold) (behind packet) (from_target packet)
  agrees_behind pid big few =
      let x = behind_until in
      agrees_left r hold story (sym pid) refl big (omega arith) few (record {
        last = refl;
        hand = x.hand;
        counts = λ k. ap (λ (n : ℕ). n % 2 ^ 32) (omega (arith, x.counts k));
        number =
            ap (last_number r.rejection) (parted_behind x rejected)
            ∙ last_more r.rejection (rejected_of until) (rejected_since packet []);
        stands = stands_sections by_judge until (beyond_target packet) until_broken;
      })
