-- A history of `lohitunga_collect` that takes a packet with payload and the start flag goes on as one of the collector.
use mathlib.Core.Path.{◌≡◌, refl, sym, ap, ◌∙◌}
use mathlib.Core.Bool.{Bool, true, false}
use mathlib.Core.Logic.{inr}
use mathlib.Core.List.{List, [], ◌∷◌, map, flatten}
use Prim.Native.Nat.{ℕ, ◌<◌}
use native.Mathlib.Omega.{arith}
use lib.ListN.{length, take, drop}
use Rattle.wire.specs.Each.{Each}
use Rattle.wire.proofs.IfLaws.{true_not_false}
use Rattle.packet.specs.Ruling.{Before, joins, repeats}
use Rattle.packet.specs.Refusals.{◌when◌, refusals, judged}
use Rattle.tables.specs.Tables.{row_of, cell, first, holds}
use Rattle.section.specs.Reading.{◌and_then◌, plain, inside, opening, wrong_syntax, length_outside, size_differs, crc_fails, above_last, header, read}
use Rattle.section.specs.Reading.{judged as verdict}
use Rattle.collector.specs.Rules.{Kind, by_kind, done, size_of}
use Rattle.collector.specs.Refusals.{cannot_stand, too_small}
use Rattle.collector.specs.Answer as collector
use Rattle.collector.specs.Collected.{bytes_counted, collected}
use Rattle.collector.specs.declared.Record as of
use Rattle.history.specs.Run as beneath
use Rattle.history.specs.Run.{cut, handed_by, bytes_by}
use Rattle.history.specs.Demand1.{First}
use Rattle.history.specs.Healing.{Starts, Following, rejected_since, IsTaken}
use Rattle.history.specs.Healing as under
use Rattle.history.specs.WrongCollectors.{hold₀}
use Rattle.history.specs.Fades.{common}
use Rattle.history.proofs.FaresByTable.{Never, never_first}
use Rattle.history.proofs.Demand1.{refuses_first}
use Rattle.history.proofs.Healing.{by_packets_since, heals}
use Rattle.cabinet.specs.Collect.{last_in, last_says, mark_says, numbers_with, counted_in, record_in, record_says, collect_says, Outcome, outcome_says, collecting}
use Rattle.cabinet.specs.declared.collect.Record.{Record}
use Rattle.cabinet.proofs.Outcomes.{last_kept}
use Rattle.calls.specs.Collects.{Promised, Call, call_says, Beneath}
use Rattle.calls.specs.Healing.{following_of, State, states_in, Took, followed, Now, SameCalls, Heals, HistoriesBelow, alone, fresh, byHand, PremisesMet, mark_survives, ShutOut}
use Rattle.calls.proofs.Collects.{NumbersTell, told_on, runs, state_says, states_beneath, handed_says}

-- ---- the packet is taken

-- no refusal has the number 0
never-0 : (small unfit : Bool) (pid : ℕ) (p : List ℕ) → First 0 (refusals small unfit pid p) → ⊥
never-0 small unfit pid p =
    let other : (n : ℕ) (t : Bool) → 0 < n → Never 0 (n when t) = λ n t some e w. omega arith in
    let last : Each (Never 0) (drop 5 (refusals small unfit pid p)) = (
      other 46 _ (omega arith),
      (other 47 _ (omega arith), (other 48 _ (omega arith), (other 49 _ (omega arith), tt))),
    ) in
    never_first 0 (refusals small unfit pid p) (
      other 41 _ (omega arith),
      (
        other 42 _ (omega arith),
        (other 43 _ (omega arith), (other 44 _ (omega arith), (other 45 _ (omega arith), last))),
      ),
    )

-- an answer that is neither a refusal nor "repeated"
taken_said : (said : collector.Reply) → (said ≡ collector.refused_with 0 → ⊥) → (collect_says said).number ≡ 0
    → (collect_says said).repeated ≡ 0 → IsTaken (beneath.fare_of said)
taken_said (collector.refused_with n) never e w = absurd (never (ap collector.refused_with e))
taken_said collector.repeated never e w = absurd (omega arith)
taken_said (collector.taken n b) never e w = refl

-- the bytes that an answer tells
bytes_says : (said : collector.Reply) (out : List ℕ) → take (collect_says said).size out ≡ bytes_by said out
bytes_says (collector.refused_with n) out = refl
bytes_says collector.repeated out = refl
bytes_says (collector.taken n b) out = refl

module _ {packet : List ℕ} (starts : Starts packet) (t : Took Promised packet) where
  abbrev x : of.Record
  x = record_in t.at

  -- what the collector makes of the packet
  abbrev o : collector.Outcome
  o = collected x t.at_hold t.out packet

  outcome_says_lem : t.outcome ≡ outcome_says t.at o
  unfolding collecting
  outcome_says_lem = t.call

  answer_says : t.outcome.answer ≡ collect_says o.said
  answer_says = ap (λ (z : Outcome). z.answer) outcome_says_lem

  is_taken : IsTaken (beneath.fare_of o.said)
  is_taken =
      taken_said o.said
      (λ e. never-0 (too_small (length t.at_hold) (length t.out)) (cannot_stand x t.at_hold) x.pid packet
      ((refuses_first x t.at_hold t.out packet o refl 0).0 e))
      (ap (λ a. a.number) (sym answer_says) ∙ t.not_refused)
      (ap (λ a. a.repeated) (sym answer_says) ∙ t.not_repeated)

  rooms_say : ◌≡◌ {A = collector.Outcome}
      (record { rec = o.rec; hold = t.outcome.hold; out = t.outcome.out; said = o.said }) o
  rooms_say = λ i. record { rec = o.rec; hold = (outcome_says_lem i).hold; out = (outcome_says_lem i).out; said = o.said }

  -- the collector's history, with these calls behind the packet
  abbrev with_calls : (later : List beneath.Call) (left : of.Record) (left_hold : List ℕ)
      → beneath.Run beneath.Promised o.rec t.outcome.hold later left left_hold
      → under.Took beneath.Promised IsTaken packet
  with_calls later left left_hold run = record {
    from = x;
    from_hold = t.at_hold;
    past = [];
    at = x;
    at_hold = t.at_hold;
    came = beneath.no_call;
    out = t.out;
    outcome = record { rec = o.rec; hold = t.outcome.hold; out = t.outcome.out; said = o.said };
    call = rooms_say;
    fared = is_taken;
    later = later;
    left = left;
    left_hold = left_hold;
    went_on = run;
  }

  -- its mark is cleared, so that the numbers it leaves are its own
  no_mark : o.rec.mark ≡ false
  no_mark =
      ap (λ (b : Before). b.mark)
      (by_packets_since packet starts (with_calls [] o.rec t.outcome.hold beneath.no_call)).before_is

  record_says_lem : t.outcome.rec ≡ record_says o.rec
  record_says_lem =
      ap (λ (z : Outcome). z.rec) outcome_says_lem
      ∙ (λ i. numbers_with o.rec.pid (last_says o.rec.last) (cleared o.rec.mark no_mark i) o.rec.rejection
      o.rec.in_hand (λ k. bytes_counted (done k) o.rec))
    where
      cleared : (m : Bool) → m ≡ false → mark_says t.at.mark m ≡ mark_says 0 m
      cleared true e = absurd (true_not_false e)
      cleared false e = refl

  tells : NumbersTell o.rec
  tells = told_on x t.at_hold t.out packet (ap last_in (last_kept t.at.last))

  -- ---- and its history, with what follows

  goes_on : Beneath o.rec t.outcome.hold t.later t.left t.left_hold
  goes_on =
      runs o.rec t.outcome.hold t.later t.outcome.rec t.left t.left_hold tells record_says_lem
      t.went_on

  abbrev down : under.Took beneath.Promised IsTaken packet
  down = with_calls goes_on.under goes_on.rec t.left_hold goes_on.run

  followed_beneath : followed t ≡ under.followed down
  followed_beneath = ap (map following_of) goes_on.calls_say ∙ follow goes_on.under
    where
      follow : (ks : List beneath.Call) → map following_of (map call_says ks) ≡ map under.following_of ks
      follow [] = refl
      follow (k ∷ ks) = ap (λ (l : List Following). under.following_of k ∷ l) (follow ks)

  states_say : states_in t.went_on ≡ map state_says (under.states_in down.went_on)
  unfolding goes_on
  states_say =
      states_beneath o.rec t.outcome.hold t.later t.outcome.rec t.left t.left_hold tells record_says_lem
      t.went_on

  counter_says : (k : Kind) → counted_in k t.left ≡ bytes_counted (done k) down.left
  counter_says k =
      ap (counted_in k) goes_on.record_says_lem
      ∙ by_kind (λ j. counted_in j (record_says goes_on.rec) ≡ bytes_counted (done j) goes_on.rec) refl refl refl refl
      refl refl k

  number_says : t.left.rejection ≡ down.left.rejection
  number_says = ap (λ (r : Record). r.rejection) goes_on.record_says_lem

  hands_now : Now t
  hands_now =
      let now = (by_packets_since packet starts down).now in
      let out : List ℕ = t.outcome.out in
      let told : collect_says o.said
      ≡ collect_says (collector.taken (length (under.handed_now down)) (length (flatten (under.handed_now down)))) =
      ap collect_says now.told_is in
      record {
        sections_are =
            ap (λ a. cut a.sections (take a.size out)) answer_says
            ∙ handed_says o.said out
            ∙ now.sections_are;
        one_before = now.one_before;
        number_told = ap (λ a. a.sections) (answer_says ∙ told) ∙ ap length now.sections_are;
        bytes_told =
            ap (λ a. take a.size out) answer_says ∙ bytes_says o.said out ∙ now.bytes_are
            ∙ ap flatten now.sections_are;
        size_told =
            ap (λ a. a.size) (answer_says ∙ told) ∙ ap (λ (l : List (List ℕ)). length (flatten l)) now.sections_are;
      }

-- ---- call by call

answers_say : (ks : List beneath.Call)
    → map (λ k. k.answer) (map call_says ks) ≡ map collect_says (map (λ k. k.said) ks)
answers_say [] = refl
answers_say (k ∷ ks) = ap (λ l. collect_says k.said ∷ l) (answers_say ks)

sections_say : (ks : List beneath.Call)
    → map (λ k. cut k.answer.sections (take k.answer.size k.out')) (map call_says ks)
    ≡ map (λ k. handed_by k.said k.out') ks
sections_say [] = refl
sections_say (k ∷ ks) = λ i. handed_says k.said k.out' i ∷ sections_say ks i

each_bytes : (ks : List beneath.Call)
    → map (λ k. take k.answer.size k.out') (map call_says ks) ≡ map (λ k. bytes_by k.said k.out') ks
each_bytes [] = refl
each_bytes (k ∷ ks) = λ i. bytes_says k.said k.out' i ∷ each_bytes ks i

-- what holds beneath, in numbers
calls_say : {ks js : List Call} {under₁ under₂ : List beneath.Call} → ks ≡ map call_says under₁
    → js ≡ map call_says under₂
    → under.SameCalls under₁ under₂ → SameCalls ks js
calls_say {under₁ = under₁} {under₂ = under₂} one other same = record {
  answers =
      ap (map (λ k. k.answer)) one ∙ answers_say under₁ ∙ ap (map collect_says) same.said ∙ sym (answers_say under₂)
      ∙ ap (map (λ k. k.answer)) (sym other);
  sections =
      ap (map (λ k. cut k.answer.sections (take k.answer.size k.out'))) one ∙ sections_say under₁
      ∙ same.sections
      ∙ sym (sections_say under₂)
      ∙ ap (map (λ k. cut k.answer.sections (take k.answer.size k.out'))) (sym other);
  bytes =
      ap (map (λ k. take k.answer.size k.out')) one ∙ each_bytes under₁ ∙ same.bytes ∙ sym (each_bytes under₂)
      ∙ ap (map (λ k. take k.answer.size k.out')) (sym other);
}

pub heals_for_c : Heals Promised
heals_for_c packet starts a b alike =
    let d₁ = down starts a in
    let d₂ = down starts b in
    let same : under.followed d₁ ≡ under.followed d₂ =
    sym (followed_beneath starts a) ∙ alike ∙ followed_beneath starts b in
    let grown = heals.counters packet starts d₁ d₂ same in
    let number = heals.number packet starts d₁ d₂ same in
    let rejected : rejected_since packet (under.followed d₁) ≡ rejected_since packet (followed a) =
    ap (rejected_since packet) (sym (followed_beneath starts a)) in
    record {
      now = (hands_now starts a, hands_now starts b);
      from_then_on =
          calls_say (goes_on starts a).calls_say (goes_on starts b).calls_say
          (heals.from_then_on packet starts d₁ d₂ same);
      state =
          states_say starts a ∙ ap (map state_says) (heals.state packet starts d₁ d₂ same) ∙ sym (states_say starts b);
      counters = λ k. record {
        more = (grown k).more;
        one = counter_says starts a k ∙ (grown k).one;
        other = counter_says starts b k ∙ (grown k).other;
      };
      number = record {
        since_then = λ some.
            number_says starts a ∙ number.since_then (λ e. some (sym rejected ∙ e)) ∙ sym (number_says starts b);
        one_until = λ none. number_says starts a ∙ number.one_until (rejected ∙ none);
        other_until = λ none. number_says starts b ∙ number.other_until (rejected ∙ none);
      };
    }

pub histories_below : HistoriesBelow
histories_below packet starts t = record {
  under = down starts t;
  at_is = refl;
  rooms_are = (refl, refl, refl);
  answer_says = answer_says starts t;
  later_say = (goes_on starts t).calls_say;
  left_says = (goes_on starts t).record_says_lem;
  left_hold_is = refl;
}

pub premises_met : PremisesMet
unfolding judged size_of joins repeats cannot_stand flatten verdict read opening ◌and_then◌ row_of first holds cell header
    wrong_syntax length_outside size_differs crc_fails above_last inside plain collecting
premises_met = record {
  starts = record { payload = inr refl; flag = refl };
  from_fresh_lem = record { not_refused = refl; not_repeated = refl; as_many = refl; mark = refl; behind = refl };
  from_halfway = record { not_refused = refl; not_repeated = refl; as_many = refl; mark = refl; behind = refl };
  from_hand = record { not_refused = refl; not_repeated = refl; as_many = refl; mark = refl; behind = refl };
}

abbrev mark_first : List State → ℕ
mark_first [] = 0
mark_first (s ∷ more) = s.mark

pub shut_out : ShutOut
unfolding judged size_of joins repeats cannot_stand flatten verdict read opening ◌and_then◌ row_of first holds cell header
    wrong_syntax length_outside size_differs crc_fails above_last inside plain collecting
shut_out h =
    let a = alone mark_survives fresh hold₀ common refl refl in
    let b = alone mark_survives byHand (0x70 ∷ 0x70 ∷ hold₀) common refl refl in
    let z : ◌≡◌ {A = ℕ} 0 7 = ap mark_first (h common (record { payload = inr refl; flag = refl }) a b refl).state in
    omega arith
