-- Request (ix): each of its statements holds of the promise that `step` and `collect` make.
use mathlib.Core.Path.{◌≡◌, refl, sym, ap, ◌∙◌, subst}
use mathlib.Core.Bool.{Bool, true, false, ◌||◌}
use mathlib.Core.List.{List, [], flatten}
use mathlib.Core.Logic.{◌⊎◌, ◌↔◌, inl, inr, ⊎_elim}
use Prim.Native.Nat.{ℕ, zero, suc, ◌+◌, ◌%◌, ◌^◌, ◌≤◌}
use native.Mathlib.Omega.{arith}
use lib.ListN.{length, take, get_or}
use lib.Seq.{length-take-le}
use lib.Dec.{ltb, leb, eqb}
use borrow.Author.Tests.{leb-true, le-leb, ltb-false, eq-eqb, ne_eqb, eqb-true, eqb-false}
use Rattle.std.specs.Prelude.{if◌then◌else◌, Some}
use Rattle.wire.specs.Each.{Each}
use Rattle.copy.specs.Laid.{over}
use Rattle.packet.specs.Header.{start_flag, control, counter_of, adaptation, bit_of_field, discontinuity, payload_from, payload_of}
use Rattle.packet.specs.Refusals.{Row, refusals, has_payload, judged_by, judged}
use Rattle.packet.specs.Ruling.{mark_with, repeats, joins, Ruling, takes, ruled_by}
use Rattle.packet.specs.Ruling as Ruled
use Rattle.packet.proofs.Table.{or_false, all_passed}
use Rattle.collector.specs.Refusals.{before_of, counter_past, cannot_stand, too_small}
use Rattle.collector.specs.Rules.{Kind, pointer, accepted, rejected, broken, filler, skipped, by_kind, done, Story, sameKind, count_of, hand_of, holding, joined, plain, payload}
use Rattle.collector.specs.Judged.{by_judge, delivered_of, rejected_of, last_number, accepted_among, rejected_among}
use Rattle.collector.specs.Answer.{Outcome, repeated, taken}
use Rattle.collector.specs.Answer as Answer
use Rattle.collector.specs.Collected.{bytes_counted, record_with, unaltered, marked_by, outcome_after, outcome_of, collected}
use Rattle.collector.specs.declared.Record.{Record}
use Rattle.collector.proofs.Fits.{few_held}
use Rattle.collector.proofs.Outcomes.{lost, beside_break}
use Rattle.collector.proofs.Simulation.{Beside}
use Rattle.collector.proofs.PayloadLaws.{same_hand, more_sections}
use Rattle.history.specs.Run.{Promised, fare_of}
use Rattle.history.specs.Run as R
use Rattle.history.specs.Splices.{HasBit, NotRefused, Marked, anew, breaking_off, BareSetsTheMark, MarkedIsTaken, MarkedBreaksOff, PayloadClears, RepeatedUnaltered, PremisesMet}
use Rattle.wire.proofs.TestLaws.{and_true, or_exactly}
use Rattle.history.proofs.Demand1.{not_taken}
use Rattle.history.proofs.FaresByTable.{fare_number, here, again, passed_on}

-- ---- the bit

two_or_three : (n : ℕ) → 2 ≤ n → n ≤ 3 → (n ≡ 2) ⊎ (n ≡ 3)
two_or_three zero a b = absurd (omega arith)
two_or_three (suc zero) a b = absurd (omega arith)
two_or_three (suc (suc zero)) a b = inl refl
two_or_three (suc (suc (suc n))) a b = inr (omega arith)

-- the definition, beside the packet's bytes
pub bit_exactly : (p : List ℕ) → (discontinuity p ≡ true) ↔ HasBit p
bit_exactly p = (
  λ e.
      let a = and_true (leb 2 (control p)) (bit_of_field p) e in
      let b = and_true (leb 1 (adaptation p)) (leb 128 (get_or p 5 0)) a.1 in
      record {
        field = two_or_three (control p) (leb-true _ _ a.0) (omega arith);
        at_least_one = leb-true _ _ b.0;
        set = leb-true _ _ b.1;
      },
  λ x.
      let two : 2 ≤ control p = ⊎_elim (λ w. omega arith) (λ w. omega arith) x.field in
      simp (le-leb _ _ two, le-leb _ _ x.at_least_one, le-leb _ _ x.set),
)

-- the mark, once the packet has come
marked_exactly : (r : Record) (p : List ℕ) → (mark_with (before_of r) (discontinuity p) ≡ true) ↔ Marked r p
marked_exactly r p =
    let a = or_exactly r.mark (discontinuity p) in
    let b = bit_exactly p in (
      λ e. ⊎_elim (λ m. inl m) (λ d. inr (b.0 d)) (a.0 e),
      λ x. a.1 (⊎_elim (λ m. inl m) (λ h. inr (b.1 h)) x),
    )

-- ---- a packet that is not refused

module _ (r : Record) (hold out p : List ℕ) (w : NotRefused r hold out p) where
  abbrev small : Bool
  small = too_small (length hold) (length out)

  abbrev unfit : Bool
  unfit = cannot_stand r hold

  abbrev ruled : Bool → Ruling
  ruled t = passed_on (before_of r) p t

  is_ruled : collected r hold out p ≡ outcome_of r hold out (ruled (eqb (control p) 2))
  unfolding judged
  is_ruled =
      ap (λ o. outcome_of r hold out (ruled_by (before_of r) p (judged_by o p)))
      (all_passed (refusals small unfit r.pid p) w)

  bare_is : control p ≡ 2 → collected r hold out p ≡ unaltered (marked_by (discontinuity p) r) hold out (taken 0 0)
  bare_is e = is_ruled ∙ ap (λ (t : Bool). outcome_of r hold out (ruled t)) (eq-eqb _ _ e)

  payload_is : (control p ≡ 2 → ⊥) → collected r hold out p ≡ outcome_of r hold out (ruled false)
  payload_is n = is_ruled ∙ ap (λ (t : Bool). outcome_of r hold out (ruled t)) (ne_eqb _ _ n)

-- ---- without payload

pub bare_sets_the_mark : BareSetsTheMark Promised
bare_sets_the_mark r hold out p o x w e =
    let is : o ≡ unaltered (marked_by (discontinuity p) r) hold out (taken 0 0) = x ∙ bare_is r hold out p w e in
    let mark : o.rec.mark ≡ mark_with (before_of r) (discontinuity p) = ap (λ (y : Outcome). y.rec.mark) is in
    let m = marked_exactly r p in (
      (λ s. m.0 (sym mark ∙ s), λ s. mark ∙ m.1 s),
      is ∙ ap (λ (t : Bool). unaltered
          (record_with r.pid r.last t r.rejection r.in_hand (λ k. bytes_counted (done k) r)) hold out
          (taken 0 0))
          (sym mark),
    )

-- ---- with payload

module _ (r : Record) (hold out p : List ℕ) (w : NotRefused r hold out p) (n : control p ≡ 2 → ⊥) where
  -- as it is a repeated one or not
  abbrev ruled_as : Bool → Ruling
  ruled_as t = if t then Ruled.repeated else takes (here (before_of r) p)

  -- behind a mark it is not
  not_again : Marked r p → again (before_of r) p ≡ false
  unfolding repeats
  not_again m = rw ((marked_exactly r p).1 m)

  taken_is : Marked r p → collected r hold out p ≡ outcome_of r hold out (ruled_as false)
  taken_is m = payload_is r hold out p w n ∙ ap (λ (t : Bool). outcome_of r hold out (ruled_as t)) (not_again m)

  cleared : (t : Bool) → fare_of (outcome_of r hold out (ruled_as t)).said ≡ R.taken
      → (outcome_of r hold out (ruled_as t)).rec.mark ≡ false
  cleared true e = let z : ◌≡◌ {A = ℕ} 1 2 = ap fare_number e in absurd (omega arith)
  cleared false e = refl

pub marked_is_taken : MarkedIsTaken Promised
marked_is_taken r hold out p o x w m = by (eqb (control p) 2) refl
  where
    by : (t : Bool) → eqb (control p) 2 ≡ t → fare_of o.said ≡ R.taken
    by true e = ap (λ (y : Outcome). fare_of y.said) (x ∙ bare_is r hold out p w (eqb-true _ _ e))
    by false e = ap (λ (y : Outcome). fare_of y.said) (x ∙ taken_is r hold out p w (eqb-false _ _ e) m)

pub payload_clears : PayloadClears Promised
payload_clears r hold out p o x w n e =
    let is = x ∙ payload_is r hold out p w n in
    ap (λ (y : Outcome). y.rec.mark) is
    ∙ cleared r hold out p w n (again (before_of r) p) (ap (λ (y : Outcome). fare_of y.said) (sym is) ∙ e)

-- ---- "repeated", nothing changes

pub repeated_unaltered : RepeatedUnaltered Promised
repeated_unaltered r hold out p o x e =
    not_taken r hold out p o x repeated (λ t. let z : ◌≡◌ {A = ℕ} 1 2 = ap fare_number t in omega arith) e

-- ---- what is in hand is broken off

-- of a record without counter, mark and bytes in hand 43 has the PID and the rejection's number alone
anew_stands : (r : Record) (hold : List ℕ) → cannot_stand r hold ≡ false → cannot_stand (anew r) hold ≡ false
unfolding cannot_stand
anew_stands r hold e =
    let p = or_false (ltb 8191 r.pid) _ e in
    let c = or_false (counter_past r.last) _ p.1 in
    let n = or_false (ltb 10 r.rejection) _ c.1 in
    λ i. p.0 i || (n.0 i || false)

anew_passes : (r : Record) (hold out p : List ℕ) → NotRefused r hold out p → NotRefused (anew r) hold out p
anew_passes r hold out p w =
    let e = w.1.1.0 in
    subst (λ (t : Bool). Each (λ (row : Row). row.applies ≡ false)
    (refusals (too_small (length hold) (length out)) t r.pid p))
    (e ∙ sym (anew_stands r hold e)) w

-- the story of the payload, as what is in hand goes on in it or not
abbrev story_if : Bool → List ℕ → List ℕ → Story ℕ
story_if next h p = payload by_judge plain (start_flag p) (joined next (holding h)) (payload_of p)

-- with nothing in hand, no counter and no mark, whatever the packet's own bit is
anew_is : (r : Record) (hold out p : List ℕ) → NotRefused r hold out p → (control p ≡ 2 → ⊥)
    → collected (anew r) hold out p ≡ outcome_after (anew r) hold out (counter_of p) (story_if true [] p)
unfolding repeats joins
anew_is r hold out p w n =
    let v = anew_passes r hold out p w in
    payload_is (anew r) hold out p v n ∙ by (discontinuity p)
  where
    -- no counter to be equal to, and nothing in hand to be broken off
    by : (d : Bool) → outcome_of (anew r) hold out
        (ruled_by (before_of (anew r)) p (has_payload (payload_from p) (start_flag p) (counter_of p) d))
        ≡ outcome_after (anew r) hold out (counter_of p) (story_if true [] p)
    by true = refl
    by false = refl

marked_is : (r : Record) (hold out p : List ℕ) (w : NotRefused r hold out p) (n : control p ≡ 2 → ⊥) → Marked r p
    → collected r hold out p ≡ outcome_after r hold out (counter_of p) (story_if false (take r.in_hand hold) p)
unfolding joins
marked_is r hold out p w n m =
    taken_is r hold out p w n m
    ∙ ap (λ (t : Bool). outcome_after r hold out (counter_of p)
    (story_if (joins (before_of r).last t (counter_of p)) (take r.in_hand hold) p))
    ((marked_exactly r p).1 m)

-- the counts of the one are those of the other, and what was in hand
module _ (r : Record) (hold out p : List ℕ) (few : r.in_hand ≤ length hold) where
  abbrev S : Story ℕ
  S = story_if false (take r.in_hand hold) p

  abbrev s : Story ℕ
  s = story_if true [] p

  b : Beside plain (lost (length (take r.in_hand hold))) [] s S
  b = beside_break by_judge (start_flag p) (take r.in_hand hold) (payload_of p)

  long : length (take r.in_hand hold) ≡ r.in_hand
  long = length-take-le r.in_hand hold few

  -- a counter of n bytes, after each of the two
  abbrev Counts : Kind → Type 0
  Counts k = (n : ℕ) → (n + count_of (done k) S.marks) % 2 ^ 32
      ≡ (if sameKind k broken then ((n + count_of (done k) s.marks) % 2 ^ 32 + r.in_hand) % 2 ^ 32
      else (n + count_of (done k) s.marks) % 2 ^ 32)

  counts : (k : Kind) → Counts k
  counts =
      by_kind Counts (λ n. omega (arith, b.counts (done pointer) refl))
      (λ n. omega (arith, b.counts (done accepted) refl))
      (λ n. omega (arith, b.counts (done rejected) refl))
      (λ n. omega (arith, b.counts (done broken) refl, long)) (λ n. omega (arith, b.counts (done filler) refl))
      (λ n. omega (arith, b.counts (done skipped) refl))

  abbrev r₂ : Record
  r₂ = (outcome_after (anew r) hold out (counter_of p) s).rec

  breaks_off : outcome_after r hold out (counter_of p) S
      ≡ breaking_off r.in_hand (outcome_after (anew r) hold out (counter_of p) s)
  breaks_off =
      let hand : hand_of S ≡ hand_of s = same_hand b in
      let secs : delivered_of S ≡ delivered_of s = ap accepted_among (more_sections b) in
      let others : rejected_of S ≡ rejected_of s = ap rejected_among (more_sections b) in
      λ i. record {
        rec =
            record_with r.pid (Some (counter_of p)) false (last_number r.rejection (others i)) (length (hand i))
            (λ k. the_counts k i);
        hold = over (hand i) hold;
        out = over (flatten (secs i)) out;
        said = Answer.taken (length (secs i)) (length (flatten (secs i)));
      }
    where
      the_counts : (k : Kind) → (bytes_counted (done k) r + count_of (done k) S.marks) % 2 ^ 32
          ≡ (if sameKind k broken then (bytes_counted (done k) r₂ + r.in_hand) % 2 ^ 32 else bytes_counted (done k) r₂)
      the_counts =
          by_kind (λ k. (bytes_counted (done k) r + count_of (done k) S.marks) % 2 ^ 32
          ≡ (if sameKind k broken then (bytes_counted (done k) r₂ + r.in_hand) % 2 ^ 32 else bytes_counted (done k) r₂))
          (counts pointer r.pointer) (counts accepted r.accepted) (counts rejected r.rejected)
          (counts broken r.broken)
          (counts filler r.filler) (counts skipped r.skipped)

pub marked_breaks_off : MarkedBreaksOff Promised
marked_breaks_off r hold out p o x w n m o₂ x₂ =
    let room : 4096 ≤ length hold = ltb-false _ _ (or_false (ltb (length hold) 4096) _ w.1.0).0 in
    let few : r.in_hand ≤ length hold = omega (arith, few_held r hold w.1.1.0, room) in
    x ∙ marked_is r hold out p w n m ∙ breaks_off r hold out p few
    ∙ ap (breaking_off r.in_hand) (sym (x₂ ∙ anew_is r hold out p w n))

-- ---- the premises can be met

pub premises_met : PremisesMet
unfolding cannot_stand
premises_met = record {
  bare_bit = (
    (refl, (refl, (refl, (refl, (refl, (refl, (refl, (refl, (refl, tt))))))))),
    record { field = inl refl; at_least_one = omega arith; set = omega arith },
  );
  bare_mark = (refl, (refl, (refl, (refl, (refl, (refl, (refl, (refl, (refl, tt)))))))));
  own_bit = (
    (refl, (refl, (refl, (refl, (refl, (refl, (refl, (refl, (refl, tt))))))))),
    record { field = inr refl; at_least_one = omega arith; set = omega arith },
  );
  mark_before = (refl, (refl, (refl, (refl, (refl, (refl, (refl, (refl, (refl, tt)))))))));
  with_payload = (λ e. omega arith, λ e. omega arith);
}
