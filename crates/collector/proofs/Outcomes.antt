-- From the code's answer for a packet's payload to the outcome of the call. What a whole section comes to is left open for
-- the payload's story; the outcome is by the judge.
use Rattle.std.proofs.Common.{◌≡◌, ℕ, ◌+◌, ◌-◌, ◌%◌, ◌^◌, ◌<◌, ◌≤◌, Bool, true, false, List, [], ◌∷◌, ◌++◌, map, length, take, drop, sym, refl, ap, ◌∙◌, subst, map-id, add-zero, zero-add, arith, length-append}
use mathlib.Core.List.{flatten}
use Rattle.std.specs.Prelude.{if◌then◌else◌, Ok, Some}
use Rattle.copy.specs.Laid.{over}
use Rattle.collector.specs.Rules.{Kind, pointer, accepted, rejected, broken, Fate, in-hand, done, Story, sameKind, same_fate, bytes_of, count_of, hand_of, marked, given, broken_off, holding, breaking, kind_of, joined, plain, goesOn, payload}
use Rattle.section.specs.Reading.{judged}
use Rattle.collector.specs.Judged.{by_judge, accepted_among, rejected_among, delivered_of, last_number}
use Rattle.collector.specs.Answer as Answer
use Rattle.collector.specs.Answer.{came}
use Rattle.collector.specs.Collected.{bytes_counted, record_with, record_after, outcome_after}
use Rattle.collector.specs.Inner.Payload.{Fit}
use Rattle.collector.specs.Inner.Stretch.{Ends, Small}
use Rattle.collector.specs.Inner.Taking.{kept_of, point_count, added_by, counted_of}
use Rattle.collector.specs.declared.Record.{Record}
use Rattle.collector.specs.declared.Passed.TheVariants.{Taken}
use Rattle.collector.specs.declared.stretch.Gain.{Gain}
use Rattle.collector.proofs.Counters.{added_by_lem}
use Rattle.collector.proofs.MarkLaws.{bytes_of_more, bytes_of_marked, settled_hand, settled_marked}
use Rattle.collector.proofs.Simulation.{Beside, beside_payload}
use Rattle.collector.proofs.Invariants.{keep-goes, keep-sections, keep-payload}
use Rattle.collector.proofs.StoryLaws.{Any, Kept, keeps_kept, points_kept, kept_holding, ended_in, keeps_points}
use Rattle.collector.proofs.Parted.{accepted-by-end, rejected-by-end, said_no_pointer}
use Rattle.collector.proofs.PayloadLaws.{plain_sections, any, same_hand, more_sections, small_of}

-- ---- what is broken off before the payload stays apart from the packet

-- n bytes of one fate: broken off
abbrev pub lost : ℕ → Fate → ℕ
lost n f = if same_fate f (done broken) then n else 0

lost_count : (h : List ℕ) (f : Fate) → count_of f (broken_off (holding h)).marks ≡ lost (length h) f
lost_count h f =
    ap (count_of f) (settled_marked (done broken) in-hand h)
    ∙ ap length (bytes_of_marked f (done broken) h)
    ∙ long (same_fate f (done broken))
  where
    long : (t : Bool) → length (if t then h else []) ≡ (if t then length h else 0)
    long true = refl
    long false = refl

none_lost : (f : Fate) → 0 ≡ lost 0 f
none_lost f = none (same_fate f (done broken))
  where
    none : (t : Bool) → ◌≡◌ {A = ℕ} 0 (if t then 0 else 0)
    none true = refl
    none false = refl

beside_itself : (s : Story ℕ) → Beside plain (lost 0) [] s s
beside_itself s = record {
  hand = map-id (hand_of s);
  sections = plain_sections s.sections;
  counts = λ f e. sym (zero-add (count_of f s.marks)) ∙ ap (λ (n : ℕ). n + count_of f s.marks) (none_lost f);
}

-- ---- the story of a payload, whatever a whole section comes to

no_point : (h : List ℕ) → count_of (done pointer) (marked in-hand h) ≡ 0
no_point h = ap length (bytes_of_marked (done pointer) in-hand h)

module _ (comes : List ℕ → Kind) where
  pub kept_payload : (start : Bool) (h bs : List ℕ)
      → Kept comes plain (h ++ bs) (payload comes plain start (holding h) bs)
  kept_payload start h bs =
      keep-payload comes plain Any (Kept comes plain) (keeps_kept comes plain) (points_kept comes plain) start
      h (holding h) bs (any bs) (kept_holding comes plain h)

  -- the pointer byte is counted once, where no section comes to the kind of a pointer
  points_payload : ((bs : List ℕ) → sameKind pointer (comes bs) ≡ false) → (start : Bool) (h bs : List ℕ)
      → 0 < length bs
      → count_of (done pointer) (payload comes plain start (holding h) bs).marks ≡ point_count start
  points_payload none-points false h bs k =
      keep-goes comes plain Any _ (keeps_points comes plain none-points 0) h (holding h) bs (any bs) (no_point h)
  points_payload none-points true h [] k = absurd (omega arith)
  points_payload none-points true h (p ∷ bs) k =
      let first : count_of (done pointer) (given (done pointer) p (holding h)).marks ≡ 1 =
      ap length (bytes_of_more (done pointer) (done pointer) (marked in-hand h) (p ∷ []))
      ∙ length-append (bytes_of (done pointer) (marked in-hand h)) (p ∷ [])
      ∙ ap (λ (n : ℕ). n + 1) (no_point h) in
      let f : Story ℕ = goesOn comes plain (given (done pointer) p (holding h)) (take p bs) in
      let y = keep-goes comes plain Any _ (keeps_points comes plain none-points 1) []
      (given (done pointer) p (holding h)) (take p bs) (any (take p bs)) first in
      keep-sections comes plain Any _ (keeps_points comes plain none-points 1) [] (broken_off f) (drop p bs)
      (any (drop p bs)) ((keeps_points comes plain none-points 1).breaks [] f y)

  pub beside_break : (start : Bool) (h bs : List ℕ)
      → Beside plain (lost (length h)) [] (payload comes plain start (holding []) bs)
      (payload comes plain start (broken_off (holding h)) bs)
  beside_break start h bs =
      subst
      (λ (z : List ℕ). Beside plain (lost (length h)) [] (payload comes plain start (holding []) z)
      (payload comes plain start (broken_off (holding h)) bs))
      (map-id bs)
      (beside_payload comes plain (lost (length h)) [] start (holding []) (broken_off (holding h)) bs (record {
        hand = ap (map plain) (settled_hand (done broken) refl (marked in-hand h));
        sections = refl;
        counts = λ f e. lost_count h f ∙ sym (add-zero (lost (length h) f));
      }))

-- ---- the outcome: what the code answers as handed out is what it counts as accepted

module _ (r : Record) (hold out : List ℕ) (counter : ℕ) (start : Bool) (h bs : List ℕ) (some : 0 < length bs) (e : Gain)
    (hold' out' : List ℕ) where
  abbrev was : ℕ
  was = r.rejection

  abbrev s : Story ℕ
  s = payload by_judge plain start (holding h) bs

  pub small : Ends s was hold out 0 hold' out' e → length h + length bs ≤ 5000 → Small e
  small x w = small_of (h ++ bs) s (kept_payload by_judge start h bs) (omega (arith, length-append h bs)) x

  -- the bytes of each kind that the packet adds are those of its story, and those that were broken off before it
  adds : Ends s was hold out 0 hold' out' e → (n : ℕ) (S : Story ℕ) → Beside plain (lost n) [] s S → (k : Kind)
      → added_by e n start k ≡ count_of (done k) S.marks
  adds x n S b =
      added_by_lem e n start (λ k. count_of (done k) S.marks)
      (sym (points_payload by_judge (λ l. said_no_pointer (judged l)) start h bs some)
      ∙ sym (zero-add _)
      ∙ sym (b.counts (done pointer) refl))
      (x.bytes
      ∙ sym (ended_in by_judge plain accepted accepted-by-end (h ++ bs) s (kept_payload by_judge start h bs))
      ∙ sym (zero-add _)
      ∙ sym (b.counts (done accepted) refl))
      (x.rejected
      ∙ sym (ended_in by_judge plain rejected rejected-by-end (h ++ bs) s (kept_payload by_judge start h bs))
      ∙ sym (zero-add _)
      ∙ sym (b.counts (done rejected) refl))
      (ap (λ (z : ℕ). n + z) (x.counts breaking) ∙ sym (b.counts (done broken) refl))
      (λ rest o. x.counts rest
      ∙ sym (zero-add _)
      ∙ ap (λ (t : Bool). (if t then n else 0) + count_of (done (kind_of rest)) s.marks) (sym o)
      ∙ sym (b.counts (done (kind_of rest)) refl))

  taken_to : Ends s was hold out 0 hold' out' e → (n : ℕ) (S : Story ℕ) → Beside plain (lost n) [] s S → (r' : Record)
      → r' ≡ counted_of r counter e n start
      → came r' hold' out' (Ok (Taken e.sections e.bytes)) ≡ outcome_after r hold out counter S
  taken_to x n S b r' w =
      let secs : s.sections ≡ S.sections = sym (more_sections b) in
      let given : delivered_of s ≡ delivered_of S = ap accepted_among secs in
      let bytes : flatten (delivered_of s) ≡ flatten (delivered_of S) = ap flatten given in
      let hand : hand_of s ≡ hand_of S = sym (same_hand b) in
      let added : (k : Kind) → added_by e n start k ≡ count_of (done k) S.marks = adds x n S b in
      let the-record : r' ≡ record_after r counter S =
      w
      ∙ (λ i. record_with r.pid (Some counter) false
      ((x.rejection ∙ ap (λ (l : List (List ℕ)). last_number was (rejected_among l)) secs) i)
      ((x.in-hand ∙ ap length hand) i)
      (λ k. (bytes_counted (done k) r + added k i) % 2 ^ 32)) in
      let the_out : out' ≡ over (flatten (delivered_of S)) out =
      x.the_out
      ∙ ap (λ (z : ℕ). flatten (delivered_of s) ++ drop z out) (zero-add (length (flatten (delivered_of s))))
      ∙ ap (λ (z : List ℕ). over z out) bytes in
      λ i. record {
        rec = the-record i;
        hold = (x.the_hold ∙ ap (λ (z : List ℕ). over z hold) hand) i;
        out = the_out i;
        said = Answer.taken ((x.sections ∙ ap length given) i) ((x.bytes ∙ ap length bytes) i);
      }

-- ---- the two ways of a packet that is taken

module _ (r : Record) (hold out : List ℕ) (counter : ℕ) (start : Bool) (bs : List ℕ) (some : 0 < length bs) (e : Gain)
    (hold' out' : List ℕ) (r' : Record) where
  abbrev hand : List ℕ
  hand = take r.in_hand hold

  abbrev Comes : Bool → Type 0
  Comes next =
      came r' hold' out' (Ok (Taken e.sections e.bytes))
      ≡ outcome_after r hold out counter (payload by_judge plain start (joined next (holding hand)) bs)

  comes_next : Ends (payload by_judge plain start (holding hand) bs) r.rejection hold out 0 hold' out' e
      → r' ≡ counted_of r counter e 0 start → Comes true
  comes_next x w = taken_to r hold out counter start hand bs some e hold' out' x 0 _ (beside_itself _) r' w

  comes_broken : r.in_hand ≡ length hand
      → Ends (payload by_judge plain start (holding []) bs) r.rejection hold out 0 hold' out' e
      → r' ≡ counted_of r counter e r.in_hand start → Comes false
  comes_broken l x w =
      taken_to r hold out counter start [] bs some e hold' out' x (length hand) _ (beside_break by_judge start hand bs)
      r'
      (w ∙ ap (λ (z : ℕ). counted_of r counter e z start) l)

  pub outcome_is : (next : Bool) (n : ℕ) → n ≡ kept_of next r.in_hand → r.in_hand ≡ length hand
      → Ends (payload by_judge plain start (holding (take n hold)) bs) r.rejection hold out 0 hold' out' e
      → r' ≡ counted_of r counter e (r.in_hand - n) start → Comes next
  outcome_is true n k l x w =
      let none : r.in_hand - n ≡ 0 = omega arith in
      comes_next
      (subst
      (λ (z : ℕ). Ends (payload by_judge plain start (holding (take z hold)) bs) r.rejection hold out 0 hold' out'
      e)
      k
      x)
      (w ∙ ap (λ (z : ℕ). counted_of r counter e z start) none)
  outcome_is false n k l x w =
      let all : r.in_hand - n ≡ r.in_hand = omega arith in
      comes_broken l
      (subst
      (λ (z : ℕ). Ends (payload by_judge plain start (holding (take z hold)) bs) r.rejection hold out 0 hold' out'
      e)
      k
      x)
      (w ∙ ap (λ (z : ℕ). counted_of r counter e z start) all)

pub kept_most : (next : Bool) (held : ℕ) → kept_of next held ≤ held
kept_most true held = omega arith
kept_most false held = omega arith

-- with nothing in hand a packet fits too
fit_none : (n : ℕ) (hold out packet : List ℕ) (from : ℕ) (start : Bool) → Fit n hold out packet from start
    → Fit 0 hold out packet from start
fit_none n hold out packet from start f = record {
  few = omega arith;
  hold_big = f.hold_big;
  out_big = f.out_big;
  from_past = f.from_past;
  from_within = f.from_within;
  long = f.long;
  stands = record { more = λ m. absurd (omega arith) };
  points = f.points;
}

pub fit_kept : (next : Bool) (held n : ℕ) → n ≡ kept_of next held → {hold out packet : List ℕ} {from : ℕ} {start : Bool}
    → Fit held hold out packet from start → Fit n hold out packet from start
fit_kept true held n k {hold} {out} {packet} {from} {start} f =
    subst (λ (z : ℕ). Fit z hold out packet from start) (sym k) f
fit_kept false held n k {hold} {out} {packet} {from} {start} f =
    subst (λ (z : ℕ). Fit z hold out packet from start) (sym k) (fit_none held hold out packet from start f)
