-- Demand 3: each of its statements holds of the promise that `step` and `collect` make.
use mathlib.Core.Path.{◌≡◌, refl, sym, ap, ◌∙◌, subst}
use mathlib.Core.Bool.{Bool, true, false}
use mathlib.Core.List.{List, [], ◌∷◌, ◌++◌, append_assoc, append-nil, map, map-append, flatten}
use mathlib.Core.Logic.{◌↔◌}
use Prim.Native.Nat.{ℕ, ◌+◌, ◌%◌, ◌^◌, ◌≤◌}
use native.Mathlib.Nat.{zero-add}
use native.Mathlib.Omega.{arith}
use lib.ListN.{length, drop}
use lib.Dec.{ltb}
use borrow.Author.Tests.{le-ltb}
use Rattle.std.specs.Prelude.{if◌then◌else◌}
use Rattle.wire.proofs.IfLaws.{true_not_false}
use Rattle.wire.specs.Each.{Each}
use Rattle.packet.specs.Ruling.{Before, noneBefore, Carried}
use Rattle.collector.specs.Refusals.{too_small}
use Rattle.collector.specs.Rules.{Kind, accepted, rejected, Fate, done, kinds, sum_in, sum_of, Mark, Story, same_fate, bytes_of, count_of, sections_of}
use Rattle.collector.specs.Judged.{by_judge}
use Rattle.packet.specs.Refusals.{◌when◌, refusals}
use Rattle.collector.specs.Answer.{refused_with}
use Rattle.collector.specs.Collected.{bytes_counted, fresh_record}
use Rattle.collector.specs.declared.Record.{Record}
use Rattle.wire.proofs.EachLaws.{each_of}
use Rattle.collector.proofs.Invariants.{ByEnd, keep_taken}
use Rattle.collector.proofs.StoryLaws.{Any, Kept, keeps_kept, points_kept, kept_holding, counts_in, sections_each}
use Rattle.collector.proofs.Parted.{accepted-by-end, rejected-by-end}
use Rattle.history.specs.History.{Byte, value_of, numbered, History, unbegun, numbered_in, history_after, history_from, history_of, payloads_from, Unbroken, Unmarked, Among, none_left, left_out, had}
use Rattle.history.specs.Run.{Promised, Call, Run, Fare, taken, fare_of, said_taken, splices_from, lent_of, ruling_on, before_after, fares_from, NotRefused, NotRepeated}
use Rattle.history.specs.Demand1.{First}
use Rattle.history.specs.Demand3.{TakenCallByCall, RefusedIf, taken_by_rule, story_by, Counted, delivered_in, MadeUnbroken, RefusedExactlyIf, TakenExactlyIf, ByPacketsAlone, NeverUnfit, OneFateEach, CountersAreFates, CountersMakeUp, DeliveredInOrder, NoSectionSpans, RejectedSpanNothing, KeptNumber}
use Rattle.history.proofs.Agrees.{no_tally, Ran, ran, agrees_fresh}
use Rattle.history.proofs.FaresByTable.{Never, never_first, fares_cut, taken_alike}
use Rattle.history.proofs.FaresByTable as fares
use Rattle.history.proofs.Demand1.{said_refused}
use Rattle.history.proofs.NoSpan.{sections_unbroken, sections_unmarked}
use Rattle.history.proofs.Marks.{splices_marked}

-- ---- the fates themselves

module _ (comes : List ℕ → Kind) where
  pub kept_from : (h : History) (l : List Byte) (qs : List (Carried ℕ)) → Kept comes value_of l h.story
      → Kept comes value_of (l ++ payloads_from h.packets qs) (history_from comes h qs).story
  kept_from h l [] x = subst (λ (z : List Byte). Kept comes value_of z h.story) (sym (append-nil l)) x
  kept_from h l (q ∷ qs) x =
      subst (λ (z : List Byte). Kept comes value_of z (history_from comes (history_after comes h q) qs).story)
      (append_assoc l (numbered h.packets q.bytes) (payloads_from (h.packets + 1) qs))
      (kept_from (history_after comes h q) (l ++ numbered h.packets q.bytes) qs
      (keep_taken comes value_of Any (Kept comes value_of) (keeps_kept comes value_of) (points_kept comes value_of)
      h.last l
      h.story (numbered_in h.packets q) (each_of Any (λ b. tt) (numbered h.packets q.bytes)) x))

  pub kept_history : (qs : List (Carried ℕ)) → Kept comes value_of (payloads_from 0 qs) (history_of comes qs).story
  kept_history qs = kept_from unbegun [] qs (kept_holding comes value_of [])

-- ---- a run

module _ (pid : ℕ) (hold : List ℕ) (calls : List Call) (r : Record) (hold' : List ℕ)
    (x : Run Promised (fresh_record pid) hold calls r hold') where
  whole_run : Ran no_tally pid (length hold) noneBefore unbegun calls r hold'
  whole_run = ran x noneBefore unbegun (agrees_fresh pid hold)

  counted : Counted r hold' (story_by pid hold calls)
  counted =
      let t = whole_run.agrees.told in
      record {
        counters_are = λ k. t.counters_are k ∙ ap (λ (n : ℕ). n % 2 ^ 32) (zero-add _);
        in_hand_is = t.in_hand_is;
        hold_is = t.hold_is;
      }

  abbrev count : Story Byte → ℕ
  count s = sum_of (λ f. count_of f s.marks)

pub by_packets_alone : ByPacketsAlone Promised
by_packets_alone pid hold calls r hold' x = (whole_run pid hold calls r hold' x).fares

-- the packets that the answers call taken are those that are taken by the packets alone
pub taken_by : (pid : ℕ) (hold : List ℕ) (calls : List Call) (r : Record) (hold' : List ℕ)
    → Run Promised (fresh_record pid) hold calls r hold' → said_taken false calls ≡ taken_by_rule pid hold calls
taken_by pid hold calls r hold' x =
    taken_alike pid (length hold) noneBefore calls (by_packets_alone pid hold calls r hold' x)

pub counters_are_fates : CountersAreFates Promised
counters_are_fates pid hold calls r hold' x = counted pid hold calls r hold' x

pub delivered_in_order : DeliveredInOrder Promised
delivered_in_order pid hold calls r hold' x =
    let w = whole_run pid hold calls r hold' x in
    record {
      sections_are = sym w.sections;
      bytes_are = w.bytes;
      told_are = w.told;
      delivered_are = ((kept_history by_judge (taken_by_rule pid hold calls)).order accepted accepted-by-end).out;
      rejected_are = ((kept_history by_judge (taken_by_rule pid hold calls)).order rejected rejected-by-end).out;
    }

pub kept_number : KeptNumber Promised
kept_number pid hold calls r hold' x = (whole_run pid hold calls r hold' x).agrees.told.number_is

-- what is equal modulo 2^32 has equal sums modulo 2^32
add-round : (a b n m : ℕ) → a % 2 ^ 32 ≡ n % 2 ^ 32 → b % 2 ^ 32 ≡ m % 2 ^ 32 → (a + b) % 2 ^ 32 ≡ (n + m) % 2 ^ 32
add-round a b n m e w = omega arith

round : (a n : ℕ) → a ≡ n % 2 ^ 32 → a % 2 ^ 32 ≡ n % 2 ^ 32
round a n e = omega arith

sums_round : (a n : Kind → ℕ) → ((k : Kind) → a k % 2 ^ 32 ≡ n k % 2 ^ 32) → (ks : List Kind)
    → sum_in a ks % 2 ^ 32 ≡ sum_in n ks % 2 ^ 32
sums_round a n e [] = refl
sums_round a n e (k ∷ ks) = add-round (a k) (sum_in a ks) (n k) (sum_in n ks) (e k) (sums_round a n e ks)

pub counters_make_up : CountersMakeUp Promised
counters_make_up pid hold calls r hold' x =
    let s : Story Byte = story_by pid hold calls in
    let c = counted pid hold calls r hold' x in
    let counters = sums_round (λ k. bytes_counted (done k) r) (λ k. count_of (done k) s.marks)
    (λ k. round (bytes_counted (done k) r) (count_of (done k) s.marks) (c.counters_are k)) kinds in
    add-round _ r.in_hand _ _ counters (ap (λ (n : ℕ). n % 2 ^ 32) c.in_hand_is)
    ∙ ap (λ (n : ℕ). n % 2 ^ 32)
    (counts_in by_judge value_of (payloads_from 0 (taken_by_rule pid hold calls)) s
    (kept_history by_judge (taken_by_rule pid hold calls)))
    ∙ ap (λ (qs : List (Carried ℕ)). length (payloads_from 0 qs) % 2 ^ 32) (sym (taken_by pid hold calls r hold' x))

-- the values of all sections, end to end
flatten_values : (secs : List (List Byte)) → flatten (map (map value_of) secs) ≡ map value_of (flatten secs)
unfolding flatten
flatten_values [] = refl
flatten_values (s ∷ secs) =
    ap (λ (l : List ℕ). map value_of s ++ l) (flatten_values secs) ∙ sym (map-append value_of s (flatten secs))

pub one_fate_each : OneFateEach Promised
one_fate_each pid hold calls r hold' x =
    let s : Story Byte = story_by pid hold calls in
    let kept = kept_history by_judge (taken_by_rule pid hold calls) in
    let out = delivered_in_order pid hold calls r hold' x in
    record {
      one_each = kept.seen ∙ ap (payloads_from 0) (sym (taken_by pid hold calls r hold' x));
      handed_are =
          ap flatten out.sections_are ∙ flatten_values (delivered_in s) ∙ ap (map value_of) (sym out.delivered_are);
      held_are = (counted pid hold calls r hold' x).hold_is;
    }

-- ---- no delivered section spans a break or a mark

among_if : (t : Bool) (b : Byte) (part whole : List Byte) → Among part whole
    → Among (if t then b ∷ part else part) (b ∷ whole)
among_if true b part whole x = had x
among_if false b part whole x = left_out x

-- the bytes of one fate are among all
fate_among : (f : Fate) (ms : List (Mark Byte)) → Among (bytes_of f ms) (map (λ m. m.byte) ms)
fate_among f [] = none_left
fate_among f (m ∷ ms) =
    among_if (same_fate f m.fate) m.byte (bytes_of f ms) (map (λ k. k.byte) ms) (fate_among f ms)

-- the whole sections of a kind
unbroken_of : (k : Kind) → ByEnd k → (pid : ℕ) (hold : List ℕ) (calls : List Call) (r : Record) (hold' : List ℕ)
    → Run Promised (fresh_record pid) hold calls r hold'
    → MadeUnbroken (said_taken false calls) (splices_from 0 calls)
    (map (map value_of) (sections_of by_judge value_of k (story_by pid hold calls).sections))
unbroken_of k w pid hold calls r hold' x =
    let qs = taken_by_rule pid hold calls in
    let s : Story Byte = story_by pid hold calls in
    let secs : List (List Byte) = sections_of by_judge value_of k s.sections in
    let kept = kept_history by_judge qs in
    let among : Among (flatten secs) (payloads_from 0 qs) =
    subst (λ (l : List Byte). Among l (payloads_from 0 qs)) (kept.order k w).out
    (subst (Among (bytes_of (done k) s.marks)) kept.seen (fate_among (done k) s.marks)) in
    subst (λ (z : List (Carried ℕ)). MadeUnbroken z (splices_from 0 calls) (map (map value_of) secs))
    (sym (taken_by pid hold calls r hold' x))
    (record {
      made_of = secs;
      values_are = refl;
      once_in_order = among;
      unbroken = sections_each by_judge value_of k (Unbroken qs) s.sections (sections_unbroken by_judge qs);
      unmarked = sections_each by_judge value_of k (Unmarked (splices_from 0 calls)) s.sections
          (sections_unmarked by_judge qs (splices_from 0 calls)
          (splices_marked pid (length hold) noneBefore calls (by_packets_alone pid hold calls r hold' x)));
    })

pub no_section_spans : NoSectionSpans Promised
no_section_spans pid hold calls r hold' x =
    subst (MadeUnbroken (said_taken false calls) (splices_from 0 calls))
    (sym (delivered_in_order pid hold calls r hold' x).sections_are)
    (unbroken_of accepted accepted-by-end pid hold calls r hold' x)

pub rejected_span_nothing : RejectedSpanNothing Promised
rejected_span_nothing pid hold calls r hold' x = unbroken_of rejected rejected-by-end pid hold calls r hold' x

-- ---- taken exactly if neither refused nor repeated, and refused exactly with the first row that applies

-- each call of a list that fares by the packets alone
taken_each : (pid size : ℕ) (before : Before) (ks : List Call)
    → map (λ k. fare_of k.said) ks ≡ fares_from pid size before (map lent_of ks) → TakenCallByCall pid size before ks
taken_each pid size before [] e = tt
taken_each pid size before (k ∷ ks) e =
    let w = fares_cut pid size before k ks e in (
      subst (λ (f : Fare). (f ≡ taken) ↔ (NotRefused pid size (lent_of k) × NotRepeated before k.packet)) (sym w.0)
          (fares.taken_exactly_if (too_small size (lent_of k).room) (ltb 8191 pid) pid before k.packet),
      taken_each pid size (before_after before (ruling_on pid size before (lent_of k))) ks w.1,
    )

pub taken_exactly_if : TakenExactlyIf Promised
taken_exactly_if pid hold calls r hold' x =
    taken_each pid (length hold) noneBefore calls (by_packets_alone pid hold calls r hold' x)

refused_each : (pid size : ℕ) (before : Before) (ks : List Call)
    → map (λ k. fare_of k.said) ks ≡ fares_from pid size before (map lent_of ks) → Each (RefusedIf pid size) ks
refused_each pid size before [] e = tt
refused_each pid size before (k ∷ ks) e =
    let w = fares_cut pid size before k ks e in
    let row = fares.refused_exactly_if (too_small size (lent_of k).room) (ltb 8191 pid) pid before k.packet in (
      λ n. (
        λ v. (row n).0 (sym w.0 ∙ (said_refused n k.said).0 v),
        λ f. (said_refused n k.said).1 (w.0 ∙ (row n).1 f),
      ),
      refused_each pid size (before_after before (ruling_on pid size before (lent_of k))) ks w.1,
    )

pub refused_exactly_if : RefusedExactlyIf Promised
refused_exactly_if pid hold calls r hold' x =
    refused_each pid (length hold) noneBefore calls (by_packets_alone pid hold calls r hold' x)

-- ---- a run never meets 43

no-43 : (small : Bool) (pid : ℕ) (p : List ℕ) → First 43 (refusals small false pid p) → ⊥
no-43 small pid p =
    let other : (n : ℕ) (t : Bool) → (n ≡ 43 → ⊥) → Never 43 (n when t) = λ n t f e w. f w in
    let rest : Each (Never 43) (drop 3 (refusals small false pid p)) = (
      other 44 _ (λ e. omega arith),
      (
        other 45 _ (λ e. omega arith),
        (
          other 46 _ (λ e. omega arith),
          (other 47 _ (λ e. omega arith), (other 48 _ (λ e. omega arith), (other 49 _ (λ e. omega arith), tt))),
        ),
      ),
    ) in
    never_first 43 (refusals small false pid p)
    (other 41 _ (λ e. omega arith), (other 42 _ (λ e. omega arith), ((λ e w. true_not_false (sym e)), rest)))

never_each : (pid size : ℕ) (ks : List Call) → pid ≤ 8191 → Each (RefusedIf pid size) ks
    → Each (λ k. k.said ≡ refused_with 43 → ⊥) ks
never_each pid size [] w x = tt
never_each pid size (k ∷ ks) w x = (
  λ e. no-43 (too_small size (length k.out)) pid k.packet
      (subst (λ (t : Bool). First 43 (refusals (too_small size (length k.out)) t pid k.packet)) (le-ltb 8191 pid w)
      ((x.0 43).0 e)),
  never_each pid size ks w x.1,
)

pub never_unfit : NeverUnfit Promised
never_unfit pid hold calls r hold' x w =
    never_each pid (length hold) calls w (refused_exactly_if pid hold calls r hold' x)
