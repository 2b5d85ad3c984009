-- Over any run, from a fresh record or from one whose counters and number were told before: the record, the hold and
-- what came out are those of the history of the packets taken.
use mathlib.Core.Path.{◌≡◌, refl, sym, ap, ◌∙◌, subst}
use mathlib.Core.Bool.{Bool, true, false}
use mathlib.Core.List.{List, [], ◌∷◌, ◌++◌, append_assoc, append-nil, map, map-id, flatten}
use mathlib.Core.Option.{Option, some}
use Prim.Native.Nat.{ℕ, suc, ◌+◌, ◌%◌, ◌^◌, ◌≤◌}
use native.Mathlib.Nat.{add-zero, mod-add-mod}
use native.Mathlib.Omega.{arith}
use lib.ListN.{length, take, drop, length-append, length-drop}
use lib.Seq.{take-append_seam, drop-append_seam}
use lib.Dec.{ltb}
use borrow.Author.Tests.{ltb-false}
use Rattle.std.specs.Prelude.{if◌then◌else◌, None, Some}
use Rattle.wire.specs.Each.{Each}
use Rattle.wire.specs.Sections.{total_of, WholeSection}
use Rattle.copy.specs.Laid.{over}
use Rattle.packet.specs.Ruling.{Before, noneBefore, mark_with, repeats, Carried, hands_on, Ruling, repeated, takes, load_of, ruled_by, ruling}
use Rattle.collector.specs.Rules.{Kind, Fate, in-hand, done, Story, same_fate, count_of, hand_of, marked, holding, plain, story_after, accepted, rejected, sections_of}
use Rattle.collector.specs.Judged.{by_judge, delivered_of, rejected_of, last_number}
use Rattle.packet.specs.Refusals.{Judged, refuse, has_payload, judged}
use Rattle.collector.specs.Refusals.{before_of, cannot_stand, too_small}
use Rattle.packet.specs.Refusals as Refusals
use Rattle.packet.specs.Ruling as Ruled
use Rattle.collector.specs.Answer.{Outcome}
use Rattle.collector.specs.Collected.{bytes_counted, fresh_record, marked_by, record_after, outcome_after, outcome_of}
use Rattle.collector.specs.declared.Record.{Record}
use Rattle.collector.proofs.Counters.{counts_with}
use Rattle.collector.proofs.MarkLaws.{bytes_of_marked}
use Rattle.collector.proofs.ByteRuns.{total_prefix}
use Rattle.collector.proofs.Simulation.{Beside, beside_taken}
use Rattle.collector.proofs.Invariants.{keep_taken}
use Rattle.collector.proofs.StoryLaws.{Any, Kept, keeps_kept, points_kept, kept_holding, sections_more, sections_values, sections_each}
use Rattle.collector.proofs.Parted.{last_more, last_limit}
use Rattle.collector.proofs.PayloadLaws.{any}
use Rattle.packet.proofs.Table.{or_false, payload_of_lem}
use Rattle.history.specs.History.{Byte, value_of, numbered, History, unbegun, numbered_in, history_after, history_from}
use Rattle.history.specs.Run.{Promised, Call, Run, no_call, one_call, fare_of, ruled_fare, lent_of, ruling_on, before_after, ruled_in, fares_from, ruled_taken, before_from, cut, handed_by, handed, bytes_by, told_by}
use Rattle.history.specs.Demand3.{delivered_in, rejected_in}
use Rattle.history.specs.Healing.{Tally, ToldFrom}
use Rattle.wire.proofs.TestLaws.{or_none}
use Rattle.history.proofs.LeftInHand.{Standing, standing_none, stands_taken, few_standing, stands_after}

-- ---- sections cut by their own headers

pub cut_whole : (secs : List (List ℕ)) → Each WholeSection secs → cut (length secs) (flatten secs) ≡ secs
unfolding flatten
cut_whole [] x = refl
cut_whole (s ∷ secs) x =
    let long : total_of (s ++ flatten secs) ≡ length s =
    total_prefix s (flatten secs) x.0.header ∙ sym x.0.exact in
    ap (λ (n : ℕ). take n (s ++ flatten secs) ∷ cut (length secs) (drop n (s ++ flatten secs))) long
    ∙ ap (λ (l : List ℕ). l ∷ cut (length secs) (drop (length s) (s ++ flatten secs)))
    (take-append_seam s (flatten secs))
    ∙ ap (λ (l : List ℕ). s ∷ cut (length secs) l) (drop-append_seam s (flatten secs))
    ∙ ap (λ (l : List (List ℕ)). s ∷ l) (cut_whole secs x.1)

plain_whole : (secs : List (List ℕ)) → Each (λ (x : List ℕ). WholeSection (map plain x)) secs → Each WholeSection secs
plain_whole [] x = tt
plain_whole (s ∷ secs) x = (subst WholeSection (map-id s) x.0, plain_whole secs x.1)

-- what every story keeps, of a packet's own
pub kept_taken : (comes : List ℕ → Kind) (last : Option ℕ) (h : List ℕ) (q : Carried ℕ)
    → Kept comes plain (h ++ q.bytes) (story_after comes plain last (holding h) q)
kept_taken comes last h q =
    keep_taken comes plain Any (Kept comes plain) (keeps_kept comes plain) (points_kept comes plain) last h
    (holding h) q (any q.bytes) (kept_holding comes plain h)

-- the sections that a packet finishes are whole
pub whole_taken : (comes : List ℕ → Kind) (last : Option ℕ) (h : List ℕ) (q : Carried ℕ)
    → Each WholeSection (story_after comes plain last (holding h) q).sections
whole_taken comes last h q =
    plain_whole (story_after comes plain last (holding h) q).sections (kept_taken comes last h q).whole

-- ---- what a taken packet hands out

pub bytes_after : (r : Record) (hold out : List ℕ) (counter : ℕ) (s : Story ℕ) → let o =
    outcome_after r hold out counter s in
    bytes_by o.said o.out ≡ flatten (delivered_of s)
bytes_after r hold out counter s =
    take-append_seam (flatten (delivered_of s)) (drop (length (flatten (delivered_of s))) out)

pub handed_after : (r : Record) (hold out : List ℕ) (counter : ℕ) (s : Story ℕ) → Each WholeSection s.sections
    → let o = outcome_after r hold out counter s in handed_by o.said o.out ≡ delivered_of s
handed_after r hold out counter s x =
    let secs : List (List ℕ) = delivered_of s in
    ap (cut (length secs)) (bytes_after r hold out counter s)
    ∙ cut_whole secs (sections_each by_judge plain accepted WholeSection s.sections x)

-- ---- what a ruling tells of a packet that is taken with payload

abbrev Taking : ℕ → Ruling → Type 0
Taking size (Ruled.refuses n) = Unit {0}
Taking size repeated = Unit {0}
Taking size (Ruled.bare splice) = Unit {0}
Taking size (takes q) = (q.counter ≤ 15) × (4096 ≤ size)

taking_if : (size : ℕ) (q : Carried ℕ) (t : Bool) → (q.counter ≤ 15) × (4096 ≤ size)
    → Taking size (if t then repeated else takes q)
taking_if size q true x = tt
taking_if size q false x = x

taking_at : (unfit : Bool) (pid size out : ℕ) (before : Before) (p : List ℕ) (j : Judged)
    → judged (too_small size out) unfit pid p ≡ j → Taking size (ruled_by before p j)
taking_at unfit pid size out before p (refuse n) e = tt
taking_at unfit pid size out before p (Refusals.bare splice) e = tt
taking_at unfit pid size out before p (has_payload from start c splice) e =
    let x = payload_of_lem (too_small size out) unfit pid p from start c splice e in
    let few : c ≤ 15 = omega (arith, x.count) in
    taking_if size (load_of (mark_with before splice) p from start c) (repeats before.last (mark_with before splice) c)
    (few, ltb-false _ _ (or_false (ltb size 4096) _ x.passed.1.0).0)

taking_of : (unfit : Bool) (pid size out : ℕ) (before : Before) (p : List ℕ)
    → Taking size (ruling (too_small size out) unfit pid before p)
taking_of unfit pid size out before p =
    taking_at unfit pid size out before p (judged (too_small size out) unfit pid p) refl

-- ---- the record agrees with a history, which began where its counters and its number were from, and with what counts
-- of the packets before

pub record Agrees (from : Tally) (pid size : ℕ) (r : Record) (hold : List ℕ) (before : Before) (h : History)
    : Type 0 where
  pub pid_is : r.pid ≡ pid
  pub size_is : length hold ≡ size
  pub before_is : before_of r ≡ before
  pub last_is_lem : before.last ≡ h.last
  pub stand_is : cannot_stand r hold ≡ ltb 8191 pid
  pub told : ToldFrom from r hold h.story
  pub number_few : r.rejection ≤ 10
  pub standing : Standing (map value_of (hand_of h.story))

-- nothing told before
abbrev pub no_tally : Tally
no_tally = record { counted = λ k. 0; number = 0 }

pub agrees_fresh : (pid : ℕ) (hold : List ℕ)
    → Agrees no_tally pid (length hold) (fresh_record pid) hold noneBefore unbegun
unfolding cannot_stand
agrees_fresh pid hold = record {
  pid_is = refl;
  size_is = refl;
  before_is = refl;
  last_is_lem = refl;
  stand_is = or_none (ltb 8191 pid);
  told = record {
    counters_are = counts_with pid None false 0 0 (λ k. 0);
    in_hand_is = refl;
    hold_is = refl;
    number_is = refl;
  };
  number_few = omega arith;
  standing = standing_none;
}

-- a counter that runs round goes on as the count does
runs_round : (c f n k d : ℕ) → c ≡ (f + n) % 2 ^ 32 → d ≡ n + k → (c + k) % 2 ^ 32 ≡ (f + d) % 2 ^ 32
runs_round c f n k d e w =
    let on : f + d ≡ f + n + k = omega arith in
    ap (λ (x : ℕ). (x + k) % 2 ^ 32) e ∙ mod-add-mod (f + n) (2 ^ 32) k ∙ ap (λ (x : ℕ). x % 2 ^ 32) (sym on)

pub values_of : (k : ℕ) (bs : List ℕ) → map value_of (numbered k bs) ≡ bs
values_of k [] = refl
values_of k (b ∷ bs) = ap (λ (l : List ℕ). b ∷ l) (values_of k bs)

map_long : (l : List Byte) → length (map value_of l) ≡ length l
map_long [] = refl
map_long (b ∷ l) = ap suc (map_long l)

-- 43 has no case for the mark
stand_marked : (splice : Bool) (r : Record) (hold : List ℕ) → cannot_stand (marked_by splice r) hold ≡ cannot_stand r hold
unfolding cannot_stand
stand_marked splice r hold = refl

-- a packet that is taken with payload, after a record r: its own story s tells what the history h has come to
pub record LeftBy (from : Tally) (r : Record) (counter : ℕ) (s : Story ℕ) (h : History) : Type 0 where
  pub last : some counter ≡ h.last
  pub hand : hand_of s ≡ map value_of (hand_of h.story)
  pub counts : (k : Kind) → (bytes_counted (done k) r + count_of (done k) s.marks) % 2 ^ 32
      ≡ (from.counted k + count_of (done k) h.story.marks) % 2 ^ 32
  pub number : last_number r.rejection (rejected_of s)
      ≡ last_number from.number (map (map value_of) (rejected_in h.story))
  pub stands : Standing (hand_of s)

-- then what it leaves agrees with that history
pub agrees_left : {from : Tally} {pid size counter : ℕ} {h : History} (r : Record) (hold : List ℕ) (s : Story ℕ)
    → r.pid ≡ pid → length hold ≡ size → 4096 ≤ size → counter ≤ 15 → r.rejection ≤ 10 → LeftBy from r counter s h
    → Agrees from pid size (record_after r counter s) (over (hand_of s) hold) (record { last = some counter; mark = false }) h
agrees_left {counter = counter} {h = h} r hold s pid long big small few x =
    let number_few = last_limit r.rejection (rejected_of s) few in
    record {
      pid_is = pid;
      size_is =
          omega (
            arith,
            length-append (hand_of s) (drop (length (hand_of s)) hold),
            length-drop (length (hand_of s)) hold,
            few_standing (hand_of s) x.stands,
            long,
            big,
          );
      before_is = refl;
      last_is_lem = x.last;
      stand_is =
          stands_after (record_after r counter s) counter refl small (hand_of s) x.stands refl number_few
          (drop (length (hand_of s)) hold)
          ∙ ap (ltb 8191) pid;
      told = record {
        counters_are = λ k.
            counts_with r.pid (Some counter) false (last_number r.rejection (rejected_of s)) (length (hand_of s))
            (λ j. (bytes_counted (done j) r + count_of (done j) s.marks) % 2 ^ 32) k
            ∙ x.counts k;
        in_hand_is = ap length x.hand ∙ map_long (hand_of h.story);
        hold_is = take-append_seam (hand_of s) (drop (length (hand_of s)) hold) ∙ x.hand;
        number_is = x.number;
      };
      number_few = number_few;
      standing = subst Standing x.hand x.stands;
    }

module _ {from : Tally} {pid size : ℕ} {r : Record} {hold : List ℕ} {before : Before} {h : History}
    (g : Agrees from pid size r hold before h) where
  abbrev hand : List ℕ
  hand = take r.in_hand hold

  abbrev base : Fate → ℕ
  base f = count_of f h.story.marks

  abbrev secs : List (List ℕ)
  secs = map (map value_of) h.story.sections

  none_other : (f : Fate) → same_fate f in-hand ≡ false → count_of f (marked in-hand hand) ≡ 0
  none_other f e = ap length (bytes_of_marked f in-hand hand ∙ ap (λ (t : Bool). if t then hand else []) e)

  -- the bytes in hand stand beside the whole history
  beside : Beside value_of base secs (holding hand) h.story
  beside = record {
    hand = sym g.told.hold_is ∙ sym (bytes_of_marked in-hand in-hand hand);
    sections = sym (append-nil secs);
    counts = λ f e. sym (add-zero (base f)) ∙ ap (λ (n : ℕ). base f + n) (sym (none_other f e));
  }

  -- a packet that is taken with payload, whatever a whole section comes to
  module _ (comes : List ℕ → Kind) (q : Carried ℕ) where
    abbrev s : Story ℕ
    s = story_after comes plain h.last (holding hand) q

    -- the packet's own story stands beside the history that goes on
    beside_after : Beside value_of base secs s (history_after comes h q).story
    beside_after =
        subst
        (λ (bs : List ℕ). Beside value_of base secs
        (story_after comes plain h.last (holding hand)
        (record { counter = q.counter; start = q.start; spliced = q.spliced; bytes = bs }))
        (history_after comes h q).story)
        (values_of h.packets q.bytes)
        (beside_taken comes value_of base secs h.last (holding hand) h.story (numbered_in h.packets q) beside)

    standing_after : Standing (hand_of s)
    standing_after = stands_taken comes h.last hand q (subst Standing (sym g.told.hold_is) g.standing)

    -- the sections that a packet adds, of each kind that the judge tells
    sections_taken : (k : Kind)
        → map (map value_of) (sections_of by_judge value_of k (history_after comes h q).story.sections)
        ≡ map (map value_of) (sections_of by_judge value_of k h.story.sections)
        ++ sections_of by_judge plain k s.sections
    sections_taken k =
        sections_values by_judge value_of k (history_after comes h q).story.sections
        ∙ ap (sections_of by_judge plain k) beside_after.sections
        ∙ sections_more by_judge plain k secs s.sections
        ∙ ap (λ (l : List (List ℕ)). l ++ sections_of by_judge plain k s.sections)
        (sym (sections_values by_judge value_of k h.story.sections))

    number_after_lem : last_number r.rejection (rejected_of s)
        ≡ last_number from.number (map (map value_of) (rejected_in (history_after comes h q).story))
    number_after_lem =
        ap (λ (n : ℕ). last_number n (rejected_of s)) g.told.number_is
        ∙ sym (last_more from.number (map (map value_of) (rejected_in h.story)) (rejected_of s))
        ∙ ap (last_number from.number) (sym (sections_taken rejected))

    agrees_taken : (q.counter ≤ 15) × (4096 ≤ size)
        → Agrees from pid size (record_after r q.counter s) (over (hand_of s) hold) (hands_on q)
        (history_after comes h q)
    agrees_taken x =
        let b = beside_after in
        agrees_left r hold s g.pid_is g.size_is x.1 x.0 g.number_few (record {
          last = refl;
          hand = sym b.hand;
          counts = λ k.
              runs_round (bytes_counted (done k) r) (from.counted k) (base (done k)) (count_of (done k) s.marks) _
              (g.told.counters_are k) (b.counts (done k) refl);
          number = number_after_lem;
          stands = standing_after;
        })

  -- a packet without payload changes the mark alone
  agrees_bare : (splice : Bool)
      → Agrees from pid size (marked_by splice r) hold (record { last = before.last; mark = mark_with before splice }) h
  agrees_bare splice = record {
    pid_is = g.pid_is;
    size_is = g.size_is;
    before_is = λ i. record { last = (g.before_is i).last; mark = mark_with (g.before_is i) splice };
    last_is_lem = g.last_is_lem;
    stand_is = stand_marked splice r hold ∙ g.stand_is;
    told = record {
      counters_are = λ k.
          counts_with r.pid r.last (mark_with (before_of r) splice) r.rejection r.in_hand
          (λ j. bytes_counted (done j) r) k
          ∙ g.told.counters_are k;
      in_hand_is = g.told.in_hand_is;
      hold_is = g.told.hold_is;
      number_is = g.told.number_is;
    };
    number_few = g.number_few;
    standing = g.standing;
  }

-- ---- one call

-- what a call comes to, as it is ruled on
pub record Went (from : Tally) (pid size : ℕ) (before : Before) (h : History) (z : Ruling) (o : Outcome) : Type 0 where
  pub fare : fare_of o.said ≡ ruled_fare z
  pub agrees : Agrees from pid size o.rec o.hold (before_after before z) (history_from by_judge h (ruled_in z))
  pub sections : map (map value_of) (delivered_in (history_from by_judge h (ruled_in z)).story)
      ≡ map (map value_of) (delivered_in h.story) ++ handed_by o.said o.out
  pub bytes : flatten (handed_by o.said o.out) ≡ bytes_by o.said o.out
  pub told : length (flatten (handed_by o.said o.out)) ≡ told_by o.said

module _ {from : Tally} {pid size : ℕ} {r : Record} {hold : List ℕ} {before : Before} {h : History}
    (g : Agrees from pid size r hold before h) (out : List ℕ) where
  went_taken : (q : Carried ℕ) → (q.counter ≤ 15) × (4096 ≤ size)
      → Went from pid size before h (takes q) (outcome_after r hold out q.counter (s g by_judge q))
  went_taken q x =
      let given = handed_after r hold out q.counter (s g by_judge q) (whole_taken by_judge h.last (hand g) q) in
      record {
        fare = refl;
        agrees = agrees_taken g by_judge q x;
        sections =
            sections_taken g by_judge q accepted
            ∙ ap (λ (l : List (List ℕ)). map (map value_of) (delivered_in h.story) ++ l) (sym given);
        bytes = ap flatten given ∙ sym (bytes_after r hold out q.counter (s g by_judge q));
        told = ap (λ (l : List (List ℕ)). length (flatten l)) given;
      }

  went_by : (z : Ruling) → Taking size z → Went from pid size before h z (outcome_of r hold out z)
  unfolding flatten
  went_by (Ruled.refuses n) x =
      record { fare = refl; agrees = g; sections = sym (append-nil _); bytes = refl; told = refl }
  went_by repeated x = record { fare = refl; agrees = g; sections = sym (append-nil _); bytes = refl; told = refl }
  went_by (Ruled.bare splice) x =
      record { fare = refl; agrees = agrees_bare g splice; sections = sym (append-nil _); bytes = refl; told = refl }
  went_by (takes q) x =
      subst
      (λ (l : Option ℕ). Went from pid size before h (takes q)
      (outcome_after r hold out q.counter (story_after by_judge plain l (holding (hand g)) q)))
      (sym (ap (λ (b : Before). b.last) g.before_is ∙ g.last_is_lem)) (went_taken q x)

  -- the ruling on the packet is the one that the packets alone give
  pub went : (packet : List ℕ) (o : Outcome) → Promised r hold out packet o
      → Went from pid size before h (ruling_on pid size before (record { packet = packet; room = length out })) o
  went packet o e =
      let z : Ruling = ruling (too_small (length hold) (length out)) (cannot_stand r hold) r.pid (before_of r) packet in
      let same : z ≡ ruling_on pid size before (record { packet = packet; room = length out }) =
      λ i. ruling (too_small (g.size_is i) (length out)) (g.stand_is i) (g.pid_is i) (g.before_is i) packet in
      let taking : Taking size z =
      subst (λ (n : ℕ). Taking n z) g.size_is
      (taking_of (cannot_stand r hold) r.pid (length hold) (length out) (before_of r) packet) in
      subst (λ (y : Ruling). Went from pid size before h y o) same
      (subst (Went from pid size before h z) (sym e) (went_by z taking))

-- ---- a run of calls

history_append : (comes : List ℕ → Kind) (h : History) (a c : List (Carried ℕ))
    → history_from comes h (a ++ c) ≡ history_from comes (history_from comes h a) c
history_append comes h [] c = refl
history_append comes h (q ∷ a) c = history_append comes (history_after comes h q) a c

pub record Ran (from : Tally) (pid size : ℕ) (before : Before) (h : History) (ks : List Call) (r' : Record)
    (hold' : List ℕ) : Type 0 where
  pub fares : map (λ k. fare_of k.said) ks ≡ fares_from pid size before (map lent_of ks)
  pub agrees : Agrees from pid size r' hold' (before_from pid size before (map lent_of ks))
      (history_from by_judge h (ruled_taken pid size before (map lent_of ks)))
  pub sections : map (map value_of)
      (delivered_in (history_from by_judge h (ruled_taken pid size before (map lent_of ks))).story)
      ≡ map (map value_of) (delivered_in h.story) ++ handed ks
  pub bytes : Each (λ k. flatten (handed_by k.said k.out') ≡ bytes_by k.said k.out') ks
  pub told : Each (λ k. length (flatten (handed_by k.said k.out')) ≡ told_by k.said) ks

pub ran : {from : Tally} {pid size : ℕ} {r r' : Record} {hold hold' : List ℕ} {ks : List Call}
    → Run Promised r hold ks r' hold' → (before : Before) (h : History) → Agrees from pid size r hold before h
    → Ran from pid size before h ks r' hold'
ran no_call before h g = record { fares = refl; agrees = g; sections = sym (append-nil _); bytes = tt; told = tt }
ran {from} {pid} {size} {r' = r'} {hold' = hold'} (one_call {k = k} {ks = ks} c rest) before h g =
    let w = went g k.out k.packet _ c in
    let z : Ruling = ruling_on pid size before (lent_of k) in
    let h₁ : History = history_from by_judge h (ruled_in z) in
    let next : Before = before_after before z in
    let x = ran rest next h₁ w.agrees in
    let same : history_from by_judge h₁ (ruled_taken pid size next (map lent_of ks))
    ≡ history_from by_judge h (ruled_in z ++ ruled_taken pid size next (map lent_of ks)) =
    sym (history_append by_judge h (ruled_in z) (ruled_taken pid size next (map lent_of ks))) in
    record {
      fares = λ i. w.fare i ∷ x.fares i;
      agrees = subst (Agrees from pid size r' hold' (before_from pid size next (map lent_of ks))) same x.agrees;
      sections =
          ap (λ (y : History). map (map value_of) (delivered_in y.story)) (sym same)
          ∙ x.sections
          ∙ ap (λ (l : List (List ℕ)). l ++ handed ks) w.sections
          ∙ append_assoc (map (map value_of) (delivered_in h.story)) (handed_by k.said k.out') (handed ks);
      bytes = (w.bytes, x.bytes);
      told = (w.told, x.told);
    }
