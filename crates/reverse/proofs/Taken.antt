-- One call with a packet of the writer: no refusal meets it, it is not repeated, what is in hand goes on in it, and the
-- record stands behind it.
use mathlib.Core.Path.{◌≡◌, refl, sym, ap, ◌∙◌, subst}
use mathlib.Core.Bool.{Bool, true, false, not, ◌&&◌, ◌||◌}
use mathlib.Core.List.{List, [], ◌++◌, flatten}
use mathlib.Core.Logic.{◌⊎◌, inl, ⊎_elim}
use mathlib.Core.Option.{Option, none, some}
use Prim.Native.Nat.{ℕ, ◌+◌, ◌%◌, ◌^◌, ◌≤◌, ◌<◌}
use native.Mathlib.Omega.{arith}
use lib.ListN.{length, take, drop, get_or, length-append, length-drop}
use lib.Seq.{take-append_seam}
use lib.Dec.{ltb, eqb}
use borrow.Author.Tests.{ltb-false, eqb-true, le-ltb, eq-eqb, ne_eqb}
use Rattle.std.specs.Prelude.{if◌then◌else◌, Some}
use Rattle.wire.specs.Each.{Each}
use Rattle.wire.specs.Sections.{WholeSection}
use Rattle.copy.specs.Laid.{over}
use Rattle.packet.specs.Header.{start_flag, pid_of, scrambling, control, counter_of, adaptation, discontinuity, payload_from, payload_of, pointer_of}
use Rattle.packet.specs.Refusals.{wrong_adaptation, points_past, refusals, bare, has_payload, judged_by, judged}
use Rattle.packet.specs.Ruling.{Before, equal_to, next_to, repeats, joins, Carried, load_of, repeated, takes, ruled_by, ruling}
use Rattle.packet.proofs.Table.{or_false, Passed, all_passed}
use Rattle.collector.specs.Refusals.{last_of, before_of, counter_past, cannot_stand, too_small}
use Rattle.collector.specs.Rules.{Kind, accepted, rejected, broken, skipped, done, Story, count_of, hand_of, holding, joined, plain, payload, story_after}
use Rattle.collector.specs.Judged.{by_judge, accepted_among, rejected_among, delivered_of, rejected_of, last_number}
use Rattle.collector.specs.Answer.{Outcome}
use Rattle.collector.specs.Collected.{bytes_counted, record_after, outcome_after, outcome_of, collected}
use Rattle.collector.specs.declared.Record.{Record}
use Rattle.collector.proofs.Counters.{counts_with}
use Rattle.collector.proofs.Invariants.{ByEnd}
use Rattle.collector.proofs.StoryLaws.{Kept, ended_in, sections_each}
use Rattle.collector.proofs.Parted.{parted, accepted-by-end, rejected-by-end, last_limit}
use Rattle.collector.proofs.Outcomes.{kept_payload}
use Rattle.history.specs.Run.{taken, fare_of, cut, handed_by}
use Rattle.wire.proofs.TestLaws.{and_none}
use Rattle.history.proofs.LeftInHand.{Standing, stands_after}
use Rattle.history.proofs.Agrees.{cut_whole, whole_taken}
use Rattle.writer.specs.Packets.{header_of}
use Rattle.reverse.proofs.HeaderLaws.{packet_long, no_error, flag_is, pid_is, clear, control_is, counter_is, from_is, no_bit}
use Rattle.reverse.proofs.Carries.{Tells}
use Rattle.reverse.proofs.Leaves.{Leaves, stays}

-- ---- a packet of the writer

-- with 184 bytes of payload, whose pointer, where it has one, is not above 182
module _ (pid counter : ℕ) (start : Bool) (body : List ℕ) (a-pid : pid ≤ 8191) (a-counter : counter ≤ 15)
    (long : length body ≡ 184) (points : start ≡ true → get_or body 0 0 ≤ 182) where
  abbrev packet : List ℕ
  packet = header_of pid counter start ++ body

  flag : start_flag packet ≡ start
  flag = flag_is pid counter start body a-pid a-counter

  field : control packet ≡ 1
  field = control_is pid counter start body a-pid a-counter

  from : payload_from packet ≡ 4
  from = from_is pid counter start body a-pid a-counter

  -- ---- no row of the table applies

  adapted : wrong_adaptation packet ≡ false
  adapted =
      ap
      (λ (z : ℕ). eqb z 0
      || ((eqb z 3 && ltb 182 (adaptation packet)) || (eqb z 2 && not (eqb (adaptation packet) 183))))
      field

  within : points_past packet ≡ false
  within =
      ap (λ (z : ℕ). not (eqb z 2) && (start_flag packet && ltb (length (payload_of packet)) (pointer_of packet + 2)))
      field
      ∙ ap (λ (z : Bool). z && ltb (length (payload_of packet)) (pointer_of packet + 2)) flag
      ∙ ap (λ (z : ℕ). start && ltb (length (drop z packet)) (get_or packet z 0 + 2)) from
      ∙ at start refl
    where
      at : (t : Bool) → start ≡ t → (t && ltb (length body) (get_or body 0 0 + 2)) ≡ false
      at true e = le-ltb (length body) (get_or body 0 0 + 2) (omega (arith, points e))
      at false e = refl

  passes : (small unfit : Bool) → small ≡ false → unfit ≡ false → Each Passed (refusals small unfit pid packet)
  passes small unfit e w =
      let size : eqb (length packet) 188 ≡ true =
      eq-eqb (length packet) 188 (packet_long pid counter start body a-pid a-counter long) in
      let ours = eq-eqb (pid_of packet) pid (pid_is pid counter start body a-pid a-counter) in
      let unscrambled = eq-eqb (scrambling packet) 0 (clear pid counter start body a-pid a-counter) in
      let right = no_error pid counter start body a-pid a-counter in
      (ap not size, (e, (w, (refl, (right, (ap not ours, (ap not unscrambled, (adapted, (within, tt)))))))))

  is_judged : (small unfit : Bool) → small ≡ false → unfit ≡ false
      → judged small unfit pid packet ≡ has_payload 4 start counter false
  unfolding judged
  is_judged small unfit e w =
      ap (λ (o : Option ℕ). judged_by o packet) (all_passed (refusals small unfit pid packet) (passes small unfit e w))
      ∙ ap
      (λ (z : ℕ). if eqb z 2 then bare (discontinuity packet)
      else has_payload (payload_from packet) (start_flag packet) (counter_of packet) (discontinuity packet))
      field
      ∙ (λ i. has_payload (from i) (flag i) (counter_is pid counter start body a-pid a-counter i)
      (no_bit pid counter start body a-pid a-counter i))

  -- ---- it is taken

  other_counter : (last : Option ℕ) → next_to last counter ≡ true → equal_to last counter ≡ false
  other_counter none e = refl
  other_counter (some c) e = let next = eqb-true counter ((c + 1) % 16) e in ne_eqb counter c (λ w. omega arith)

  abbrev load : Before → Carried ℕ
  load before = load_of (before.mark || false) packet 4 start counter

  not_again : (before : Before) → next_to before.last counter ≡ true
      → repeats before.last (before.mark || false) counter ≡ false
  unfolding repeats
  not_again before e =
      ap (λ (t : Bool). not (before.mark || false) && t) (other_counter before.last e)
      ∙ and_none (not (before.mark || false))

  ruled_taken_lem : (small unfit : Bool) (before : Before) → small ≡ false → unfit ≡ false
      → next_to before.last counter ≡ true
      → ruling small unfit pid before packet ≡ takes (load before)
  ruled_taken_lem small unfit before e w next =
      ap (ruled_by before packet) (is_judged small unfit e w)
      ∙ ap (λ (t : Bool). if t then repeated else takes (load before)) (not_again before next)

-- ---- what is in hand goes on

-- its counter is the next and no mark is set; or there is nothing to be broken off
hand_goes_on : (counter : ℕ) (h : List ℕ) (last : Option ℕ) (mark : Bool) → next_to last counter ≡ true
    → (mark ≡ false) ⊎ (h ≡ [])
    → joined (joins last (mark || false) counter) (holding h) ≡ holding h
unfolding joins
hand_goes_on counter h last mark next x =
    ⊎_elim
    (λ e. ap (λ (t : Bool). joined (not (t || false) && next_to last counter) (holding h)) e
    ∙ ap (λ (t : Bool). joined t (holding h)) next)
    (λ e. ap (λ (l : List ℕ). joined (joins last (mark || false) counter) (holding l)) e
    ∙ nothing (joins last (mark || false) counter)
    ∙ ap (λ (l : List ℕ). holding l) (sym e))
    x
  where
    nothing : (t : Bool) → joined t (holding {A = ℕ} []) ≡ holding []
    nothing true = refl
    nothing false = refl

-- ---- a record between two packets

-- it can stand, has these bytes in hand, and the packet with this counter is the next; where its mark is set nothing is
-- in hand
pub record Holds (pid counter : ℕ) (h : List ℕ) (r : Record) (hold : List ℕ) : Type 0 where
  pub stands : cannot_stand r hold ≡ false
  pub pid_is : r.pid ≡ pid
  pub in_hand_is : r.in_hand ≡ length h
  pub hold_is : take r.in_hand hold ≡ h
  pub next : next_to (last_of r.last) counter ≡ true
  pub unmarked : (r.mark ≡ false) ⊎ (h ≡ [])
  pub counters : (k : Kind) → bytes_counted (done k) r < 2 ^ 32
  pub room : 4096 ≤ length hold

-- what a call comes to: taken, those of these sections handed out that the judge accepts, what all of them leave in the
-- record, and that it stands with these bytes in hand
pub record Went (pid counter : ℕ) (sections : List (List ℕ)) (h : List ℕ) (r : Record) (o : Outcome) : Type 0 where
  pub is_taken : fare_of o.said ≡ taken
  pub handed_are : handed_by o.said o.out ≡ accepted_among sections
  pub leaves : Leaves sections r o.rec
  pub holds : Holds pid ((counter + 1) % 16) h o.rec o.hold

-- what a record that can stand says
a_pid_of : (r : Record) (hold : List ℕ) → cannot_stand r hold ≡ false → r.pid ≤ 8191
unfolding cannot_stand
a_pid_of r hold e = ltb-false 8191 r.pid (or_false (ltb 8191 r.pid) _ e).0

a_number_of : (r : Record) (hold : List ℕ) → cannot_stand r hold ≡ false → r.rejection ≤ 10
unfolding cannot_stand
a_number_of r hold e =
    let behind = (or_false (counter_past r.last) _ (or_false (ltb 8191 r.pid) _ e).1).1 in
    ltb-false 10 r.rejection (or_false (ltb 10 r.rejection) _ behind).0

roomy : (hold out : ℕ) → 4096 ≤ hold → 4280 ≤ out → too_small hold out ≡ false
roomy hold out k w = ap (λ (t : Bool). t || ltb out 4280) (le-ltb hold 4096 k) ∙ le-ltb out 4280 w

module _ {pid counter : ℕ} {h : List ℕ} {r : Record} {hold : List ℕ} (x : Holds pid counter h r hold)
    (a-counter : counter ≤ 15) where
  module _ (s : Story ℕ) (sections : List (List ℕ)) (h' : List ℕ) (t : Tells s sections h') where
    -- a story that tells so much, as the record counts it
    counts : (k : Kind) → bytes_counted (done k) (record_after r counter s)
        ≡ (bytes_counted (done k) r + count_of (done k) s.marks) % 2 ^ 32
    counts =
        counts_with r.pid (Some counter) false (last_number r.rejection (rejected_of s)) (length (hand_of s))
        (λ k. (bytes_counted (done k) r + count_of (done k) s.marks) % 2 ^ 32)

    left_of : (l : List ℕ) → Kept by_judge plain l s → Leaves sections r (record_after r counter s)
    left_of l kept = record {
      accepted_are = ended accepted accepted-by-end;
      rejected_are = ended rejected rejected-by-end;
      number_is = ap (λ (secs : List (List ℕ)). last_number r.rejection (rejected_among secs)) t.sections_are;
      none_broken = counts broken ∙ stays (bytes_counted (done broken) r) _ t.none_broken (x.counters broken);
      none_skipped = counts skipped ∙ stays (bytes_counted (done skipped) r) _ t.none_skipped (x.counters skipped);
    }
      where
        ended : (k : Kind) → ByEnd k → bytes_counted (done k) (record_after r counter s)
            ≡ (bytes_counted (done k) r + length (flatten (parted k sections))) % 2 ^ 32
        ended k w =
            counts k
            ∙ ap (λ (n : ℕ). (bytes_counted (done k) r + n) % 2 ^ 32)
            (ended_in by_judge plain k w l s kept
            ∙ ap (λ (secs : List (List ℕ)). length (flatten (parted k secs))) t.sections_are)

    holds_after : Standing h' → Holds pid ((counter + 1) % 16) h' (record_after r counter s) (over (hand_of s) hold)
    holds_after standing =
        let stand : Standing (hand_of s) = subst Standing (sym t.hand_is) standing in
        record {
          stands =
              stands_after (record_after r counter s) counter refl a-counter (hand_of s) stand refl
              (last_limit r.rejection (rejected_of s) (a_number_of r hold x.stands))
              (drop (length (hand_of s)) hold)
              ∙ le-ltb 8191 r.pid (a_pid_of r hold x.stands);
          pid_is = x.pid_is;
          in_hand_is = ap length t.hand_is;
          hold_is = take-append_seam (hand_of s) (drop (length (hand_of s)) hold) ∙ t.hand_is;
          next = eq-eqb ((counter + 1) % 16) ((counter + 1) % 16) refl;
          unmarked = inl refl;
          counters = λ k. let e = counts k in omega arith;
          room =
              let more = length-append (hand_of s) (drop (length (hand_of s)) hold) in
              let left = length-drop (length (hand_of s)) hold in
              let enough = x.room in
              omega arith;
        }

    -- the accepted ones of its whole sections are handed out
    went_by : (out : List ℕ) → Standing h' → Each WholeSection s.sections → (l : List ℕ) → Kept by_judge plain l s
        → Went pid counter sections h' r (outcome_after r hold out counter s)
    went_by out standing whole l kept =
        let d : List (List ℕ) = delivered_of s in
        record {
          is_taken = refl;
          handed_are =
              ap (cut (length d)) (take-append_seam (flatten d) (drop (length (flatten d)) out))
              ∙ cut_whole d (sections_each by_judge plain accepted WholeSection s.sections whole)
              ∙ ap accepted_among t.sections_are;
          leaves = left_of l kept;
          holds = holds_after standing;
        }

  pub went : (start : Bool) (body out : List ℕ) → length body ≡ 184 → (start ≡ true → get_or body 0 0 ≤ 182)
      → 4280 ≤ length out → (sections : List (List ℕ)) (h' : List ℕ)
      → Tells (payload by_judge plain start (holding h) body) sections h' → Standing h'
      → (o : Outcome) → o ≡ collected r hold out (header_of pid counter start ++ body) → Went pid counter sections h' r o
  went start body out long points enough sections h' t standing o e =
      let a-pid : pid ≤ 8191 = subst (λ (n : ℕ). n ≤ 8191) x.pid_is (a_pid_of r hold x.stands) in
      let p : List ℕ = header_of pid counter start ++ body in
      let q : Carried ℕ = load_of (r.mark || false) p 4 start counter in
      let ruled : ruling (too_small (length hold) (length out)) (cannot_stand r hold) r.pid (before_of r) p ≡ takes q =
      ap (λ (n : ℕ). ruling (too_small (length hold) (length out)) (cannot_stand r hold) n (before_of r) p) x.pid_is
      ∙ ruled_taken_lem pid counter start body a-pid a-counter long points (too_small (length hold) (length out))
      (cannot_stand r hold) (before_of r) (roomy (length hold) (length out) x.room enough) x.stands x.next in
      let s : Story ℕ = story_after by_judge plain (last_of r.last) (holding (take r.in_hand hold)) q in
      let is : s ≡ payload by_judge plain start (holding h) body =
      ap (λ (l : List ℕ). story_after by_judge plain (last_of r.last) (holding l) q) x.hold_is
      ∙ ap (λ (z : Story ℕ). payload by_judge plain start z body)
      (hand_goes_on counter h (last_of r.last) r.mark x.next x.unmarked) in
      subst (Went pid counter sections h' r) (sym (e ∙ ap (outcome_of r hold out) ruled))
      (went_by s sections h' (subst (λ (z : Story ℕ). Tells z sections h') (sym is) t) out standing
      (whole_taken by_judge (last_of r.last) (take r.in_hand hold) q) (h ++ body)
      (subst (Kept by_judge plain (h ++ body)) (sym is) (kept_payload by_judge start h body)))
