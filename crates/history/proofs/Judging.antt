-- Request (viii): each of its statements holds of the promise that `step` and `collect` make.
use mathlib.Core.Path.{◌≡◌, refl, sym, ap, ◌∙◌, subst}
use mathlib.Core.Bool.{Bool, true, false}
use mathlib.Core.List.{List, [], ◌∷◌, ◌++◌, map, map-id, flatten}
use Prim.Native.Nat.{ℕ, ◌+◌, ◌%◌, ◌^◌, ◌≤◌, ◌<◌}
use native.Mathlib.Omega.{arith}
use lib.ListN.{length, take, length-append, length-take, length-drop}
use Rattle.wire.specs.Each.{Each}
use Rattle.std.specs.Prelude.{if◌then◌else◌}
use Rattle.wire.specs.Sections.{WholeSection}
use Rattle.wire.proofs.IfLaws.{if-case, true_not_false}
use Rattle.packet.specs.Ruling.{mark_with, Carried, repeats, Ruling, repeated, takes, load_of, ruled_by, ruling}
use Rattle.packet.specs.Ruling as Ruled
use Rattle.packet.specs.Refusals.{Judged, refuse, has_payload}
use Rattle.packet.specs.Refusals as Refusals
use Rattle.verdict.specs.Verdict.{Said, refused, number_of}
use Rattle.verdict.specs.Verdict as Verdict
use Rattle.section.specs.Reading.{judged}
use Rattle.section.specs.Faults.{First}
use Rattle.section.proofs.Exactly.{accepted_exactly_if, refused_exactly_if}
use Rattle.section.proofs.Numbers.{refused_whole}
use Rattle.collector.specs.Refusals.{before_of, cannot_stand, too_small}
use Rattle.collector.specs.Rules.{Kind, accepted, rejected, done, Story, sameKind, count_of, plain, sections_of}
use Rattle.collector.specs.Judged.{kind_said, by_judge, rejected_of, last_number}
use Rattle.collector.specs.Answer.{Outcome}
use Rattle.collector.specs.Collected.{outcome_of}
use Rattle.collector.specs.declared.Record.{Record}
use Rattle.collector.proofs.Counters.{one_of}
use Rattle.collector.proofs.StoryLaws.{counts_in, ended_in, sections_values, sections_each}
use Rattle.collector.proofs.Parted.{rejected-by-end, last_more}
use Rattle.collector.proofs.Fits.{fit_of}
use Rattle.history.specs.History.{Byte, value_of}
use Rattle.history.specs.Run.{Promised, Call, ruled_in}
use Rattle.history.specs.Demand3.{taken_by_rule, story_by}
use Rattle.history.specs.Judging.{Legal, Faulty, Fits, story_on, OnlyAccepted, RejectedRefused, NeverTooLong, LastNumber, AcceptanceLeaves, NoneRejectedLeaves}
use Rattle.history.proofs.Agrees.{kept_taken, whole_taken}
use Rattle.history.proofs.Demand3.{kept_history, delivered_in_order, kept_number}

-- ---- what the judge says of the sections of a kind

is_accepted_lem : (v : Said) → sameKind accepted (kind_said v) ≡ true → v ≡ Verdict.accepted
is_accepted_lem Verdict.accepted e = refl
is_accepted_lem (refused k q) e = absurd (true_not_false (sym e))

is_refused : (v : Said) → sameKind rejected (kind_said v) ≡ true → (k : ℕ) × (q : ℕ) × (v ≡ refused k q)
is_refused Verdict.accepted e = absurd (true_not_false (sym e))
is_refused (refused k q) e = (k, q, refl)

-- what holds of the whole sections that come to a kind
each_kind : (k : Kind) (P Q : List ℕ → Type 0) → ((s : List ℕ) → sameKind k (by_judge s) ≡ true → P s → Q s)
    → (secs : List (List ℕ)) → Each P secs → Each Q (sections_of by_judge plain k secs)
each_kind k P Q f [] x = tt
each_kind k P Q f (s ∷ secs) x =
    let rest = each_kind k P Q f secs x.1 in
    if-case (Each Q) (sameKind k (by_judge (map plain s)))
    (λ e. (f s (ap (λ (l : List ℕ). sameKind k (by_judge l)) (sym (map-id s)) ∙ e) x.0, rest)) (λ e. rest)

each_values : (P : List ℕ → Type 0) (secs : List (List Byte)) → Each (λ (s : List Byte). P (map value_of s)) secs
    → Each P (map (map value_of) secs)
each_values P [] x = tt
each_values P (s ∷ secs) x = (x.0, each_values P secs x.1)

-- the sections of a kind, of any packets
each_of_kind : (k : Kind) (Q : List ℕ → Type 0) → ((s : List ℕ) → sameKind k (by_judge s) ≡ true → WholeSection s → Q s)
    → (pid : ℕ) (hold : List ℕ) (calls : List Call)
    → Each Q (map (map value_of) (sections_of by_judge value_of k (story_by pid hold calls).sections))
each_of_kind k Q f pid hold calls =
    let secs : List (List Byte) = (story_by pid hold calls).sections in
    subst (Each Q) (sym (sections_values by_judge value_of k secs))
    (each_kind k WholeSection Q f (map (map value_of) secs)
    (each_values WholeSection secs (kept_history by_judge (taken_by_rule pid hold calls)).whole))

-- ---- over runs

pub only_accepted : OnlyAccepted Promised
only_accepted pid hold calls r hold' x =
    subst (Each Legal) (sym (delivered_in_order pid hold calls r hold' x).sections_are)
    (each_of_kind accepted Legal (λ s e w. (accepted_exactly_if s).0 (is_accepted_lem (judged s) e)) pid hold calls)

faulty : (s : List ℕ) → sameKind rejected (by_judge s) ≡ true → WholeSection s → Faulty s
faulty s e w =
    let v = is_refused (judged s) e in
    let never = refused_whole s v.0 v.1 w v.2 in
    record {
      number = v.0;
      place = v.1;
      first = (refused_exactly_if s v.0 v.1).0 v.2;
      not-1 = never.0;
      not-5 = never.1;
    }

pub rejected_refused : RejectedRefused Promised
rejected_refused pid hold calls r hold' x = each_of_kind rejected Faulty faulty pid hold calls

pub never_too_long : NeverTooLong Promised
never_too_long pid hold calls r hold' x =
    let fits : (s : List ℕ) → WholeSection s → Fits s = λ s w. omega (arith, w.limit) in (
      subst (Each Fits) (sym (delivered_in_order pid hold calls r hold' x).sections_are)
          (each_of_kind accepted Fits (λ s e w. fits s w) pid hold calls),
      each_of_kind rejected Fits (λ s e w. fits s w) pid hold calls,
    )

-- what holds of each holds of the last
each_last : (P : List ℕ → Type 0) (front : List (List ℕ)) (s : List ℕ) → Each P (front ++ (s ∷ [])) → P s
each_last P [] s x = x.0
each_last P (z ∷ front) s x = each_last P front s x.1

pub last_number_lem : LastNumber Promised
last_number_lem pid hold calls r hold' x =
    let kept = kept_number pid hold calls r hold' x in (
      λ front s e.
          let f = each_last Faulty front s (subst (Each Faulty) e (rejected_refused pid hold calls r hold' x)) in
          let said : judged s ≡ refused f.number f.place =
          (refused_exactly_if s f.number f.place).1 f.first in
          let is : r.rejection ≡ f.number =
          kept ∙ ap (last_number 0) e ∙ last_more 0 front (s ∷ []) ∙ ap number_of said in
          (f.place, subst (λ (n : ℕ). First s n f.place) (sym is) f.first),
      λ e. kept ∙ ap (last_number 0) e,
    )

-- ---- one call

leaves_by : (r : Record) (hold out : List ℕ) (z : Ruling) → Each (λ q. rejected_of (story_on r hold q) ≡ []) (ruled_in z)
    → (outcome_of r hold out z).rec.rejection ≡ r.rejection
leaves_by r hold out (Ruled.refuses n) x = refl
leaves_by r hold out repeated x = refl
leaves_by r hold out (Ruled.bare splice) x = refl
leaves_by r hold out (takes q) x = ap (last_number r.rejection) x.0

pub acceptance_leaves : AcceptanceLeaves Promised
acceptance_leaves r hold out packet o x none =
    ap (λ (y : Outcome). y.rec.rejection) x
    ∙ leaves_by r hold out
    (ruling (too_small (length hold) (length out)) (cannot_stand r hold) r.pid (before_of r) packet) none

-- whole sections with no byte are none
none_whole : (secs : List (List ℕ)) → Each WholeSection secs → length (flatten secs) ≡ 0 → secs ≡ []
unfolding flatten
none_whole [] x e = refl
none_whole (s ∷ secs) x e = absurd (omega (arith, x.0.header, length-append s (flatten secs)))

-- a packet that leaves the counter rejects nothing: it can't bring as many bytes as a counter runs round
module _ (r : Record) (hold : List ℕ) (q : Carried ℕ) where
  none_counted : length (take r.in_hand hold) < 4096 → length q.bytes ≤ 184
      → (r.rejected + count_of (done rejected) (story_on r hold q).marks) % 2 ^ 32 ≡ r.rejected
      → rejected_of (story_on r hold q) ≡ []
  none_counted few short e =
      let s : Story ℕ = story_on r hold q in
      let l : List ℕ = take r.in_hand hold ++ q.bytes in
      let kept = kept_taken by_judge (before_of r).last (take r.in_hand hold) q in
      let most : count_of (done rejected) s.marks ≤ 5000 =
      omega (
        arith,
        one_of (λ f. count_of f s.marks) rejected,
        counts_in by_judge plain l s kept,
        length-append (take r.in_hand hold) q.bytes,
        few,
        short,
      ) in
      let none : count_of (done rejected) s.marks ≡ 0 =
      stays r.rejected (count_of (done rejected) s.marks) most e in
      none_whole (rejected_of s)
      (sections_each by_judge plain rejected WholeSection s.sections
      (whole_taken by_judge (before_of r).last (take r.in_hand hold) q))
      (sym (ended_in by_judge plain rejected rejected-by-end l s kept) ∙ none)
    where
      stays : (n k : ℕ) → k ≤ 5000 → (n + k) % 2 ^ 32 ≡ n → k ≡ 0
      stays n k w v = omega arith

none_ruled : (r : Record) (hold out : List ℕ) (q : Carried ℕ) (t : Bool) → length (take r.in_hand hold) < 4096
    → length q.bytes ≤ 184 → let z : Ruling = if t then repeated else takes q in
    (outcome_of r hold out z).rec.rejected ≡ r.rejected → Each (λ p. rejected_of (story_on r hold p) ≡ []) (ruled_in z)
none_ruled r hold out q true few short e = tt
none_ruled r hold out q false few short e = (none_counted r hold q few short e, tt)

none_judged : (r : Record) (hold out packet : List ℕ) (j : Judged)
    → Refusals.judged (too_small (length hold) (length out)) (cannot_stand r hold) r.pid packet ≡ j
    → (outcome_of r hold out (ruled_by (before_of r) packet j)).rec.rejected ≡ r.rejected
    → Each (λ q. rejected_of (story_on r hold q) ≡ []) (ruled_in (ruled_by (before_of r) packet j))
none_judged r hold out packet (refuse n) e x = tt
none_judged r hold out packet (Refusals.bare splice) e x = tt
none_judged r hold out packet (has_payload from start counter splice) e x =
    let fit = fit_of r hold out packet from start counter splice e in
    let q : Carried ℕ = load_of (mark_with (before_of r) splice) packet from start counter in
    none_ruled r hold out q (repeats (before_of r).last q.spliced counter)
    (omega (arith, length-take r.in_hand hold, fit.few))
    (omega (arith, length-drop from packet, fit.from_past, fit.long)) x

pub none_rejected_leaves : NoneRejectedLeaves Promised
none_rejected_leaves r hold out packet o x e =
    acceptance_leaves r hold out packet o x
    (none_judged r hold out packet
    (Refusals.judged (too_small (length hold) (length out)) (cannot_stand r hold) r.pid packet)
    refl (ap (λ (y : Outcome). y.rec.rejected) (sym x) ∙ e))
