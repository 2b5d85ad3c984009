-- A run of `lohitunga_collect` from a fresh record is a run of the collector: no packet leaves a counter that the
-- numbers cannot tell from none.
use mathlib.Core.Path.{◌≡◌, refl, sym, ap, ◌∙◌, subst}
use mathlib.Core.Bool.{Bool, true, false, not}
use mathlib.Core.List.{List, [], ◌∷◌, ◌++◌, map}
use mathlib.Core.Logic.{◌↔◌}
use mathlib.Core.Option.{Option, none, some}
use Prim.Native.Nat.{ℕ, ◌<◌}
use native.Mathlib.Omega.{arith}
use lib.ListN.{length, take}
use lib.Dec.{eqb}
use borrow.Author.Tests.{ne_eqb, eqb-true, eqb-false, not-true}
use Rattle.wire.proofs.IfLaws.{if-case}
use Rattle.packet.specs.Header.{control}
use Rattle.packet.specs.Ruling.{Before, mark_with, repeats, Ruling, refuses, repeated, takes, ruled_by, ruling}
use Rattle.packet.specs.Refusals.{Judged, refuse, has_payload, judged_by, judged, first_of, refusals}
use Rattle.collector.specs.Refusals.{before_of, cannot_stand, too_small}
use Rattle.packet.specs.Refusals as Refusals
use Rattle.packet.specs.Ruling as Ruled
use Rattle.collector.specs.Rules.{by_kind, done}
use Rattle.collector.specs.Answer as collector
use Rattle.collector.specs.Collected.{bytes_counted, record_with, fresh_record, outcome_of, collected}
use Rattle.history.specs.Run as beneath
use Rattle.history.specs.Run.{cut, handed_by, handed}
use Rattle.history.specs.Healing as healing
use Rattle.history.proofs.Judging.{none_rejected_leaves}
use Rattle.std.specs.Prelude.{None, Some}
use Rattle.collector.specs.declared.Record as of
use Rattle.cabinet.specs.Collect.{last_in, last_says, mark_in, mark_says, numbers_with, SameName, record_in, record_after, record_says, collect_says, Outcome, leaves, outcome_says, collecting}
use Rattle.cabinet.proofs.Outcomes.{last_kept, mark_kept, record_kept}
use Rattle.calls.specs.Collects.{LastIs, Stands, Tells, tells_refused, tells_repeated, tells_taken, Promised, Kept, KeepsNumbers, Call, Run, no_call, one_call, handedOut, call_says, Beneath, RunsBeneath}
use Rattle.calls.specs.Healing.{State, state_of, states_in}
use Rattle.cabinet.specs.declared.collect.Record.{Record}

-- ---- a taken packet's counter has four bits

abbrev SmallJudged : Judged → Type 0
SmallJudged (refuse n) = Unit {0}
SmallJudged (Refusals.bare splice) = Unit {0}
SmallJudged (has_payload at start counter splice) = counter < 16

abbrev Small : Ruling → Type 0
Small (refuses n) = Unit {0}
Small repeated = Unit {0}
Small (Ruled.bare splice) = Unit {0}
Small (takes q) = q.counter < 16

small_by : (o : Option ℕ) (packet : List ℕ) → SmallJudged (judged_by o packet)
small_by (some n) packet = tt
small_by none packet = if-case SmallJudged (eqb (control packet) 2) (λ _. tt) (λ _. omega arith)

small_ruled : (before : Before) (packet : List ℕ) (j : Judged) → SmallJudged j → Small (ruled_by before packet j)
small_ruled before packet (refuse n) x = tt
small_ruled before packet (Refusals.bare splice) x = tt
small_ruled before packet (has_payload at start counter splice) x =
    if-case Small (repeats before.last (mark_with before splice) counter) (λ _. tt) (λ _. x)

small : (few unfit : Bool) (pid : ℕ) (before : Before) (packet : List ℕ)
    → Small (ruling few unfit pid before packet)
unfolding judged
small few unfit pid before packet =
    small_ruled before packet (judged few unfit pid packet)
    (small_by (first_of (refusals few unfit pid packet)) packet)

-- ---- a record that its numbers tell

mark_told : (n : ℕ) (mark : Bool) → mark_in (mark_says n mark) ≡ mark
mark_told n false = refl
mark_told n true = if-case (λ k. mark_in k ≡ true) (eqb n 0) (λ _. refl) (λ is. ap not is)

abbrev pub NumbersTell : of.Record → Type 0
NumbersTell x = last_in (last_says x.last) ≡ x.last

told_counter : (n : ℕ) → n < 16 → last_in n ≡ Some n
told_counter n h = rw (ne_eqb n 255 (λ e. omega arith))

told_after : (x : of.Record) (hold out : List ℕ) (ruled : Ruling) → Small ruled → NumbersTell x
    → NumbersTell (outcome_of x hold out ruled).rec
told_after x hold out (refuses n) s t = t
told_after x hold out repeated s t = t
told_after x hold out (Ruled.bare splice) s t = t
told_after x hold out (takes q) s t = told_counter q.counter s

pub told_on : (x : of.Record) (hold out packet : List ℕ) → NumbersTell x
    → NumbersTell (collected x hold out packet).rec
told_on x hold out packet t =
    told_after x hold out
    (ruling (too_small (length hold) (length out)) (cannot_stand x hold) x.pid (before_of x) packet)
    (small (too_small (length hold) (length out)) (cannot_stand x hold) x.pid (before_of x) packet) t

told_back : (x : of.Record) → NumbersTell x → record_in (record_says x) ≡ x
told_back x t =
    λ i. record_with x.pid (t i) (mark_told 0 x.mark i) x.rejection x.in_hand (λ k. bytes_counted (done k) x)

-- ---- field by field

last_is_lem : (n : ℕ) → LastIs n (last_in n)
last_is_lem n =
    if-case (LastIs n) (eqb n 255) (λ e. subst (λ k. LastIs k None) (sym (eqb-true n 255 e)) none_is)
    (λ e. LastIs.counter (eqb-false n 255 e))
  where
    none_is : LastIs 255 None
    none_is = LastIs.none

mark_is : (n : ℕ) → (mark_in n ≡ true) ↔ (n ≡ 0 → ⊥)
mark_is n = (λ e. eqb-false n 0 (not-true _ e), λ h. ap not (ne_eqb n 0 h))

pub stands : (r : Record) → Stands r (record_in r)
stands r = record {
  pid = refl;
  last = last_is_lem r.last;
  mark = mark_is r.mark;
  rejection = refl;
  in-hand = refl;
  counters = by_kind (SameName r (record_in r)) refl refl refl refl refl refl;
}

pub collect_tells : (t : collector.Reply) → Tells t (collect_says t)
collect_tells (collector.refused_with k) = tells_refused refl refl refl refl
collect_tells collector.repeated = tells_repeated refl refl refl refl
collect_tells (collector.taken n b) = tells_taken refl refl refl refl

-- ---- what stays of the numbers

-- numbers that are written, read and written again in the same place are the same
written_again : (r : Record) (x : of.Record) → record_after r (record_in (record_after r x)) ≡ record_after r x
written_again r x =
    λ i. numbers_with x.pid (last_kept (last_says x.last) i) (mark_says r.mark (mark_told r.mark x.mark i))
    x.rejection x.in_hand (λ k. bytes_counted (done k) x)

-- so numbers that come to mean the same are the same
same_meaning : (r : Record) (x : of.Record) → record_in (record_after r x) ≡ record_in r → record_after r x ≡ r
same_meaning r x e = sym (written_again r x) ∙ ap (record_after r) e ∙ record_kept r

mark_alike : (n : ℕ) (mark : Bool) → mark_in (mark_says n mark) ≡ mark_in n → mark_says n mark ≡ n
mark_alike n mark e = ap (mark_says n) (sym (mark_told n mark) ∙ e) ∙ mark_kept n

pid_kept : (x : of.Record) (hold out : List ℕ) (ruled : Ruling) → (outcome_of x hold out ruled).rec.pid ≡ x.pid
pid_kept x hold out (refuses n) = refl
pid_kept x hold out repeated = refl
pid_kept x hold out (Ruled.bare splice) = refl
pid_kept x hold out (takes q) = refl

last_alike : (n m : ℕ) → last_in n ≡ last_in m → n ≡ m
last_alike n m e = sym (last_kept n) ∙ ap last_says e ∙ last_kept m

-- what a call leaves, whatever the collector makes of the record
kept_by : (r : Record) (x : of.Record) → x.pid ≡ r.pid → (x.rejected ≡ r.rejected → x.rejection ≡ r.rejection)
    → Kept r (record_after r x)
kept_by r x e stays = record {
  pid = e;
  last = last_alike (last_says x.last) r.last;
  mark = mark_alike r.mark x.mark;
  rejection = stays;
  whole = same_meaning r x;
}

pub keeps_numbers : KeepsNumbers Promised
unfolding collecting
keeps_numbers r hold out packet o is =
    let x = record_in r in
    let ruled = ruling (too_small (length hold) (length out)) (cannot_stand x hold) x.pid (before_of x) packet in
    subst (λ (z : Outcome). Kept r z.rec) (sym is)
    (kept_by r (collected x hold out packet).rec (pid_kept x hold out ruled)
    (none_rejected_leaves x hold out packet (collected x hold out packet) refl))

-- ---- a run, call by call

-- in a run the mark's number is 0 or 1
mark_after : (was mark : Bool) → mark_says (mark_says 0 was) mark ≡ mark_says 0 mark
mark_after was false = refl
mark_after true true = refl
mark_after false true = refl

says_after : (x y : of.Record) → record_after (record_says x) y ≡ record_says y
says_after x y =
    λ i. numbers_with y.pid (last_says y.last) (mark_after x.mark y.mark i) y.rejection
    y.in_hand (λ k. bytes_counted (done k) y)

-- one call, in numbers, is that of the collector
says_on : (x : of.Record) (hold out packet : List ℕ) → NumbersTell x
    → collecting (record_says x) hold out packet ≡ outcome_says (record_says x) (collected x hold out packet)
unfolding collecting
says_on x hold out packet t =
    ap (λ (y : of.Record). outcome_says (record_says x) (collected y hold out packet)) (told_back x t)

call_beneath : (r : Record) (o : collector.Outcome) (r₁ : Record) (hold₁ : List ℕ) (k : Call)
    → leaves r₁ hold₁ k.out' k.answer ≡ outcome_says r o
    → ◌≡◌ {A = collector.Outcome} (record { rec = o.rec; hold = hold₁; out = k.out'; said = o.said }) o
call_beneath r o r₁ hold₁ k e = rw (ap (λ (z : Outcome). z.hold) e, ap (λ (z : Outcome). z.out) e)

-- the calls before, in numbers, with this one in front
calls_on : (k : Call) (ks : List Call) (said : collector.Reply) (under : List beneath.Call)
    → k.answer ≡ collect_says said → ks ≡ map call_says under
    → k ∷ ks ≡ map call_says (record { packet = k.packet; out = k.out; out' = k.out'; said = said } ∷ under)
calls_on k ks said under e is = rw (← is, ← e)

more : {x : of.Record} {hold hold' : List ℕ} {r' : Record} (ks : List Call) (r r₁ : Record) (hold₁ : List ℕ) (k : Call)
    (o : collector.Outcome)
    → o ≡ collected x hold k.out k.packet
    → leaves r₁ hold₁ k.out' k.answer ≡ outcome_says r o → Beneath o.rec hold₁ ks r' hold'
    → Beneath x hold (k ∷ ks) r' hold'
more ks r r₁ hold₁ k o is e b = record {
  under = record { packet = k.packet; out = k.out; out' = k.out'; said = o.said } ∷ b.under;
  rec = b.rec;
  run = beneath.one_call (call_beneath r o r₁ hold₁ k e ∙ is) b.run;
  calls_say = calls_on k ks o.said b.under (ap (λ (z : Outcome). z.answer) e) b.calls_say;
  record_says_lem = b.record_says_lem;
  record_stands = b.record_stands;
}

pub runs : (x : of.Record) (hold : List ℕ) (calls : List Call) (r r' : Record) (hold' : List ℕ) → NumbersTell x
    → r ≡ record_says x
    → Run Promised r hold calls r' hold' → Beneath x hold calls r' hold'
runs x hold [] r r' hold' t is no_call = record {
  under = [];
  rec = x;
  run = beneath.no_call;
  calls_say = refl;
  record_says_lem = is;
  record_stands = subst (Stands r) (ap record_in is ∙ told_back x t) (stands r);
}
runs x hold (k ∷ ks) r r' hold' t is (one_call {r₁ = r₁} {hold₁ = hold₁} p rest) =
    let o = collected x hold k.out k.packet in
    let e : leaves r₁ hold₁ k.out' k.answer ≡ outcome_says (record_says x) o =
    p ∙ ap (λ (y : Record). collecting y hold k.out k.packet) is ∙ says_on x hold k.out k.packet t in
    more ks (record_says x) r₁ hold₁ k o refl e
    (runs o.rec hold₁ ks r₁ r' hold' (told_on x hold k.out k.packet t)
    (ap (λ (z : Outcome). z.rec) e ∙ says_after x o.rec) rest)

pub runs_beneath : RunsBeneath Promised
runs_beneath pid fresh hold calls r hold' is x = runs (fresh_record pid) hold calls fresh r hold' refl is x

-- ---- last counter, mark and bytes in hand, as each call leaves them

abbrev pub state_says : healing.State → State
state_says s = record { last = last_says s.last; mark = mark_says 0 s.mark; in-hand = s.in-hand; bytes = s.bytes }

pub states_beneath : (x : of.Record) (hold : List ℕ) (calls : List Call) (r r' : Record) (hold' : List ℕ)
    (t : NumbersTell x)
    (is : r ≡ record_says x) (run : Run Promised r hold calls r' hold')
    → states_in run ≡ map state_says (healing.states_in (runs x hold calls r r' hold' t is run).run)
unfolding runs more
states_beneath x hold [] r r' hold' t is no_call = λ i. state_of (is i) hold ∷ []
states_beneath x hold (k ∷ ks) r r' hold' t is (one_call {r₁ = r₁} {hold₁ = hold₁} p rest) =
    let o = collected x hold k.out k.packet in
    let e : leaves r₁ hold₁ k.out' k.answer ≡ outcome_says (record_says x) o =
    p ∙ ap (λ (y : Record). collecting y hold k.out k.packet) is ∙ says_on x hold k.out k.packet t in
    λ i. state_of (is i) hold
    ∷ states_beneath o.rec hold₁ ks r₁ r' hold' (told_on x hold k.out k.packet t)
    (ap (λ (z : Outcome). z.rec) e ∙ says_after x o.rec) rest i

-- ---- the sections that the calls hand out

pub handed_says : (said : collector.Reply) (out : List ℕ)
    → cut (collect_says said).sections (take (collect_says said).size out) ≡ handed_by said out
handed_says (collector.refused_with n) out = refl
handed_says collector.repeated out = refl
handed_says (collector.taken n b) out = refl

-- are those of the calls beneath
handed_beneath : (under : List beneath.Call) → handedOut (map call_says under) ≡ handed under
handed_beneath [] = refl
handed_beneath (k ∷ ks) = λ i. handed_says k.said k.out' i ++ handed_beneath ks i

pub handed_out : {from : of.Record} {hold : List ℕ} {calls : List Call} {r : Record} {hold' : List ℕ}
    → (b : Beneath from hold calls r hold') → handedOut calls ≡ handed b.under
handed_out b = ap handedOut b.calls_say ∙ handed_beneath b.under
