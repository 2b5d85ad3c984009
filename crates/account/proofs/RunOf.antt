-- Entering packets from a fresh account is a run of the collector, and what the account counts is what the calls of that
-- run say.
use Rattle.std.proofs.Common.{◌≡◌, ℕ, zero, suc, ◌+◌, ◌%◌, ◌^◌, ◌≤◌, Bool, false, not, ◌||◌, eqb, ltb, List, [], ◌∷◌, ◌++◌, map, length, take, drop, sym, refl, ap, ◌∙◌, subst, arith, length-append, length-drop, le-ltb}
use mathlib.Core.List.{flatten}
use Rattle.wire.specs.Sections.{total_of}
use Rattle.copy.specs.Laid.{over}
use Rattle.packet.specs.Ruling.{Before, Carried, ruled_by, Ruling, ruling}
use Rattle.collector.specs.Rules.{holding, plain, story_after}
use Rattle.collector.specs.Judged.{by_judge, delivered_of}
use Rattle.packet.specs.Refusals.{◌when◌, refusals, first_of, judged_by, judged}
use Rattle.collector.specs.Refusals.{cannot_stand, before_of, too_small}
use Rattle.packet.specs.Ruling as Ruled
use Rattle.collector.specs.Answer.{Reply, refused_with, repeated, taken, Outcome}
use Rattle.collector.specs.Collected.{outcome_of, collected}
use Rattle.collector.specs.declared.Record.{Record}
use Rattle.history.specs.Run.{Promised, Call, Run, no_call, one_call, Fare, fare_of, ruled_fare, lent_of, before_after, ruled_in, ruling_on, fares_from, ruled_taken, cut, handed_by, handed}
use Rattle.account.specs.Entered.{Kept, tallied, entered, entered_all}
use Rattle.account.specs.Lines.{lent, one_taken, one_repeated, one_refused, total}
use Rattle.account.specs.declared.tally.Account.{Account}

-- ---- the calls

abbrev outcome : Kept → List ℕ → Outcome
outcome k p = collected k.account.rec k.hold k.out p

abbrev call_of : Kept → List ℕ → Call
call_of k p = record { packet = p; out = k.out; out' = (outcome k p).out; said = (outcome k p).said }

abbrev pub calls_from : Kept → List (List ℕ) → List Call
calls_from k [] = []
calls_from k (p ∷ ps) = call_of k p ∷ calls_from (entered k p) ps

pub packets_are : (k : Kept) (ps : List (List ℕ)) → map (λ c. c.packet) (calls_from k ps) ≡ ps
packets_are k [] = refl
packets_are k (p ∷ ps) = ap (λ (l : List (List ℕ)). p ∷ l) (packets_are (entered k p) ps)

tallied_rec : (a : Account) (r : Record) (said : Reply) → (tallied a r said).rec ≡ r
tallied_rec a r (refused_with n) = refl
tallied_rec a r repeated = refl
tallied_rec a r (taken n b) = refl

pub runs : (k : Kept) (ps : List (List ℕ))
    → Run Promised k.account.rec k.hold (calls_from k ps) (entered_all k ps).account.rec (entered_all k ps).hold
runs k [] = no_call
runs k (p ∷ ps) =
    let o : Outcome = outcome k p in
    one_call refl
    (subst
    (λ (r : Record). Run Promised r o.hold (calls_from (entered k p) ps)
    (entered_all (entered k p) ps).account.rec (entered_all (entered k p) ps).hold)
    (tallied_rec k.account o.rec o.said) (runs (entered k p) ps))

-- the PID stays
outcome_pid : (r : Record) (hold out : List ℕ) (z : Ruling) → (outcome_of r hold out z).rec.pid ≡ r.pid
outcome_pid r hold out (Ruled.refuses n) = refl
outcome_pid r hold out Ruled.repeated = refl
outcome_pid r hold out (Ruled.bare splice) = refl
outcome_pid r hold out (Ruled.takes q) = refl

pub pid_stays : (k : Kept) (ps : List (List ℕ)) → (entered_all k ps).account.rec.pid ≡ k.account.rec.pid
pid_stays k [] = refl
pid_stays k (p ∷ ps) =
    let r : Record = k.account.rec in
    pid_stays (entered k p) ps
    ∙ ap (λ (z : Record). z.pid) (tallied_rec k.account (outcome k p).rec (outcome k p).said)
    ∙ outcome_pid r k.hold k.out
    (ruling (too_small (length k.hold) (length k.out)) (cannot_stand r k.hold) r.pid (before_of r) p)

-- ---- what the account counts

abbrev sections_by : Reply → ℕ
sections_by (refused_with n) = 0
sections_by repeated = 0
sections_by (taken n b) = n

pub record Tally (a : Account) (t r f s : ℕ) : Type 0 where
  pub taken_is : a.taken ≡ t % 2 ^ 64
  pub repeated_is : a.repeated ≡ r % 2 ^ 64
  pub refused_is : a.refused ≡ f % 2 ^ 64
  pub sections_is : a.sections ≡ s % 2 ^ 64

more : (a n m : ℕ) → a ≡ n % 2 ^ 64 → (a + m) % 2 ^ 64 ≡ (n + m) % 2 ^ 64
more a n m e = omega arith

same : (a n : ℕ) → a ≡ n % 2 ^ 64 → a ≡ (n + 0) % 2 ^ 64
same a n e = omega arith

tally_one : (a : Account) (t r f s : ℕ) → Tally a t r f s → (rec : Record) (said : Reply)
    → Tally (tallied a rec said) (t + one_taken (fare_of said)) (r + one_repeated (fare_of said))
    (f + one_refused (fare_of said)) (s + sections_by said)
tally_one a t r f s x rec (refused_with n) = record {
  taken_is = same _ t x.taken_is;
  repeated_is = same _ r x.repeated_is;
  refused_is = more _ f 1 x.refused_is;
  sections_is = same _ s x.sections_is;
}
tally_one a t r f s x rec repeated = record {
  taken_is = same _ t x.taken_is;
  repeated_is = more _ r 1 x.repeated_is;
  refused_is = same _ f x.refused_is;
  sections_is = same _ s x.sections_is;
}
tally_one a t r f s x rec (taken n b) = record {
  taken_is = more _ t 1 x.taken_is;
  repeated_is = same _ r x.repeated_is;
  refused_is = same _ f x.refused_is;
  sections_is = more _ s n x.sections_is;
}

-- as many sections come out as the answer says
length_cut : (n : ℕ) (bs : List ℕ) → length (cut n bs) ≡ n
length_cut zero bs = refl
length_cut (suc n) bs = ap suc (length_cut n (drop (total_of bs) bs))

handed_by_lem : (said : Reply) (out : List ℕ) → length (handed_by said out) ≡ sections_by said
handed_by_lem (refused_with n) out = refl
handed_by_lem repeated out = refl
handed_by_lem (taken n b) out = length_cut n (take b out)

abbrev pub fares_by : List Call → List Fare
fares_by ks = map (λ c. fare_of c.said) ks

pub tally_all : (k : Kept) (ps : List (List ℕ)) (t r f s : ℕ) → Tally k.account t r f s
    → Tally (entered_all k ps).account (t + total one_taken (fares_by (calls_from k ps)))
    (r + total one_repeated (fares_by (calls_from k ps))) (f + total one_refused (fares_by (calls_from k ps)))
    (s + length (handed (calls_from k ps)))
tally_all k [] t r f s x = record {
  taken_is = same _ t x.taken_is;
  repeated_is = same _ r x.repeated_is;
  refused_is = same _ f x.refused_is;
  sections_is = same _ s x.sections_is;
}
tally_all k (p ∷ ps) t r f s x =
    let said : Reply = (outcome k p).said in
    let ks : List Call = calls_from (entered k p) ps in
    let y = tally_all (entered k p) ps (t + one_taken (fare_of said)) (r + one_repeated (fare_of said))
    (f + one_refused (fare_of said)) (s + sections_by said)
    (tally_one k.account t r f s x (outcome k p).rec said) in
    let handed-all : length (handed (calls_from k (p ∷ ps))) ≡ sections_by said + length (handed ks) =
    length-append (handed_by said (outcome k p).out) (handed ks)
    ∙ ap (λ (n : ℕ). n + length (handed ks)) (handed_by_lem said (outcome k p).out) in
    record {
      taken_is =
          y.taken_is ∙ ap (λ (n : ℕ). n % 2 ^ 64) (assoc t (one_taken (fare_of said)) (total one_taken (fares_by ks)));
      repeated_is =
          y.repeated_is
          ∙ ap (λ (n : ℕ). n % 2 ^ 64) (assoc r (one_repeated (fare_of said)) (total one_repeated (fares_by ks)));
      refused_is =
          y.refused_is
          ∙ ap (λ (n : ℕ). n % 2 ^ 64) (assoc f (one_refused (fare_of said)) (total one_refused (fares_by ks)));
      sections_is =
          y.sections_is
          ∙ ap (λ (n : ℕ). n % 2 ^ 64)
          (assoc s (sections_by said) (length (handed ks)) ∙ ap (λ (n : ℕ). s + n) (sym handed-all));
    }
  where
    assoc : (a b c : ℕ) → a + b + c ≡ a + (b + c)
    assoc a b c = omega arith

-- ---- a room that is large enough: its size counts for nothing

room_enough : (pid size : ℕ) (before : Before) (p : List ℕ) (n : ℕ) → 4280 ≤ n
    → ruling_on pid size before (record { packet = p; room = n }) ≡ ruling_on pid size before (lent p)
unfolding judged
room_enough pid size before p n k =
    ap (λ (t : Bool). ruled_by before p
    (judged_by
    (first_of (41 when not (eqb (length p) 188) ∷ 42 when (ltb size 4096 || t) ∷ 43 when ltb 8191 pid
    ∷ drop 3 (refusals false false pid p)))
    p))
    (le-ltb n 4280 k ∙ sym (le-ltb 4280 4280 (omega arith)))

-- an out room grows only
outcome_room : (r : Record) (hold out : List ℕ) (z : Ruling) → length out ≤ length (outcome_of r hold out z).out
outcome_room r hold out (Ruled.refuses n) = omega arith
outcome_room r hold out Ruled.repeated = omega arith
outcome_room r hold out (Ruled.bare splice) = omega arith
outcome_room r hold out (Ruled.takes q) =
    over_room (flatten (delivered_of (story_after by_judge plain (before_of r).last (holding (take r.in_hand hold)) q)))
    out
  where
    over_room : (bs room : List ℕ) → length room ≤ length (over bs room)
    over_room bs room = omega (arith, length-append bs (drop (length bs) room), length-drop (length bs) room)

room_after : (k : Kept) (p : List ℕ) → 4280 ≤ length k.out → 4280 ≤ length (entered k p).out
room_after k p w =
    let r : Record = k.account.rec in
    let o = outcome_room r k.hold k.out
    (ruling (too_small (length k.hold) (length k.out)) (cannot_stand r k.hold) r.pid (before_of r) p) in
    omega arith

module _ (pid size : ℕ) where
  pub fares_are : (k : Kept) (ps : List (List ℕ)) → 4280 ≤ length k.out → (before : Before)
      → fares_from pid size before (map lent_of (calls_from k ps)) ≡ fares_from pid size before (map lent ps)
  fares_are k [] w before = refl
  fares_are k (p ∷ ps) w before =
      let e = room_enough pid size before p (length k.out) w in
      (λ i. ruled_fare (e i) ∷ fares_from pid size (before_after before (e i)) (map lent_of (calls_from (entered k p) ps)))
      ∙ ap (λ (l : List Fare). ruled_fare (ruling_on pid size before (lent p)) ∷ l)
      (fares_are (entered k p) ps (room_after k p w) (before_after before (ruling_on pid size before (lent p))))

  pub taken_are : (k : Kept) (ps : List (List ℕ)) → 4280 ≤ length k.out → (before : Before)
      → ruled_taken pid size before (map lent_of (calls_from k ps)) ≡ ruled_taken pid size before (map lent ps)
  taken_are k [] w before = refl
  taken_are k (p ∷ ps) w before =
      let e = room_enough pid size before p (length k.out) w in
      (λ i. ruled_in (e i) ++ ruled_taken pid size (before_after before (e i)) (map lent_of (calls_from (entered k p) ps)))
      ∙ ap (λ (l : List (Carried ℕ)). ruled_in (ruling_on pid size before (lent p)) ++ l)
      (taken_are (entered k p) ps (room_after k p w) (before_after before (ruling_on pid size before (lent p))))
