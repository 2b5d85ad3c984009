-- A splice that came, with payload or without, is noted: the next packet with payload that is taken is behind a mark.
use mathlib.Core.Path.{◌≡◌, refl, sym, ap, ◌∙◌, subst}
use mathlib.Core.Bool.{Bool, true, false, ◌||◌}
use mathlib.Core.List.{List, [], ◌∷◌, ◌++◌, append_assoc, map}
use mathlib.Core.Logic.{inr}
use mathlib.Core.Option.{Option, none, some}
use Prim.Native.Nat.{ℕ, ◌+◌}
use lib.ListN.{length, length-append}
use lib.Dec.{ltb, eqb}
use Rattle.std.specs.Prelude.{if◌then◌else◌}
use Rattle.wire.specs.Each.{Each}
use Rattle.wire.proofs.IfLaws.{if-case, true_not_false}
use Rattle.wire.proofs.EachLaws.{each_append}
use Rattle.packet.specs.Header.{control, counter_of, discontinuity}
use Rattle.packet.specs.Ruling.{Before, mark_with, repeats, Carried, Ruling, takes, ruled_by, ruling}
use Rattle.packet.specs.Ruling as Ruled
use Rattle.packet.specs.Refusals.{refusals, first_of, judged_by, judged}
use Rattle.collector.specs.Refusals.{too_small}
use Rattle.history.specs.Run as R
use Rattle.history.specs.Run.{Call, Fare, fare_of, ruled_fare, if_said_taken, if_spliced, splices_from, Lent, lent_of, ruling_on, before_after, ruled_in, fares_from, ruled_taken}
use Rattle.wire.proofs.TestLaws.{or_exactly}
use Rattle.history.proofs.FaresByTable.{here, again, fares_cut, ruled_alike}
use Rattle.history.proofs.NoSpan.{spliced_at}

-- ---- one packet

-- what a ruling says of the bit: a repeated packet has none, one without payload passes it on, and one that is taken with
-- payload is behind a mark if it has it, or if the mark was set
abbrev Noted : Before → List ℕ → Ruling → Type 0
Noted before p (Ruled.refuses n) = Unit {0}
Noted before p Ruled.repeated = discontinuity p ≡ false
Noted before p (Ruled.bare splice) = splice ≡ discontinuity p
Noted before p (takes q) = q.spliced ≡ mark_with before (discontinuity p)

repeated_unmarked : (last : Option ℕ) (mark splice : Bool) (counter : ℕ) → repeats last (mark || splice) counter ≡ true
    → splice ≡ false
unfolding repeats
repeated_unmarked last true splice counter e = absurd (true_not_false (sym e))
repeated_unmarked last false true counter e = absurd (true_not_false (sym e))
repeated_unmarked last false false counter e = refl

module _ (before : Before) (p : List ℕ) where
  noted_payload : Noted before p (if again before p then Ruled.repeated else takes (here before p))
  noted_payload =
      if-case (Noted before p) (again before p)
      (λ e. repeated_unmarked before.last before.mark (discontinuity p) (counter_of p) e) (λ e. refl)

  noted_by : (o : Option ℕ) → Noted before p (ruled_by before p (judged_by o p))
  noted_by (some n) = tt
  noted_by none = if-case (λ j. Noted before p (ruled_by before p j)) (eqb (control p) 2) (λ e. refl) (λ e. noted_payload)

  noted : (small unfit : Bool) (pid : ℕ) → Noted before p (ruling small unfit pid before p)
  unfolding judged
  noted small unfit pid = noted_by (first_of (refusals small unfit pid p))

-- ---- the packets behind it

-- is the first of these packets behind a mark; where there is none it counts as behind one
abbrev FirstMarked : List (Carried ℕ) → Type 0
FirstMarked qs = spliced_at qs 0 ≡ true

module _ (pid size : ℕ) where
  -- the mark stands until a packet with payload is taken
  first_by : (before : Before) (x : Lent) (rest : List (Carried ℕ)) (z : Ruling) → Noted before x.packet z
      → before.mark ≡ true → ((before_after before z).mark ≡ true → FirstMarked rest) → FirstMarked (ruled_in z ++ rest)
  first_by before x rest (Ruled.refuses n) w e f = f e
  first_by before x rest Ruled.repeated w e f = f e
  first_by before x rest (Ruled.bare splice) w e f = f (ap (λ (t : Bool). t || splice) e)
  first_by before x rest (takes q) w e f = w ∙ ap (λ (t : Bool). t || discontinuity x.packet) e

  first_marked : (before : Before) (xs : List Lent) → before.mark ≡ true → FirstMarked (ruled_taken pid size before xs)
  first_marked before [] e = refl
  first_marked before (x ∷ xs) e =
      let z = ruling_on pid size before x in
      first_by before x _ z (noted before x.packet (too_small size x.room) (ltb 8191 pid) pid) e
      (first_marked (before_after before z) xs)

  -- the splice of one packet
  splice_by : (before : Before) (p : List ℕ) (n : ℕ) (rest : List (Carried ℕ)) (Q : ℕ → Type 0) (z : Ruling)
      → Noted before p z → ((before_after before z).mark ≡ true → FirstMarked rest) → (FirstMarked (ruled_in z ++ rest) → Q n)
      → Each Q (if_spliced n (ruled_fare z) p)
  splice_by before p n rest Q (Ruled.refuses m) w f q = tt
  splice_by before p n rest Q Ruled.repeated w f q =
      if-case (Each Q) (discontinuity p) (λ e. absurd (true_not_false (sym e ∙ w))) (λ e. tt)
  splice_by before p n rest Q (Ruled.bare splice) w f q =
      if-case (Each Q) (discontinuity p) (λ e. (q (f ((or_exactly before.mark splice).1 (inr (w ∙ e)))), tt)) (λ e. tt)
  splice_by before p n rest Q (takes c) w f q =
      if-case (Each Q) (discontinuity p) (λ e. (q (w ∙ (or_exactly before.mark (discontinuity p)).1 (inr e)), tt)) (λ e. tt)

-- ---- over the calls of a run

-- packet number n is behind a mark
abbrev pub Marked : List (Carried ℕ) → ℕ → Type 0
Marked qs n = spliced_at qs n ≡ true

-- the packet after some packets
spliced_behind : (before rest : List (Carried ℕ)) → spliced_at (before ++ rest) (length before) ≡ spliced_at rest 0
spliced_behind [] rest = refl
spliced_behind (q ∷ before) rest = spliced_behind before rest

-- how many packets are taken with payload is told without the mark
carried_long : (mark : Bool) (f : Fare) (p : List ℕ) → length (if_said_taken false f p) ≡ length (if_said_taken mark f p)
carried_long mark (R.refused_by n) p = refl
carried_long mark R.repeated p = refl
carried_long mark R.taken p = long (eqb (control p) 2) _ _
  where
    long : (t : Bool) (a b : Carried ℕ) → length (if t then [] else a ∷ []) ≡ length (if t then [] else b ∷ [])
    long true a b = refl
    long false a b = refl

-- each splice is in front of a packet that is behind a mark, or of no packet
splices_in : (pid size : ℕ) (before : Before) (ks : List Call) (front : List (Carried ℕ))
    → map (λ k. fare_of k.said) ks ≡ fares_from pid size before (map lent_of ks)
    → Each (Marked (front ++ ruled_taken pid size before (map lent_of ks))) (splices_from (length front) ks)
splices_in pid size before [] front e = tt
splices_in pid size before (k ∷ ks) front e =
    let p : List ℕ = k.packet in
    let w = fares_cut pid size before k ks e in
    let z : Ruling = ruling_on pid size before (lent_of k) in
    let next : Before = before_after before z in
    let rest : List (Carried ℕ) = ruled_taken pid size next (map lent_of ks) in
    let one = ruled_alike (too_small size (lent_of k).room) (ltb 8191 pid) pid before p in
    let first = splice_by pid size before p (length front) rest (Marked (front ++ (ruled_in z ++ rest))) z
    (noted before p (too_small size (lent_of k).room) (ltb 8191 pid) pid) (first_marked pid size next (map lent_of ks))
    (λ m. spliced_behind front (ruled_in z ++ rest) ∙ m) in
    let more = subst (λ (l : List (Carried ℕ)). Each (Marked l) (splices_from (length (front ++ ruled_in z)) ks))
    (append_assoc front (ruled_in z) rest) (splices_in pid size next ks (front ++ ruled_in z) w.1) in
    let long : length front + length (if_said_taken false (ruled_fare z) p) ≡ length (front ++ ruled_in z) =
    ap (λ (n : ℕ). length front + n) (carried_long before.mark (ruled_fare z) p ∙ ap length one.carried)
    ∙ sym (length-append front (ruled_in z)) in
    subst
    (λ (f : Fare). Each (Marked (front ++ (ruled_in z ++ rest)))
    (if_spliced (length front) f p ++ splices_from (length front + length (if_said_taken false f p)) ks))
    (sym w.0)
    (each_append (Marked (front ++ (ruled_in z ++ rest))) (if_spliced (length front) (ruled_fare z) p) _ first
    (subst (λ (n : ℕ). Each (Marked (front ++ (ruled_in z ++ rest))) (splices_from n ks)) (sym long) more))

pub splices_marked : (pid size : ℕ) (before : Before) (ks : List Call)
    → map (λ k. fare_of k.said) ks ≡ fares_from pid size before (map lent_of ks)
    → Each (Marked (ruled_taken pid size before (map lent_of ks))) (splices_from 0 ks)
splices_marked pid size before ks e = splices_in pid size before ks [] e
