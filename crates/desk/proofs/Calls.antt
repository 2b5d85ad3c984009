-- A call that tells 0 wrote the descriptor, and one that tells a refusal altered nothing.
use Prim.Native.Nat.{ℕ, ◌<◌, ◌≤◌}
use mathlib.Core.Path.{◌≡◌, sym, ap, ◌∙◌}
use mathlib.Core.List.{List}
use native.Mathlib.Omega.{arith}
use borrow.Author.Tests.{lt-ltb, le-ltb, ltb-true, ltb-false}
use lib.Dec.{ltb}
use lib.ListN.{length, take, drop}
use Rattle.wire.specs.Reading.{Reading, value, refused}
use Rattle.wire.proofs.IfLaws.{if-case}
use Rattle.forms.proofs.Outcomes.{success_writes}
use Rattle.writing.specs.Written.{Outcome, gives, refuses, answer, roomAfter, outcome, into}
use Rattle.desk.specs.Answers.{says}
use Rattle.desk.specs.Calls.{Refusals, made, outside, long, Wrote, SuccessWrites, RefusalLeaves, Ordered}

-- the room is short, or it is not
module _ (d : Reading (List ℕ)) (o : List ℕ) where
  short : length o < 257 → into (length o) d ≡ refuses 111 0
  unfolding into
  short h = rw (lt-ltb (length o) 257 h)

  enough : 257 ≤ length o → into (length o) d ≡ outcome d
  unfolding into
  enough h = rw (le-ltb (length o) 257 h)

  either : (P : Outcome → Type 0) → (length o < 257 → P (refuses 111 0)) → (257 ≤ length o → P (outcome d))
      → P (into (length o) d)
  unfolding into
  either P less more =
      if-case P (ltb (length o) 257) (λ h. less (ltb-true (length o) 257 h)) (λ h. more (ltb-false (length o) 257 h))

pub success_writes_first : SuccessWrites
success_writes_first d o o' r x c z =
    either d o (λ u. (r ≡ says (answer u)) × (o' ≡ roomAfter o u) → Wrote d o r o')
    (λ _ y. let e : 111 ≡ 0 = sym (ap (λ a. a.number) y.0) ∙ z in absurd (omega arith))
    (λ h y. by x h y) c
  where
    by : Refusals d → 257 ≤ length o → (r ≡ says (answer (outcome d))) × (o' ≡ roomAfter o (outcome d)) → Wrote d o r o'
    by (made s e l) h y =
        let q : r ≡ says (answer (gives s)) = y.0 ∙ ap (λ v. says (answer (outcome v))) e in
        let p : o' ≡ roomAfter o (gives s) = y.1 ∙ ap (λ v. roomAfter o (outcome v)) e in
        let n : r.size ≡ length s = ap (λ a. a.size) q in
        let w = (success_writes o s (omega arith)).1 in
        record {
          descriptor = s;
          made = e;
          tells = n;
          first = ap (λ k. take k o') n ∙ ap (take (length s)) p ∙ w.first;
          later = ap (λ k. drop k o') n ∙ ap (drop (length s)) p ∙ w.later ∙ ap (λ k. drop k o) (sym n);
          same_length = ap length p ∙ w.same_length;
        }
    by (outside e) h y =
        let q : r.number ≡ 112 = ap (λ a. a.number) (y.0 ∙ ap (λ v. says (answer (outcome v))) e) in absurd (omega arith)
    by (long e) h y =
        let q : r.number ≡ 113 = ap (λ a. a.number) (y.0 ∙ ap (λ v. says (answer (outcome v))) e) in absurd (omega arith)

pub refusal_leaves : RefusalLeaves
refusal_leaves d o o' r c z =
    either d o (λ u. (r ≡ says (answer u)) × (o' ≡ roomAfter o u) → (o' ≡ o) × (r.size ≡ 0))
    (λ _ y. (y.1, ap (λ a. a.size) y.0)) (λ h. by d) c
  where
    by : (d : Reading (List ℕ)) → (r ≡ says (answer (outcome d))) × (o' ≡ roomAfter o (outcome d)) → (o' ≡ o) × (r.size ≡ 0)
    by (value s) y = absurd (z (ap (λ a. a.number) y.0))
    by (refused k) y = (y.1, ap (λ a. a.size) y.0)

pub in_that_order : Ordered
in_that_order d o o' r c =
    let told : (u : Outcome) → into (length o) d ≡ u → r ≡ says (answer u) = λ u e. c.0 ∙ ap (λ v. says (answer v)) e in
    let then : 257 ≤ length o → (v : Reading (List ℕ)) → d ≡ v → r.number ≡ (says (answer (outcome v))).number =
    λ h v e. ap (λ a. a.number) (told (outcome v) (enough d o h ∙ ap outcome e)) in
    record {
      room_first = λ h. ap (λ a. a.number) (told (refuses 111 0) (short d o h));
      field_next = λ h e. then h (refused 112) e;
      length_last = λ h e. then h (refused 113) e;
      else-written = λ s h e. then h (value s) e;
    }
