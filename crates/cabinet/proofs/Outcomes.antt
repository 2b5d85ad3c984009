-- The outcomes in numbers are those of the operations beneath; and a refusal leaves every number.
use mathlib.Core.Path.{◌≡◌, refl, sym, ap, ◌∙◌}
use mathlib.Core.Bool.{Bool, true, false, not}
use mathlib.Core.List.{List}
use Prim.Native.Nat.{ℕ}
use lib.ListN.{length}
use lib.Dec.{eqb}
use borrow.Author.Tests.{eqb-true}
use Rattle.wire.proofs.IfLaws.{if-case}
use Rattle.collector.specs.Answer as collector
use Rattle.packet.specs.Ruling.{Ruling, refuses, repeated, bare, takes, ruling}
use Rattle.collector.specs.Refusals.{before_of, cannot_stand, too_small}
use Rattle.collector.specs.Collected.{unaltered, outcome_of, collected}
use Rattle.collector.specs.declared.Record as of-collector
use Rattle.roll.specs.Answer.{Says, missing, complete, refusing}
use Rattle.roll.specs.Roll as roll
use Rattle.roll.specs.Roll.{taking}
use Rattle.roll.specs.declared.Roll as of-roll
use Rattle.cabinet.specs.Collect.{last_in, last_says, mark_in, mark_says, counted_in, numbers_with, record_in, record_after, collect_says, collecting}
use Rattle.cabinet.specs.Collect as Collect
use Rattle.cabinet.specs.Roll.{roll_in, rolling}
use Rattle.cabinet.specs.Roll as Roll
use Rattle.cabinet.specs.declared.collect.Record.{Record}
use Rattle.cabinet.specs.declared.rolls.Roll as numbers

-- what the collector makes of the record that the numbers stand for
pub collecting_is : (r : Record) (hold out packet : List ℕ) {r' : of-collector.Record} {o : collector.Outcome}
    → r' ≡ record_in r → o ≡ collected r' hold out packet
    → Collect.outcome_says r o ≡ collecting r hold out packet
unfolding collecting
collecting_is r hold out packet e is =
    ap (Collect.outcome_says r) is
    ∙ ap (λ (x : of-collector.Record). Collect.outcome_says r (collected x hold out packet)) e

-- what the roll that the numbers stand for makes of a section
pub rolling_is : (r : numbers.Roll) (s : List ℕ) {r' : of-roll.Roll} {o : roll.Outcome} → r' ≡ roll_in r
    → o ≡ taking r' s → Roll.outcome_says r o ≡ rolling r s
unfolding rolling
rolling_is r s e is = ap (Roll.outcome_says r) is ∙ ap (λ (x : of-roll.Roll). Roll.outcome_says r (taking x s)) e

pub last_kept : (n : ℕ) → last_says (last_in n) ≡ n
last_kept n = if-case (λ l. last_says l ≡ n) (eqb n 255) (λ is. sym (eqb-true n 255 is)) (λ other. refl)

-- a number that keeps its meaning is kept
pub mark_kept : (n : ℕ) → mark_says n (mark_in n) ≡ n
mark_kept n = kept (eqb n 0) refl
  where
    kept : (t : Bool) → eqb n 0 ≡ t → mark_says n (not t) ≡ n
    kept true is = sym (eqb-true n 0 is)
    kept false is = rw (is)

-- every record of numbers stands for one of the collector's and is the numbers of that: what the collector leaves
-- unaltered is unaltered here
pub record_kept : (r : Record) → record_after r (record_in r) ≡ r
record_kept r =
    λ i. numbers_with r.pid (last_kept r.last i) (mark_kept r.mark i) r.rejection r.in_hand
    (λ k. counted_in k r)

-- ---- "the record and all lent room unaltered"

unaltered_by : (x : of-collector.Record) (hold out : List ℕ) (ruled : Ruling)
    → let a = collect_says (outcome_of x hold out ruled).said in (a.number ≡ 0 → a.repeated ≡ 0 → ⊥)
    → outcome_of x hold out ruled ≡ unaltered x hold out (outcome_of x hold out ruled).said
unaltered_by x hold out (refuses n) h = refl
unaltered_by x hold out repeated h = refl
unaltered_by x hold out (bare splice) h = absurd (h refl refl)
unaltered_by x hold out (takes q) h = absurd (h refl refl)

unaltered_unless : (r : Record) (hold out packet : List ℕ) → let o = collecting r hold out packet in
    (o.answer.number ≡ 0 → o.answer.repeated ≡ 0 → ⊥) → o ≡ Collect.leaves r hold out o.answer
unfolding collecting
unaltered_unless r hold out packet h =
    let x = record_in r in
    let ruled = ruling (too_small (length hold) (length out)) (cannot_stand x hold) x.pid (before_of x) packet in
    ap (Collect.outcome_says r) (unaltered_by x hold out ruled h)
    ∙ ap (λ (y : Record). Collect.leaves y hold out (collect_says (outcome_of x hold out ruled).said))
    (record_kept r)

-- a call that gives a number alters nothing that was lent
pub collect_refused : (r : Record) (hold out packet : List ℕ) → ((collecting r hold out packet).answer.number ≡ 0 → ⊥)
    → collecting r hold out packet ≡ Collect.leaves r hold out (collecting r hold out packet).answer
collect_refused r hold out packet h = unaltered_unless r hold out packet (λ e _. h e)

-- nor does one whose packet is repeated: "nothing changes"
pub collect_repeated : (r : Record) (hold out packet : List ℕ) → ((collecting r hold out packet).answer.repeated ≡ 0 → ⊥)
    → collecting r hold out packet ≡ Collect.leaves r hold out (collecting r hold out packet).answer
collect_repeated r hold out packet h = unaltered_unless r hold out packet (λ _ e. h e)

kept_by : (r : numbers.Roll) (after : of-roll.Roll) (says : Says) → ((Roll.roll_answer says).number ≡ 0 → ⊥) → Roll.keeps r after says ≡ r
kept_by r after (missing n) h = absurd (h refl)
kept_by r after complete h = absurd (h refl)
kept_by r after (refusing k p) h = refl

pub roll_refused : (r : numbers.Roll) (s : List ℕ) → ((rolling r s).answer.number ≡ 0 → ⊥) → (rolling r s).roll ≡ r
unfolding rolling
roll_refused r s h = kept_by r (taking (roll_in r) s).roll (taking (roll_in r) s).says h
