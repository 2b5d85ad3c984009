-- A step by what a section does to a roll, and the marks after a section by its segment.
use Prim.Native.Nat.{ℕ, zero, suc, ◌+◌, ◌/◌}
use mathlib.Core.Path.{◌≡◌, refl, ap, ◌∙◌}
use mathlib.Core.Bool.{Bool, true, false, false≢true}
use mathlib.Core.List.{List}
use native.Mathlib.Omega.{arith}
use lib.Dec.{eqb}
use lib.ListN.{length, get_or, set, length-set}
use Rattle.std.specs.Prelude.{Option, None, Some}
use Rattle.wire.proofs.IfLaws.{if-case}
use Rattle.verdict.specs.Verdict.{is_accepted}
use Rattle.section.specs.Reading.{judged}
use Rattle.head.specs.Head.{number_in, is_current, has_no_sub_table}
use Rattle.roll.specs.Answer.{Says, refusing, told_progress}
use Rattle.roll.specs.Marks.{blank, segment_at, has, with_mark, marked, smallest, smallest_missing}
use Rattle.roll.specs.Segments.{is_schedule, come_or_left_out, smallest_in_segments, ending_by, ending_at, marked_until}
use Rattle.roll.specs.Roll.{another_for, another, starts_afresh, segment_end_in, end_unfit, segment_after, marked_by, begun_with, continued, roll_after}
use Rattle.roll.specs.Roll.{Outcome, answering, answered, asked}
use Rattle.roll.specs.Roll.{taking_current, taking_accepted, taking, Goes, refuses, takes, course_if_current, course_if_accepted, course_of}
use Rattle.roll.specs.declared.Progress.{Progress}
use Rattle.roll.specs.declared.Marks.{Marks}
use Rattle.roll.specs.declared.Segment.{Segment}
use Rattle.roll.specs.declared.Roll.{Roll}
use Rattle.head.specs.declared.SubTable.{SubTable}

abbrev pub outcome : Roll → Says → Outcome
outcome r x = record { roll = r; says = x }

-- a step that answers as the roll does that it gives
pub told_and_asked : (r : Roll) (p : Progress) → told_progress p ≡ asked r → outcome r (told_progress p) ≡ answering r
told_and_asked r p h = ap (outcome r) h

-- one segment put in the place of another
marked_by_put : (m : Marks) (s : List ℕ)
    → ◌≡◌ {A = Marks}
    (record { segments = set m.segments (number_in s / 8) (segment_after (segment_at m (number_in s / 8)) s) })
    (marked_by m s)
unfolding segment_after marked_by marked marked_until
marked_by_put m s = go (is_schedule (get_or s 0 0)) refl
  where
    go : (b : Bool) → is_schedule (get_or s 0 0) ≡ b
        → ◌≡◌ {A = Marks} (record { segments = set m.segments (number_in s / 8) (segment_after (segment_at m (number_in s / 8)) s) })
        (marked_by m s)
    go true e = rw e
    go false e = rw e

pub marked_by_segment : (m : Marks) (s : List ℕ) {n : ℕ} {g : Segment} → n ≡ number_in s → g ≡ segment_after (segment_at m (n / 8)) s
    → ◌≡◌ {A = Marks} (record { segments = set m.segments (n / 8) g }) (marked_by m s)
marked_by_segment m s e is = rw (is, e) (marked_by_put m s)

-- what a section comes to, where this is what it does
abbrev pub came_to : Roll → List ℕ → Goes → Outcome
came_to r s (refuses x) = outcome r x
came_to r s (takes true) = answering (continued r s)
came_to r s (takes false) = answering (begun_with s)

pub taking_by : (r : Roll) (s : List ℕ) → taking r s ≡ came_to r s (course_of r.begun r.sub_table r.version r.last s)
unfolding taking taking_accepted taking_current course_of course_if_accepted course_if_current roll_after another starts_afresh
taking_by r s =
    go (is_accepted (judged s)) (has_no_sub_table s) (another r s) (is_current s) (end_unfit s) (starts_afresh r s) refl refl
    refl refl refl refl
  where
    go : (a n b c f g : Bool) → is_accepted (judged s) ≡ a → has_no_sub_table s ≡ n → another r s ≡ b → is_current s ≡ c → end_unfit s ≡ f
        → starts_afresh r s ≡ g → taking r s ≡ came_to r s (course_of r.begun r.sub_table r.version r.last s)
    go false n b c f g p q u v x y = rw p
    go true true b c f g p q u v x y = rw (p, q)
    go true false true c f g p q u v x y = rw (p, q, u)
    go true false false false f g p q u v x y = rw (p, q, u, v)
    go true false false true true g p q u v x y = rw (p, q, u, v, x)
    go true false false true false true p q u v x y = rw (p, q, u, v, x, y)
    go true false false true false false p q u v x y = rw (p, q, u, v, x, y)

-- ---- what a section can do

-- it goes on with a roll that is begun
pub course_on : (begun : Bool) (kept : SubTable) (version last : ℕ) (s : List ℕ) → course_of begun kept version last s ≡ takes true
    → begun ≡ true
unfolding course_of course_if_accepted course_if_current
course_on begun kept version last s =
    go (is_accepted (judged s)) (has_no_sub_table s) (another_for begun kept s) (is_current s) (end_unfit s) begun
    refl refl refl refl refl refl
  where
    never : {x : Says} → refuses x ≡ takes true → begun ≡ true
    never e = let z : ◌≡◌ {A = ℕ} 0 1 = cc in absurd (omega arith)

    go : (a n b c f g : Bool) → is_accepted (judged s) ≡ a → has_no_sub_table s ≡ n → another_for begun kept s ≡ b → is_current s ≡ c
        → end_unfit s ≡ f → begun ≡ g → course_of begun kept version last s ≡ takes true → begun ≡ true
    go false n b c f g p q u v x y e = never (rw p at e)
    go true true b c f g p q u v x y e = never (rw (p, q) at e)
    go true false true c f g p q u v x y e = never (rw (p, q, u) at e)
    go true false false false f g p q u v x y e = never (rw (p, q, u, v) at e)
    go true false false true true g p q u v x y e = never (rw (p, q, u, v, x) at e)
    go true false false true false true p q u v x y e = y
    go true false false true false false p q u v x y e =
        let h = rw (p, q, y, v, x) at e in
        let z : false ≡ true = cc in
        absurd (false≢true z)

-- what it refuses with is a refusal's number and place
pub course_refusing : (begun : Bool) (kept : SubTable) (version last : ℕ) (s : List ℕ) {x : Says}
    → course_of begun kept version last s ≡ refuses x → (k : ℕ) × (p : ℕ) × (x ≡ refusing k p)
unfolding course_of course_if_accepted course_if_current
course_refusing begun kept version last s {x} =
    go (is_accepted (judged s)) (has_no_sub_table s) (another_for begun kept s) (is_current s) (end_unfit s) refl refl refl refl refl
  where
    same : {k p : ℕ} → refuses (refusing k p) ≡ refuses x → (k : ℕ) × (p : ℕ) × (x ≡ refusing k p)
    same {k} {p} e = (k, p, cc)

    go : (a n b c f : Bool) → is_accepted (judged s) ≡ a → has_no_sub_table s ≡ n → another_for begun kept s ≡ b → is_current s ≡ c
        → end_unfit s ≡ f → course_of begun kept version last s ≡ refuses x → (k : ℕ) × (p : ℕ) × (x ≡ refusing k p)
    go false n b c f p q u v y e = same (rw p at e)
    go true true b c f p q u v y e = same (rw (p, q) at e)
    go true false true c f p q u v y e = same (rw (p, q, u) at e)
    go true false false false f p q u v y e = same (rw (p, q, u, v) at e)
    go true false false true true p q u v y e = same (rw (p, q, u, v, y) at e)
    go true false false true false p q u v y e =
        let h = rw (p, q, u, v, y) at e in
        let z : ◌≡◌ {A = ℕ} 0 1 = cc in
        absurd (omega arith)

-- ---- what is answered is no refusal

smallest_no_refusal : (came : ℕ → Bool) (m n k p : ℕ) → smallest came m n ≡ refusing k p → ⊥
unfolding smallest
smallest_no_refusal came zero n k p e = let z : ◌≡◌ {A = ℕ} 0 1 = cc in omega arith
smallest_no_refusal came (suc m) n k p e =
    if-case (λ x. x ≡ refusing k p → ⊥) (came n) (λ t. smallest_no_refusal came m (n + 1) k p)
    (λ f e. let z : ◌≡◌ {A = ℕ} 0 1 = cc in omega arith) e

answered_no_refusal : (b : Bool) (r : Roll) (k p : ℕ) → answered b r.marks r.last ≡ refusing k p → ⊥
unfolding answered smallest_missing smallest_in_segments
answered_no_refusal true r k p e = smallest_no_refusal (come_or_left_out r.marks r.last) (r.last + 1) 0 k p e
answered_no_refusal false r k p e = smallest_no_refusal (has r.marks) (r.last + 1) 0 k p e

pub asked_no_refusal : (r : Roll) (k p : ℕ) → asked r ≡ refusing k p → ⊥
unfolding asked
asked_no_refusal r k p e =
    if-case (λ x. x ≡ refusing k p → ⊥) r.begun (λ t. answered_no_refusal (is_schedule r.sub_table.table_id) r k p)
    (λ f e. let z : ◌≡◌ {A = ℕ} 0 1 = cc in omega arith) e

-- ---- a segment keeps its eight marks

ending_long : (e : Option ℕ) (g : Segment) (n : ℕ) → length g.came ≡ 8 → length (ending_by e g n).came ≡ 8
unfolding ending_by blank
ending_long None g n h = refl
ending_long (Some f) g n h = if-case (λ (x : Segment). length x.came ≡ 8) (eqb f n) (λ _. h) (λ _. refl)

pub segment_after_long : (g : Segment) (s : List ℕ) → length g.came ≡ 8 → length (segment_after g s).came ≡ 8
unfolding segment_after with_mark
segment_after_long g s h =
    if-case (λ (x : Segment). length x.came ≡ 8) (is_schedule (get_or s 0 0))
    (λ _. length-set (ending_at g (segment_end_in s)).came _ true ∙ ending_long g.end g (segment_end_in s) h)
    (λ _. length-set g.came _ true ∙ h)
