-- The roll after a section that is taken, in flat numbers: those of the roll beneath.
use Prim.Native.Nat.{ℕ, ◌/◌, ◌<◌}
use mathlib.Core.Path.{◌≡◌, refl, sym, ap, ap₂, ◌∙◌}
use mathlib.Core.Bool.{Bool, true, false}
use mathlib.Core.List.{List}
use native.Mathlib.Omega.{arith}
use lib.ListN.{length, get_or, set, length-set}
use Rattle.std.specs.Prelude.{if◌then◌else◌}
use Rattle.head.specs.Head.{number_in}
use Rattle.roll.specs.Answer.{Says, missing, complete, refusing}
use Rattle.roll.specs.Marks.{segment_at, has, unmarked}
use Rattle.roll.specs.Segments.{is_schedule}
use Rattle.roll.specs.Roll.{segment_after, marked_by, begun_with, continued, answered, asked, answering, Goes, refuses, takes, course_of}
use Rattle.roll.proofs.Outcomes.{marked_by_segment, segment_after_long, came_to, taking_by, course_refusing, asked_no_refusal}
use Rattle.roll.specs.declared.Roll as of
use Rattle.roll.specs.declared.Marks.{Marks}
use Rattle.roll.specs.declared.Segment.{Segment}
use Rattle.cabinet.specs.Numbers.{bit, is_set}
use Rattle.cabinet.specs.Table.{table}
use Rattle.cabinet.specs.Roll.{known_says, end_says, ends_in, sub_table_in, roll_in, roll_says, roll_answer, keeps, holds, outcome_says, rolling}
use Rattle.cabinet.specs.Inner.Rolls.{flags_kept, numbersOf, known_kept, ends_settled, eight_of, with_eight, segment_in, marks_of, after_taking, kept_of, saying}
use Rattle.cabinet.proofs.TableLaws.{table_long}
use Rattle.cabinet.proofs.FlatMarks.{flat_put, put_settled, segment_of_lem, flags_long, known_long, ends_long, kept_settled, marks_kept, came_says, known_says_lem, ends_say}
use Rattle.cabinet.specs.declared.rolls.Roll.{Roll}
use Rattle.cabinet.specs.declared.rolls.RollAnswer.{RollAnswer}
use Rattle.roll.specs.declared.Kept.{Kept}

module _ (r : Roll) (keep : Bool) (s : List ℕ) (small : number_in s < 256) (begun : keep ≡ true → is_set r.begun ≡ true) where
  -- the numbers that are kept
  abbrev flags₀ : List Bool
  flags₀ = flags_kept keep r.came

  abbrev known₀ : List ℕ
  known₀ = known_kept keep r.known

  abbrev ends₀ : List ℕ
  ends₀ = ends_settled known₀ r.end

  -- the section's segment, and what it becomes
  abbrev k : ℕ
  k = number_in s / 8

  abbrev segment : Segment
  segment = segment_after (segment_in flags₀ (get_or known₀ k 0) (get_or ends₀ k 0) k) s

  -- the numbers with it
  abbrev flags₁ : List Bool
  flags₁ = with_eight flags₀ k segment.came

  abbrev known₁ : List ℕ
  known₁ = set known₀ k (known_says segment.end)

  abbrev ends₁ : List ℕ
  ends₁ = set ends₀ k (end_says segment.end)

  -- the roll after the section
  abbrev after : of.Roll
  after = after_taking r keep s

  segment_long : length segment.came ≡ 8
  unfolding eight_of
  segment_long = segment_after_long (segment_in flags₀ (get_or known₀ k 0) (get_or ends₀ k 0) k) s (table_long 8 _)

  marked_kept : marked_by (if keep then (roll_in r).marks else unmarked) s ≡ after.marks
  unfolding continued begun_with
  marked_kept = go keep
    where
      go : (b : Bool) → marked_by (if b then (roll_in r).marks else unmarked) s ≡
          (if b then continued (roll_in r) s else begun_with s).marks
      go true = refl
      go false = refl

  marks_after : marks_of flags₁ known₁ ends₁ ≡ after.marks
  unfolding roll_in
  marks_after =
      let kept = marks_of flags₀ known₀ ends₀ in
      sym (flat_put flags₀ known₀ ends₀ k segment (flags_long keep r.came r.known r.end)
      (known_long keep r.came r.known r.end) (ends_long keep r.came r.known r.end) segment_long (omega arith))
      ∙ marked_by_segment kept s refl (ap (λ (g : Segment). segment_after g s) (sym (segment_of_lem flags₀ known₀ ends₀ k (omega arith))))
      ∙ ap (λ (m : Marks). marked_by m s) (marks_kept keep r.came r.known r.end) ∙ marked_kept

  settled : (j : ℕ) → j < 32 → (get_or known₁ j 0 ≡ known_says (ends_in known₁ ends₁ j)) ×
      (get_or ends₁ j 0 ≡ end_says (ends_in known₁ ends₁ j))
  settled =
      put_settled flags₀ known₀ ends₀ k segment (flags_long keep r.came r.known r.end)
      (known_long keep r.came r.known r.end) (ends_long keep r.came r.known r.end) segment_long (omega arith)
      (kept_settled keep r.came r.known r.end)

  -- known and end as lists keep their length
  known_size : length known₁ ≡ 32
  known_size = length-set known₀ k (known_says segment.end) ∙ known_long keep r.came r.known r.end

  ends_size : length ends₁ ≡ 32
  ends_size = length-set ends₀ k (end_says segment.end) ∙ ends_long keep r.came r.known r.end

  -- the roll after the section, where its marks are these numbers
  abbrev with_numbers : List ℕ → List ℕ → List ℕ → Roll
  with_numbers came known ends = record {
    begun = bit (kept_of after).begun;
    table_id = (kept_of after).sub_table.table_id;
    extension = (kept_of after).sub_table.extension;
    transport_stream_id = (kept_of after).sub_table.transport_stream_id;
    original_network_id = (kept_of after).sub_table.original_network_id;
    version = (kept_of after).version;
    last = (kept_of after).last;
    came = came;
    known = known;
    end = ends;
  }

  numbers_say : with_numbers (numbersOf flags₁) known₁ ends₁ ≡ roll_says after
  unfolding roll_says
  numbers_say =
      ap (λ (l : List ℕ). with_numbers l known₁ ends₁) (came_says flags₁ known₁ ends₁ known_size ends_size settled
      ∙ ap (λ (m : Marks). table 256 (λ n. bit (has m n))) marks_after)
      ∙ ap (λ (l : List ℕ). with_numbers (table 256 (λ n. bit (has after.marks n))) l ends₁)
      (known_says_lem flags₁ known₁ ends₁ known_size ends_size settled
      ∙ ap (λ (m : Marks). table 32 (λ j. known_says (segment_at m j).end)) marks_after)
      ∙ ap
      (with_numbers (table 256 (λ n. bit (has after.marks n))) (table 32 (λ j. known_says (segment_at after.marks j).end)))
      (ends_say flags₁ known₁ ends₁ known_size ends_size settled
      ∙ ap (λ (m : Marks). table 32 (λ j. end_says (segment_at m j).end)) marks_after)

  after_begun : after.begun ≡ true
  unfolding continued begun_with roll_in
  after_begun = go keep refl
    where
      go : (b : Bool) → keep ≡ b → (if b then continued (roll_in r) s else begun_with s).begun ≡ true
      go true e = begun e
      go false e = refl

  asked_after : answered (is_schedule after.sub_table.table_id) (marks_of flags₁ known₁ ends₁) after.last ≡ asked after
  unfolding asked
  asked_after =
      rw after_begun (ap (λ (m : Marks). answered (is_schedule after.sub_table.table_id) m after.last) marks_after)

  -- what the code makes, step by step, is the roll after the section and its answer
  pub taken_says : {f₀ f₁ : List Bool} {k₀ e₀ c : List ℕ} {n i e u : ℕ} {g₀ g : Segment} {h : Kept} {b : Bool} {x : Says} {a : RollAnswer}
      → f₀ ≡ flags_kept keep r.came → k₀ ≡ known_kept keep r.known → e₀ ≡ ends_settled k₀ r.end → n ≡ number_in s
      → g₀ ≡ segment_in f₀ (get_or k₀ (n / 8) 0) (get_or e₀ (n / 8) 0) (n / 8) → g ≡ segment_after g₀ s
      → f₁ ≡ with_eight f₀ (n / 8) g.came → i ≡ known_says g.end → e ≡ end_says g.end → h ≡ kept_of after → u ≡ bit h.begun
      → b ≡ is_schedule h.sub_table.table_id → x ≡ answered b (marks_of f₁ (set k₀ (n / 8) i) (set e₀ (n / 8) e)) h.last
      → c ≡ numbersOf f₁ → a ≡ roll_answer x
      → holds (record {
        begun = u;
        table_id = h.sub_table.table_id;
        extension = h.sub_table.extension;
        transport_stream_id = h.sub_table.transport_stream_id;
        original_network_id = h.sub_table.original_network_id;
        version = h.version;
        last = h.last;
        came = c;
        known = set k₀ (n / 8) i;
        end = set e₀ (n / 8) e;
      }) a ≡ saying after
  taken_says p₀ p₁ p₂ p₃ p₄ p₅ p₆ p₇ p₈ p₉ q q₀ q₁ q₂ q₃ =
      rw (q₃, q₂, q₁, q₀, q, p₉, p₈, p₇, p₆, p₅, p₄, p₃, p₂, p₁, p₀) (ap₂ holds numbers_say (ap roll_answer asked_after))

-- ---- a section, by what it does

beneath : (r : Roll) (s : List ℕ) {x : Goes} → course_of (is_set r.begun) (sub_table_in r) r.version r.last s ≡ x
    → outcome_says r (came_to (roll_in r) s x) ≡ rolling r s
unfolding rolling roll_in
beneath r s e = ap (outcome_says r) (sym (taking_by (roll_in r) s ∙ ap (came_to (roll_in r) s) e))

refusal_keeps : (r : Roll) (q : of.Roll) (x : Says) (k p : ℕ) → x ≡ refusing k p → r ≡ keeps r q x
refusal_keeps r q x k p e = rw e

answer_alters : (r : Roll) (q : of.Roll) (x : Says) → ((k p : ℕ) → x ≡ refusing k p → ⊥) → roll_says q ≡ keeps r q x
answer_alters r q (missing n) h = refl
answer_alters r q complete h = refl
answer_alters r q (refusing k p) h = absurd (h k p refl)

-- a refusal leaves every number
pub refused_says : (r : Roll) (s : List ℕ) {x : Says} → course_of (is_set r.begun) (sub_table_in r) r.version r.last s ≡ refuses x
    → holds r (roll_answer x) ≡ rolling r s
refused_says r s {x} e =
    let is = course_refusing (is_set r.begun) (sub_table_in r) r.version r.last s e in
    ap (λ (q : Roll). holds q (roll_answer x)) (refusal_keeps r (roll_in r) x is.0 is.1 is.2) ∙ beneath r s e

-- one that is taken leaves those of the roll after it
pub answering_says : (r : Roll) (s : List ℕ) (keep : Bool)
    → course_of (is_set r.begun) (sub_table_in r) r.version r.last s ≡ takes keep → saying (after_taking r keep s) ≡ rolling r s
answering_says r s keep e =
    let q = after_taking r keep s in
    ap (λ (x : Roll). holds x (roll_answer (asked q))) (answer_alters r q (asked q) (asked_no_refusal q))
    ∙ ap (outcome_says r) (sym (came_to_lem keep)) ∙ beneath r s e
  where
    came_to_lem : (b : Bool) → came_to (roll_in r) s (takes b) ≡ answering (after_taking r b s)
    came_to_lem true = refl
    came_to_lem false = refl
