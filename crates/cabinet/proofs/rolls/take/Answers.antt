-- The section is taken by the roll that the numbers stand for.
use Prim.Native.Nat.{ℕ}
use mathlib.Core.Path.{◌≡◌, sym, ap, ◌∙◌}
use mathlib.Core.List.{List}
use Rattle.roll.specs.Roll.{Goes, takes, told_course, course_of}
use Rattle.roll.proofs.Outcomes.{course_on}
use Rattle.roll.specs.declared.Kept.{Kept}
use Rattle.cabinet.specs.Numbers.{is_set}
use Rattle.cabinet.specs.Roll.{sub_table_in, roll_in, holds}
use Rattle.cabinet.specs.Inner.Rolls.{kept_of}
use Rattle.cabinet.proofs.RollTaken.{refused_says, answering_says}
use Rattle.cabinet.specs.declared.rolls.Roll.{Roll}
use Rattle.cabinet.proofs.rolls.take.Goals as goal

-- what the section does to the roll that the numbers stand for
does : (r : Roll) (s : List ℕ) {k : Kept} {x : Goes} → k ≡ kept_of (roll_in r) → x ≡ course_of k.begun k.sub_table k.version k.last s
    → course_of (is_set r.begun) (sub_table_in r) r.version r.last s ≡ x
unfolding roll_in
does r s is e = sym (e ∙ ap (λ (k : Kept). course_of k.begun k.sub_table k.version k.last s) is)

pub taken-requires : goal.taken-requires
taken-requires c keep =
    let args = c.args in
    course_on (is_set args.roll.begun) (sub_table_in args.roll) args.roll.version args.roll.last args.section.now
    (does args.roll args.section.now c.kept_in.ensures c.course_of.ensures ∙ ap told_course c.in-Ok.is ∙ ap takes keep)

pub returns-in-Err : goal.returns-in-Err
returns-in-Err c =
    let args = c.args in
    ap (holds args.roll) c.refusal_says.ensures
    ∙ refused_says args.roll args.section.now
    (does args.roll args.section.now c.kept_in.ensures c.course_of.ensures ∙ ap told_course c.in-Err.is)

pub returns-in-Ok : goal.returns-in-Ok
returns-in-Ok c =
    let args = c.args in
    c.taken.ensures
    ∙ answering_says args.roll args.section.now _
    (does args.roll args.section.now c.kept_in.ensures c.course_of.ensures ∙ ap told_course c.in-Ok.is)
