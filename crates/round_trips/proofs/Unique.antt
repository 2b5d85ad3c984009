-- Each promise allows one answer: two answers that tell the same are the same.
use mathlib.Core.Path.{◌≡◌, refl, sym, ap, ◌∙◌}
use lib.Dec.{eqb}
use Rattle.std.specs.Prelude.{if◌then◌else◌, Ok, Err}
use Rattle.verdict.specs.Verdict.{Verdict}
use Rattle.verdict.proofs.Unique.{verdict_of, verdict_back}
use Rattle.verdict.specs.declared.Refusal.TheVariants as variants
use Rattle.sheet.specs.declared.Refusal.TheVariants.{Early, Unknown, Wide, After, Long}
use Rattle.turn.specs.Turn.{Told, wrote, refused_with}
use Rattle.turn.specs.Answers.{SectionAnswer, SheetAnswer, toldSection, toldSheet}
use Rattle.turn.specs.declared.SectionRefusal.TheVariants as section
use Rattle.turn.specs.declared.SheetRefusal.TheVariants as sheet

-- the answer that tells it
section_by : Told → SectionAnswer
section_by (wrote n) = Ok n
section_by (refused_with k p) =
    if eqb k 21 then Err section.Room
    else if eqb k 22 then Err (section.Sheet Early)
    else if eqb k 23 then Err (section.Sheet Unknown)
    else if eqb k 24 then Err (section.Sheet Wide)
    else if eqb k 25 then Err (section.Sheet After)
    else Err (section.Sheet Long)

section_back : (a : SectionAnswer) → section_by (toldSection a) ≡ a
unfolding section_by
section_back (Ok n) = refl
section_back (Err section.Room) = refl
section_back (Err (section.Sheet Early)) = refl
section_back (Err (section.Sheet Unknown)) = refl
section_back (Err (section.Sheet Wide)) = refl
section_back (Err (section.Sheet After)) = refl
section_back (Err (section.Sheet Long)) = refl

pub section_once : (a b : SectionAnswer) → toldSection a ≡ toldSection b → a ≡ b
section_once a b e = sym (section_back a) ∙ ap section_by e ∙ section_back b

-- the answer to a section of that verdict, where it is refused
abbrev of_verdict : Verdict → SheetAnswer
of_verdict (Ok x) = Ok 0
of_verdict (Err r) = Err (sheet.Section r)

sheet_by : Told → SheetAnswer
sheet_by (wrote n) = Ok n
sheet_by (refused_with k p) = if eqb k 21 then Err sheet.Room else of_verdict (verdict_of k p)

-- no verdict has the number 21
sheet_back : (a : SheetAnswer) → sheet_by (toldSheet a) ≡ a
unfolding sheet_by
sheet_back (Ok n) = refl
sheet_back (Err sheet.Room) = refl
sheet_back (Err (sheet.Section variants.TooShort)) = ap of_verdict (verdict_back (Err variants.TooShort))
sheet_back (Err (sheet.Section variants.UnknownTable)) = ap of_verdict (verdict_back (Err variants.UnknownTable))
sheet_back (Err (sheet.Section variants.WrongSyntax)) = ap of_verdict (verdict_back (Err variants.WrongSyntax))
sheet_back (Err (sheet.Section variants.LengthOutside)) = ap of_verdict (verdict_back (Err variants.LengthOutside))
sheet_back (Err (sheet.Section variants.SizeDiffers)) = ap of_verdict (verdict_back (Err variants.SizeDiffers))
sheet_back (Err (sheet.Section variants.CrcFails)) = ap of_verdict (verdict_back (Err variants.CrcFails))
sheet_back (Err (sheet.Section variants.NumberAboveLast)) = ap of_verdict (verdict_back (Err variants.NumberAboveLast))
sheet_back (Err (sheet.Section (variants.LoopPast p))) = ap of_verdict (verdict_back (Err (variants.LoopPast p)))
sheet_back (Err (sheet.Section (variants.DescriptorPast p))) = ap of_verdict (verdict_back (Err (variants.DescriptorPast p)))
sheet_back (Err (sheet.Section (variants.BytesLeft p))) = ap of_verdict (verdict_back (Err (variants.BytesLeft p)))

pub sheet_once : (a b : SheetAnswer) → toldSheet a ≡ toldSheet b → a ≡ b
sheet_once a b e = sym (sheet_back a) ∙ ap sheet_by e ∙ sheet_back b
