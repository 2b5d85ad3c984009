-- Document 01's numbers for the answers of both turns.
use Rattle.std.specs.Prelude.{ℕ, Result, Ok, Err}
use Rattle.turn.specs.Turn.{Told, wrote, refused_with}
use Rattle.verdict.specs.Verdict as verdict
use Rattle.sheet.specs.declared.Refusal.TheVariants.{Early, Unknown, Wide, After, Long}
use Rattle.turn.specs.declared.SectionRefusal.{SectionRefusal}
use Rattle.turn.specs.declared.SectionRefusal.TheVariants as section
use Rattle.turn.specs.declared.SheetRefusal.{SheetRefusal}
use Rattle.turn.specs.declared.SheetRefusal.TheVariants as sheet

-- the bytes of the section that was written, or why none was
abbrev pub SectionAnswer : Type 0
SectionAnswer = Result ℕ SectionRefusal

-- refusals 21 to 26, and what was written
abbrev pub toldSection : SectionAnswer → Told
toldSection (Ok n) = wrote n
toldSection (Err section.Room) = refused_with 21 0
toldSection (Err (section.Sheet Early)) = refused_with 22 0
toldSection (Err (section.Sheet Unknown)) = refused_with 23 0
toldSection (Err (section.Sheet Wide)) = refused_with 24 0
toldSection (Err (section.Sheet After)) = refused_with 25 0
toldSection (Err (section.Sheet Long)) = refused_with 26 0

-- a section that was refused, as its verdict tells it; the number 0 is never given
abbrev pub toldRefusal : verdict.Said → Told
toldRefusal verdict.accepted = refused_with 0 0
toldRefusal (verdict.refused k p) = refused_with k p

-- the bytes of the sheet that was written, or why none was
abbrev pub SheetAnswer : Type 0
SheetAnswer = Result ℕ SheetRefusal

-- refusals 21, then 1 to 10, and what was written
abbrev pub toldSheet : SheetAnswer → Told
toldSheet (Ok n) = wrote n
toldSheet (Err sheet.Room) = refused_with 21 0
toldSheet (Err (sheet.Section r)) = toldRefusal (verdict.told_refusal r)
