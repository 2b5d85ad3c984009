-- What both turns of content sheets answer, in numbers.
use Rattle.turn.specs.Turn.{Told, wrote, refused_with}
use Rattle.cabinet.specs.declared.sheets.SheetAnswer.{SheetAnswer}
use Rattle.cabinet.specs.declared.sheets.SectionAnswer.{SectionAnswer}

-- the bytes written; or the refusal's number and place
abbrev pub sheet_says : Told → SheetAnswer
sheet_says (wrote n) = record { number = 0; place = 0; size = n }
sheet_says (refused_with k p) = record { number = k; place = p; size = 0 }

-- refusals 21 to 26 have no place
abbrev pub section_says : Told → SectionAnswer
section_says (wrote n) = record { number = 0; size = n }
section_says (refused_with k p) = record { number = k; size = 0 }
