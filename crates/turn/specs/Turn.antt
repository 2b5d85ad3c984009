-- Both turns: document 01, "Content sheets". "21 comes first, then 22 to 24 as read left to right, 25, 26. Section to sheet: 21, then 1 to 10.
-- Success writes the first n bytes and tells n; later bytes stay."
use Rattle.std.specs.Prelude.{ℕ, List, [], ltb, if◌then◌else◌}
use Rattle.wire.specs.Reading as reading
use Rattle.verdict.specs.Verdict as verdict
use Rattle.section.specs.Reading.{judged}
pub use Rattle.forms.specs.Outcome.{Outcome, gives, refuses, Told, wrote, refused_with, answer, roomAfter}
use Rattle.sheet.specs.Content.{Content}
use Rattle.sheet.specs.Sheet.{sheet_of}
use Rattle.sheet.specs.Section.{section_of, content_of, read_sheet}

-- ---- a sheet into a section

-- the section of a sheet's content, or its refusal
abbrev pub section_from : reading.Reading Content → Outcome
section_from (reading.value c) = gives (section_of c)
section_from (reading.refused k) = refuses k 0

-- "21 room under .. 4,096 (for a section)"; the room has n bytes
unfoldable pub to_section : ℕ → List ℕ → Outcome
to_section n s = if ltb n 4096 then refuses 21 0 else section_from (read_sheet s)

-- ---- a section into a sheet

-- the sheet of a section's content, which every accepted section has
abbrev pub sheet_from : reading.Reading Content → List ℕ
sheet_from (reading.value c) = sheet_of c
sheet_from (reading.refused k) = []

-- the sheet, where the judge accepts; else the judge's refusal: "then 1 to 10"
abbrev pub sheet_if : verdict.Said → List ℕ → Outcome
sheet_if verdict.accepted l = gives l
sheet_if (verdict.refused k p) l = refuses k p

-- "21 room under 5,120 (for a sheet)"
unfoldable pub to_sheet : ℕ → List ℕ → Outcome
to_sheet n s = if ltb n 5120 then refuses 21 0 else sheet_if (judged s) (sheet_from (content_of s))
