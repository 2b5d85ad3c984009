-- What a section can hold, and that the sections which are accepted are the sections of such contents.
use Rattle.std.specs.Prelude.{ℕ, ◌≤◌, ◌<◌, ◌≡◌, ◌↔◌, List, length}
use Rattle.wire.specs.Bytes.{Bytes}
use Rattle.tables.specs.Tables.{row_at}
use Rattle.verdict.specs.Verdict.{accepted}
use Rattle.section.specs.Reading.{judged}
use Rattle.forms.specs.Fields.{Fit}
use Rattle.sheet.specs.Content.{frame, Content, frame_of, body_of, row_in, rest_in}
use Rattle.sheet.specs.Section.{section_entries, section_body, section_length, section_of}

-- the bytes of the entries
abbrev pub entries_bytes : Content → List ℕ
entries_bytes c = (section_entries (row_in c) 0).show (rest_in c)

-- the table is known, each value fits its place, and section_length is not above its row
pub record Holds (c : Content) : Type 0 where
  pub known : row_in c < 6
  pub frame_fits : Fit frame (frame_of c)
  pub body : (section_body (row_in c) (length (entries_bytes c))).Ok (body_of c)
  pub most : section_length c ≤ (row_at (row_in c)).most

-- the judge, which knows nothing of contents, accepts the sections of such contents and no other bytes
abbrev pub SectionsOfContents : Type 0
SectionsOfContents = (s : List ℕ) → Bytes s → (judged s ≡ accepted) ↔ ((c : Content) × Holds c × (section_of c ≡ s))
