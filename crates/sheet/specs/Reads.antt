-- What the judge of sheets says.
use Rattle.std.specs.Prelude.{ℕ, List, Result, Ok, Err}
use Rattle.wire.specs.Reading.{Reading, value, refused, ◌>>=◌}
use Rattle.forms.specs.Form.{Form}
use Rattle.forms.specs.Fields.{Field, sheet_field}
use Rattle.sheet.specs.Section.{section_length, read_sheet_for}
use Rattle.sheet.specs.declared.Refusal.{Refusal}
use Rattle.sheet.specs.declared.Refusal.TheVariants.{Early, Unknown, Wide, After, Long}

-- the section_length that a sheet's section has, or why it is none
abbrev pub Judged : Type 0
Judged = Result ℕ Refusal

-- document 01's number for every refusal
abbrev pub told_refusal : Refusal → Reading ℕ
told_refusal Early = refused 22
told_refusal Unknown = refused 23
told_refusal Wide = refused 24
told_refusal After = refused 25
told_refusal Long = refused 26

-- and for every answer; of a sheet that is accepted, the section_length that its section has
abbrev pub told : Judged → Reading ℕ
told (Ok n) = value n
told (Err r) = told_refusal r

-- "22 to 24 as read left to right, 25, 26"
unfoldable pub judged_for : (Field → Form ℕ) → List ℕ → Reading ℕ
judged_for field s = read_sheet_for field s >>= λ c. value (section_length c)

-- of document 01's sheets
abbrev pub judged_sheet : List ℕ → Reading ℕ
judged_sheet = judged_for sheet_field
