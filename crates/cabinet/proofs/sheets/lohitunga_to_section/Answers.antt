-- `cabinet::sheets::lohitunga_to_section` meets its contract.
use mathlib.Core.Path.{ap, ◌∙◌}
use Rattle.cabinet.specs.Sheets.{section_says}
use Rattle.cabinet.proofs.sheets.lohitunga_to_section.Goals as goal

pub returns : goal.returns
returns c =
    let to_section_lem = c.to_section in
    (c.section_told.ensures ∙ ap section_says to_section_lem.ensures.0, to_section_lem.ensures.1)
