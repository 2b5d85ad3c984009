-- `cabinet::sheets::lohitunga_to_sheet` meets its contract.
use mathlib.Core.Path.{ap, ◌∙◌}
use Rattle.cabinet.specs.Sheets.{sheet_says}
use Rattle.cabinet.proofs.sheets.lohitunga_to_sheet.Goals as goal

pub returns : goal.returns
returns c =
    let to_sheet_lem = c.to_sheet in
    (c.sheet_told.ensures ∙ ap sheet_says to_sheet_lem.ensures.0, to_sheet_lem.ensures.1)
