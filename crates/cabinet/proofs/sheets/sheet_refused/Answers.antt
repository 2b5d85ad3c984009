-- `cabinet::sheets::sheet_refused` meets its contract.
use mathlib.Core.Path.{ap}
use Rattle.std.specs.Prelude.{Err}
use Rattle.cabinet.proofs.SheetNumbers.{refused_numbers}
use Rattle.cabinet.proofs.sheets.sheet_refused.Goals as goal

pub returns-in-Section : goal.returns-in-Section
returns-in-Section c = refused_numbers (ap Err c.in-Section.is) c.number.ensures c.place.ensures
