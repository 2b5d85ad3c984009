-- `turn::heads::common` meets its contract.
use mathlib.Core.List.{◌∷◌}
use lib.ListN.{drop}
use Rattle.tables.specs.Tables.{place}
use Rattle.sheet.specs.Content.{plain, numbers, version, head_of}
use Rattle.turn.specs.Inner.Fields.{versioned}
use Rattle.turn.proofs.HeadLaws.{an_item, plain_item, numbers_item}
use Rattle.turn.proofs.heads.common.Goals as goal

pub returns : goal.returns
returns c =
    let forth = c.args.forth in
    let more = drop 3 (head_of (place c.args.table)) in
    an_item forth (plain 2) (version ∷ numbers ∷ more) (plain_item forth 2 c.plain-version.ensures)
    (an_item forth version (numbers ∷ more) (c.packed-numbers.ensures.turned versioned)
    (an_item forth numbers more (numbers_item forth c.plain-more.ensures) c.ids.ensures))
