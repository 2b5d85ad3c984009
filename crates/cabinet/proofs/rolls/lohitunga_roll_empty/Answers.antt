-- The empty roll in numbers.
use mathlib.Core.Path.{refl}
use Rattle.roll.specs.Marks.{blank, segment_at, has, unmarked}
use Rattle.roll.specs.Roll.{empty_roll}
use Rattle.cabinet.specs.Table.{table}
use Rattle.cabinet.specs.Roll.{known_says, end_says, roll_says}
use Rattle.cabinet.proofs.rolls.lohitunga_roll_empty.Goals as goal

pub returns : goal.returns
unfolding roll_says empty_roll unmarked blank has segment_at table known_says end_says
returns c = refl
