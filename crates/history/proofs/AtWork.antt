-- Each story of `specs/AtWork.antt`, computed.
use mathlib.Core.Path.{refl}
use mathlib.Core.List.{flatten}
use Rattle.packet.specs.Ruling.{joins, repeats}
use Rattle.collector.specs.Rules.{size_of}
use Rattle.packet.specs.Refusals.{judged}
use Rattle.collector.specs.Refusals.{cannot_stand}
use Rattle.tables.specs.Tables.{row_of, cell, first, holds}
use Rattle.section.specs.Reading.{◌and_then◌, plain, inside, opening, wrong_syntax, length_outside, size_differs, crc_fails, above_last, header, read}
use Rattle.section.specs.Reading.{judged as verdict}
use Rattle.history.specs.AtWork.{RejectedLeavesRooms, AtWork}

pub at_work : AtWork
unfolding judged size_of joins repeats cannot_stand flatten verdict read opening ◌and_then◌ row_of first holds cell header
    wrong_syntax length_outside size_differs crc_fails above_last inside plain
at_work = refl

pub rejected_leaves_rooms : RejectedLeavesRooms
unfolding judged size_of joins repeats cannot_stand flatten verdict read opening ◌and_then◌ row_of first holds cell header
    wrong_syntax length_outside size_differs crc_fails above_last inside plain
rejected_leaves_rooms = refl
