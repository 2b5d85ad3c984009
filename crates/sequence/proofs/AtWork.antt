-- The roll at work, from an empty roll: each refusal of its own, the smallest number missing, complete, a fresh start by
-- another version or last number, and each id of a sub-table; schedules by their segments, also of rolls made by hand. So
-- what the theorems over sequences ask can be met.
use Prim.Native.Nat.{ℕ}
use mathlib.Core.Path.{◌≡◌, refl}
use mathlib.Core.Bool.{true}
use mathlib.Core.List.{List, [], ◌∷◌}
use lib.ListN.{replicate}
use Rattle.crc.specs.Crc.{crc, feed, feed_bits, feed_bytes}
use Rattle.tables.specs.Tables.{cell, holds, first, row_of}
use Rattle.wire.specs.Number.{number_at}
use Rattle.wire.specs.Trail.{run, trail}
use Rattle.loops.specs.Descriptors.{descriptors}
use Rattle.section.specs.Entries.{entries}
use Rattle.section.specs.Reading.{◌and_then◌, fills, leaves_room, second_loop, two_loops, topped, plain, inside}
use Rattle.section.specs.Reading.{wrong_syntax, length_outside, size_differs, crc_fails, above_last, header, read, judged, opening as opened}
use Rattle.roll.specs.Answer.{missing, complete, refusing}
use Rattle.roll.specs.Marks.{blank, segment_at, has, unmarked, with_mark, marked, smallest, smallest_missing}
use Rattle.roll.specs.Segments.{is_schedule, counting, end_at, came_by, left_out_by, come_or_left_out, smallest_in_segments, ending_by, marked_until}
use Rattle.head.specs.SubTable.{ids_that_count, network_in, sub_table_of, compared, same_ids}
use Rattle.head.specs.Head.{version_in, is_current, has_no_sub_table}
use Rattle.roll.specs.Roll.{another, starts_afresh, end_unfit, marked_by, begun_with, continued, roll_after, answered, asked, taking_current, taking_accepted, taking, empty_roll}
use Rattle.sequence.specs.Alike.{answers_to}
use Rattle.sequence.specs.Sequence.{unrefused, taken_of}
use Rattle.roll.specs.declared.Roll.{Roll}
use Rattle.std.specs.Prelude.{Option, None, Some}

-- the time and date table of the worked values
pub tdt : List ℕ
tdt = 0x70 ∷ 0x70 ∷ 0x05 ∷ 0xC0 ∷ 0x79 ∷ 0x12 ∷ 0x45 ∷ 0x00 ∷ []

-- a network information table to come: section 1 of 0 to 1, version 5
pub coming : List ℕ
coming =
    0x40 ∷ 0xF0 ∷ 0x0D ∷ 0x00 ∷ 0x01 ∷ 0xCA ∷ 0x01 ∷ 0x01 ∷ 0xF0 ∷ 0x00 ∷ 0xF0 ∷ 0x00
    ∷ 0xCB ∷ 0x60 ∷ 0x2D ∷ 0x22 ∷ []

-- the same, current
pub second : List ℕ
second =
    0x40 ∷ 0xF0 ∷ 0x0D ∷ 0x00 ∷ 0x01 ∷ 0xCB ∷ 0x01 ∷ 0x01 ∷ 0xF0 ∷ 0x00 ∷ 0xF0 ∷ 0x00
    ∷ 0x84 ∷ 0x37 ∷ 0x45 ∷ 0x33 ∷ []

-- of another network, and to come
pub other : List ℕ
other =
    0x40 ∷ 0xF0 ∷ 0x0D ∷ 0x00 ∷ 0x02 ∷ 0xCA ∷ 0x00 ∷ 0x01 ∷ 0xF0 ∷ 0x00 ∷ 0xF0 ∷ 0x00
    ∷ 0x3C ∷ 0xAA ∷ 0x45 ∷ 0x04 ∷ []

-- section 0
pub opening : List ℕ
opening =
    0x40 ∷ 0xF0 ∷ 0x0D ∷ 0x00 ∷ 0x01 ∷ 0xCB ∷ 0x00 ∷ 0x01 ∷ 0xF0 ∷ 0x00 ∷ 0xF0 ∷ 0x00
    ∷ 0x9F ∷ 0x1F ∷ 0x48 ∷ 0x4B ∷ []

-- section 0, version 3
pub lower : List ℕ
lower =
    0x40 ∷ 0xF0 ∷ 0x0D ∷ 0x00 ∷ 0x01 ∷ 0xC7 ∷ 0x00 ∷ 0x01 ∷ 0xF0 ∷ 0x00 ∷ 0xF0 ∷ 0x00
    ∷ 0xD5 ∷ 0xBA ∷ 0x8E ∷ 0x5E ∷ []

-- section 0, version 21: 5 and 16
unfoldable pub higher : List ℕ
higher =
    0x40 ∷ 0xF0 ∷ 0x0D ∷ 0x00 ∷ 0x01 ∷ 0xEB ∷ 0x00 ∷ 0x01 ∷ 0xF0 ∷ 0x00 ∷ 0xF0 ∷ 0x00
    ∷ 0x57 ∷ 0x3B ∷ 0xBA ∷ 0x64 ∷ []

-- section 2 of 0 to 2, version 5
pub longer : List ℕ
longer =
    0x40 ∷ 0xF0 ∷ 0x0D ∷ 0x00 ∷ 0x01 ∷ 0xCB ∷ 0x02 ∷ 0x02 ∷ 0xF0 ∷ 0x00 ∷ 0xF0 ∷ 0x00
    ∷ 0x72 ∷ 0x58 ∷ 0xFA ∷ 0x2C ∷ []

-- a service description table: transport stream 1 of original network 1, section 0 of 0 to 1, version 21
pub services : List ℕ
services = 0x42 ∷ 0xF0 ∷ 0x0C ∷ 0x00 ∷ 0x01 ∷ 0xEB ∷ 0x00 ∷ 0x01 ∷ 0x00 ∷ 0x01 ∷ 0xFF ∷ 0x5F ∷ 0x4E ∷ 0xC9 ∷ 0x9D ∷ []

-- of original network 2, section 1
pub services_elsewhere : List ℕ
services_elsewhere =
    0x42 ∷ 0xF0 ∷ 0x0C ∷ 0x00 ∷ 0x01 ∷ 0xEB ∷ 0x01 ∷ 0x01 ∷ 0x00 ∷ 0x02 ∷ 0xFF ∷ 0x64
    ∷ 0xA8 ∷ 0xF1 ∷ 0xC3 ∷ []

-- of transport stream 2
pub services_of_another : List ℕ
services_of_another =
    0x42 ∷ 0xF0 ∷ 0x0C ∷ 0x00 ∷ 0x02 ∷ 0xEB ∷ 0x01 ∷ 0x01 ∷ 0x00 ∷ 0x01 ∷ 0xFF ∷ 0xC7
    ∷ 0xBA ∷ 0x16 ∷ 0x23 ∷ []

-- the table of another transport stream
pub services_other : List ℕ
services_other =
    0x46 ∷ 0xF0 ∷ 0x0C ∷ 0x00 ∷ 0x01 ∷ 0xEB ∷ 0x01 ∷ 0x01 ∷ 0x00 ∷ 0x01 ∷ 0xFF ∷ 0xFD
    ∷ 0xB2 ∷ 0x97 ∷ 0x71 ∷ []

-- section 1 of the first
pub services_on : List ℕ
services_on =
    0x42 ∷ 0xF0 ∷ 0x0C ∷ 0x00 ∷ 0x01 ∷ 0xEB ∷ 0x01 ∷ 0x01 ∷ 0x00 ∷ 0x01 ∷ 0xFF ∷ 0x16
    ∷ 0x43 ∷ 0xAE ∷ 0x10 ∷ []

-- an event information table: service 1 of transport stream 1 of original network 1; section 0 of 0 to 1, version 5
pub events : List ℕ
events =
    0x4E ∷ 0xF0 ∷ 0x0F ∷ 0x00 ∷ 0x01 ∷ 0xCB ∷ 0x00 ∷ 0x01 ∷ 0x00 ∷ 0x01 ∷ 0x00 ∷ 0x01
    ∷ 0x01 ∷ 0x4E ∷ 0xED ∷ 0xEE ∷ 0x5E ∷ 0x0B ∷ []

-- of transport stream 2, section 1
pub events_of_another : List ℕ
events_of_another =
    0x4E ∷ 0xF0 ∷ 0x0F ∷ 0x00 ∷ 0x01 ∷ 0xCB ∷ 0x01 ∷ 0x01 ∷ 0x00 ∷ 0x02 ∷ 0x00 ∷ 0x01
    ∷ 0x01 ∷ 0x4E ∷ 0x6D ∷ 0x58 ∷ 0x2A ∷ 0x56 ∷ []

-- of original network 2
pub events_elsewhere : List ℕ
events_elsewhere =
    0x4E ∷ 0xF0 ∷ 0x0F ∷ 0x00 ∷ 0x01 ∷ 0xCB ∷ 0x01 ∷ 0x01 ∷ 0x00 ∷ 0x01 ∷ 0x00 ∷ 0x02
    ∷ 0x01 ∷ 0x4E ∷ 0xB4 ∷ 0x26 ∷ 0x77 ∷ 0x48 ∷ []

-- section 1 of the first
pub events_on : List ℕ
events_on =
    0x4E ∷ 0xF0 ∷ 0x0F ∷ 0x00 ∷ 0x01 ∷ 0xCB ∷ 0x01 ∷ 0x01 ∷ 0x00 ∷ 0x01 ∷ 0x00 ∷ 0x01
    ∷ 0x01 ∷ 0x4E ∷ 0xB6 ∷ 0x4F ∷ 0x82 ∷ 0xC1 ∷ []

-- a schedule: section 0 of 0 to 17, version 5, its segment ends at 1
unfoldable pub schedule-0 : List ℕ
schedule-0 =
    0x50 ∷ 0xF0 ∷ 0x0F ∷ 0x00 ∷ 0x01 ∷ 0xCB ∷ 0x00 ∷ 0x11 ∷ 0x00 ∷ 0x01 ∷ 0x00 ∷ 0x01
    ∷ 0x01 ∷ 0x50 ∷ 0xB5 ∷ 0xB6 ∷ 0xBE ∷ 0x26 ∷ []

-- section 1
unfoldable pub schedule-1 : List ℕ
schedule-1 =
    0x50 ∷ 0xF0 ∷ 0x0F ∷ 0x00 ∷ 0x01 ∷ 0xCB ∷ 0x01 ∷ 0x11 ∷ 0x00 ∷ 0x01 ∷ 0x00 ∷ 0x01
    ∷ 0x01 ∷ 0x50 ∷ 0xEE ∷ 0x17 ∷ 0x62 ∷ 0xEC ∷ []

-- section 8, whose segment has no other
unfoldable pub schedule-8 : List ℕ
schedule-8 =
    0x50 ∷ 0xF0 ∷ 0x0F ∷ 0x00 ∷ 0x01 ∷ 0xCB ∷ 0x08 ∷ 0x11 ∷ 0x00 ∷ 0x01 ∷ 0x00 ∷ 0x01
    ∷ 0x08 ∷ 0x50 ∷ 0x39 ∷ 0x6B ∷ 0xE1 ∷ 0x96 ∷ []

-- section 16, whose segment ends at 17
unfoldable pub schedule-16 : List ℕ
schedule-16 =
    0x50 ∷ 0xF0 ∷ 0x0F ∷ 0x00 ∷ 0x01 ∷ 0xCB ∷ 0x10 ∷ 0x11 ∷ 0x00 ∷ 0x01 ∷ 0x00 ∷ 0x01
    ∷ 0x11 ∷ 0x50 ∷ 0x08 ∷ 0x3F ∷ 0x82 ∷ 0xFE ∷ []

-- section 17
unfoldable pub schedule-17 : List ℕ
schedule-17 =
    0x50 ∷ 0xF0 ∷ 0x0F ∷ 0x00 ∷ 0x01 ∷ 0xCB ∷ 0x11 ∷ 0x11 ∷ 0x00 ∷ 0x01 ∷ 0x00 ∷ 0x01
    ∷ 0x11 ∷ 0x50 ∷ 0x53 ∷ 0x9E ∷ 0x5E ∷ 0x34 ∷ []

-- section 1 of a segment that ends at 2
unfoldable pub schedule-1-to-2 : List ℕ
schedule-1-to-2 =
    0x50 ∷ 0xF0 ∷ 0x0F ∷ 0x00 ∷ 0x01 ∷ 0xCB ∷ 0x01 ∷ 0x11 ∷ 0x00 ∷ 0x01 ∷ 0x00 ∷ 0x01
    ∷ 0x02 ∷ 0x50 ∷ 0x9C ∷ 0xFC ∷ 0x3D ∷ 0x3F ∷ []

-- section 2
pub schedule-2-to-2 : List ℕ
schedule-2-to-2 =
    0x50 ∷ 0xF0 ∷ 0x0F ∷ 0x00 ∷ 0x01 ∷ 0xCB ∷ 0x02 ∷ 0x11 ∷ 0x00 ∷ 0x01 ∷ 0x00 ∷ 0x01
    ∷ 0x02 ∷ 0x50 ∷ 0x70 ∷ 0x1E ∷ 0x58 ∷ 0x61 ∷ []

-- section 0
pub schedule-0-to-2 : List ℕ
schedule-0-to-2 =
    0x50 ∷ 0xF0 ∷ 0x0F ∷ 0x00 ∷ 0x01 ∷ 0xCB ∷ 0x00 ∷ 0x11 ∷ 0x00 ∷ 0x01 ∷ 0x00 ∷ 0x01
    ∷ 0x02 ∷ 0x50 ∷ 0xC7 ∷ 0x5D ∷ 0xE1 ∷ 0xF5 ∷ []

-- section 0 of 0 to 9, its segment ends at 0
pub schedule_shorter : List ℕ
schedule_shorter =
    0x50 ∷ 0xF0 ∷ 0x0F ∷ 0x00 ∷ 0x01 ∷ 0xCB ∷ 0x00 ∷ 0x09 ∷ 0x00 ∷ 0x01 ∷ 0x00 ∷ 0x01
    ∷ 0x00 ∷ 0x50 ∷ 0xF2 ∷ 0xE4 ∷ 0xF3 ∷ 0xD0 ∷ []

-- section 1 of a segment that would end at 0
pub schedule_below : List ℕ
schedule_below =
    0x50 ∷ 0xF0 ∷ 0x0F ∷ 0x00 ∷ 0x01 ∷ 0xCB ∷ 0x01 ∷ 0x11 ∷ 0x00 ∷ 0x01 ∷ 0x00 ∷ 0x01
    ∷ 0x00 ∷ 0x50 ∷ 0x3C ∷ 0x0E ∷ 0xA3 ∷ 0x30 ∷ []

-- section 16 of a segment that would end at 18
pub schedule_above : List ℕ
schedule_above =
    0x50 ∷ 0xF0 ∷ 0x0F ∷ 0x00 ∷ 0x01 ∷ 0xCB ∷ 0x10 ∷ 0x11 ∷ 0x00 ∷ 0x01 ∷ 0x00 ∷ 0x01
    ∷ 0x12 ∷ 0x50 ∷ 0x7A ∷ 0xD4 ∷ 0xDD ∷ 0x2D ∷ []

-- section 1 of a segment that would end at 8
pub schedule_elsewhere : List ℕ
schedule_elsewhere =
    0x50 ∷ 0xF0 ∷ 0x0F ∷ 0x00 ∷ 0x01 ∷ 0xCB ∷ 0x01 ∷ 0x11 ∷ 0x00 ∷ 0x01 ∷ 0x00 ∷ 0x01
    ∷ 0x08 ∷ 0x50 ∷ 0xB6 ∷ 0x46 ∷ 0xE0 ∷ 0x62 ∷ []

-- the same, to come
pub schedule_coming : List ℕ
schedule_coming =
    0x50 ∷ 0xF0 ∷ 0x0F ∷ 0x00 ∷ 0x01 ∷ 0xCA ∷ 0x01 ∷ 0x11 ∷ 0x00 ∷ 0x01 ∷ 0x00 ∷ 0x01
    ∷ 0x08 ∷ 0x50 ∷ 0x44 ∷ 0x46 ∷ 0x4A ∷ 0x04 ∷ []

-- of 0 to 9 section 8, whose segment has left the last number out
pub schedule_left_out : List ℕ
schedule_left_out =
    0x50 ∷ 0xF0 ∷ 0x0F ∷ 0x00 ∷ 0x01 ∷ 0xCB ∷ 0x08 ∷ 0x09 ∷ 0x00 ∷ 0x01 ∷ 0x00 ∷ 0x01
    ∷ 0x08 ∷ 0x50 ∷ 0xAC ∷ 0x20 ∷ 0x6D ∷ 0xBC ∷ []

-- the last table_id of schedules: section 1 of 0 to 1, which would end at 0
pub schedule_last_id : List ℕ
schedule_last_id =
    0x6F ∷ 0xF0 ∷ 0x0F ∷ 0x00 ∷ 0x01 ∷ 0xCB ∷ 0x01 ∷ 0x01 ∷ 0x00 ∷ 0x01 ∷ 0x00 ∷ 0x01
    ∷ 0x00 ∷ 0x6F ∷ 0x67 ∷ 0xB2 ∷ 0x13 ∷ 0x13 ∷ []

-- present/following, section 1 of 0 to 1, with an end of 0
pub events_unfit : List ℕ
events_unfit =
    0x4F ∷ 0xF0 ∷ 0x0F ∷ 0x00 ∷ 0x01 ∷ 0xCB ∷ 0x01 ∷ 0x01 ∷ 0x00 ∷ 0x01 ∷ 0x00 ∷ 0x01
    ∷ 0x00 ∷ 0x4F ∷ 0x27 ∷ 0x60 ∷ 0x90 ∷ 0x6B ∷ []

-- those of a schedule but the last number's, and all of them; the last one first
abbrev pub without-17 : List (List ℕ)
without-17 = schedule-16 ∷ schedule-8 ∷ schedule-1 ∷ schedule-0 ∷ []

abbrev pub schedule : List (List ℕ)
schedule = schedule-17 ∷ without-17

-- the empty roll after these
abbrev pub roll_behind : List (List ℕ) → Roll
roll_behind [] = empty_roll
roll_behind (s ∷ given) = (taking (roll_behind given) s).roll

-- a roll made by hand, of version 5: each mark set, and this end in each segment
unfoldable pub by_hand : ℕ → Option ℕ → ℕ → Roll
by_hand table end last = record {
  begun = true;
  sub_table = record { table_id = table; extension = 1; transport_stream_id = 1; original_network_id = 1 };
  version = 5;
  last = last;
  marks = record { segments = replicate 32 (record { end = end; came = replicate 8 true }) };
}

pub at_work :
    -- each refusal of the roll's own; complete; a lower version
    (answers_to empty_roll (tdt ∷ coming ∷ second ∷ other ∷ opening ∷ lower ∷ [])
    ≡ refusing 83 0 ∷ refusing 81 0 ∷ missing 0 ∷ refusing 82 0 ∷ complete ∷ missing 1 ∷ [])
    -- a version that differs in its highest bit alone; a new last number
    × (answers_to empty_roll (higher ∷ second ∷ opening ∷ longer ∷ [])
    ≡ missing 1 ∷ missing 0 ∷ complete ∷ missing 0 ∷ [])
    -- each id of SDT's sub-table
    × (answers_to empty_roll (services ∷ services_elsewhere ∷ services_of_another ∷ services_other ∷ services_on ∷ [])
    ≡ missing 1 ∷ refusing 82 0 ∷ refusing 82 0 ∷ refusing 82 0 ∷ complete ∷ [])
    -- both transport ids of EIT's
    × (answers_to empty_roll (events ∷ events_of_another ∷ events_elsewhere ∷ events_on ∷ [])
    ≡ missing 1 ∷ refusing 82 0 ∷ refusing 82 0 ∷ complete ∷ [])
    -- a schedule of three segments, of which the first two end early
    × (answers_to empty_roll (schedule-0 ∷ schedule-1 ∷ schedule-8 ∷ schedule-16 ∷ schedule-17 ∷ [])
    ≡ missing 1 ∷ missing 8 ∷ missing 16 ∷ missing 17 ∷ complete ∷ [])
    -- an end that changes empties its segment, and no other
    × (answers_to empty_roll (schedule-0 ∷ schedule-1 ∷ schedule-8 ∷ schedule-1-to-2 ∷ schedule-2-to-2 ∷ schedule-0-to-2 ∷ [])
    ≡ missing 1 ∷ missing 8 ∷ missing 16 ∷ missing 0 ∷ missing 0 ∷ missing 16 ∷ [])
    -- a new last number starts it afresh; complete without the section of the last number, which its segment has left out
    × (answers_to empty_roll (schedule-0 ∷ schedule-1 ∷ schedule-8 ∷ schedule_shorter ∷ schedule_left_out ∷ [])
    ≡ missing 1 ∷ missing 8 ∷ missing 16 ∷ missing 8 ∷ complete ∷ [])
    -- 84: below section_number, above last_section_number, in another segment; after 81, and not for present/following
    × (answers_to empty_roll (schedule_below ∷ schedule_above ∷ schedule_elsewhere ∷ schedule_coming ∷ schedule_last_id ∷ [])
    ≡ refusing 84 0 ∷ refusing 84 0 ∷ refusing 84 0 ∷ refusing 81 0 ∷ refusing 84 0 ∷ [])
    × (answers_to empty_roll (events_unfit ∷ []) ≡ missing 0 ∷ [])
    -- by hand: an end of another segment, one above the last number, and none, each with all marks set; one that counts; a
    -- table that is no schedule
    × ((asked (by_hand 0x50 (Some 200) 5) ≡ missing 0) × (asked (by_hand 0x50 (Some 7) 5) ≡ missing 0)
    × (asked (by_hand 0x50 None 5) ≡ missing 0) × (asked (by_hand 0x50 (Some 5) 5) ≡ complete)
    × (asked (by_hand 0x4E (Some 200) 5) ≡ complete))
    -- the end that is kept changes; the ends of the other segments do not count
    × (answers_to (by_hand 0x50 (Some 1) 17) (schedule-1-to-2 ∷ schedule-0-to-2 ∷ schedule-2-to-2 ∷ schedule-8 ∷ [])
    ≡ missing 0 ∷ missing 2 ∷ missing 8 ∷ missing 16 ∷ [])
    -- the schedule of three segments once more, as a whole sequence: all are taken
    × ((taken_of without-17 ≡ without-17) × (asked (roll_behind without-17) ≡ missing 17)
    × (taken_of schedule ≡ schedule) × (asked (roll_behind schedule) ≡ complete))
unfolding by_hand tdt coming second other opening lower higher longer services services_elsewhere services_of_another
    services_other services_on events events_of_another events_elsewhere events_on
    schedule-0 schedule-1 schedule-8 schedule-16 schedule-17 schedule-1-to-2 schedule-2-to-2 schedule-0-to-2
    schedule_shorter schedule_below schedule_above schedule_elsewhere schedule_coming schedule_left_out
    schedule_last_id events_unfit
    taken_of unrefused empty_roll taking taking_accepted taking_current end_unfit marked_by answered asked
    is_schedule counting end_at came_by left_out_by come_or_left_out smallest_in_segments ending_by marked_until
    blank segment_at with_mark
    roll_after continued begun_with starts_afresh another has_no_sub_table is_current version_in same_ids compared sub_table_of
    number_at network_in ids_that_count smallest_missing smallest marked unmarked has judged read opened header wrong_syntax
    length_outside size_differs crc_fails above_last inside topped plain two_loops second_loop leaves_room fills ◌and_then◌
    entries descriptors run trail cell holds first row_of crc feed_bytes feed_bits feed
at_work = (refl, refl, refl, refl, refl, refl, refl, refl, refl, (refl, refl, refl, refl, refl), refl, (refl, refl, refl, refl))
