-- Schedules: document 02, request (i), "for table_id 0x50 to 0x6F the numbers stand in thirty-two segments of eight
-- sections, and a segment may end early".
use Rattle.std.specs.Prelude.{ℕ, ◌+◌, Bool, false, ◌&&◌, ◌||◌, eqb, leb, ltb, set, Option, None, Some, if◌then◌else◌}
use Rattle.roll.specs.Answer.{Says}
use Rattle.roll.specs.Marks.{segment_of, blank, segment_at, has, with_mark, smallest}
use Rattle.roll.specs.declared.Marks.{Marks}
use Rattle.roll.specs.declared.Segment.{Segment}

-- "for table_id 0x50 to 0x6F"
unfoldable pub is_schedule : ℕ → Bool
is_schedule id = leb 0x50 id && leb id 0x6F

-- ---- what counts

-- "one kept in a roll but outside its segment or above the last number counts as unknown"
unfoldable pub counting : ℕ → ℕ → Option ℕ → Option ℕ
counting last k None = None
counting last k (Some e) = if eqb (segment_of e) k && leb e last then Some e else None

-- the end that counts of segment k
unfoldable pub end_at : Marks → ℕ → ℕ → Option ℕ
end_at m last k = counting last k (segment_at m k).end

-- "counts as unknown, its marks as unset": of a segment whose end is unknown no number has come, whatever its marks
unfoldable pub came_by : Option ℕ → Bool → Bool
came_by None mark = false
came_by (Some e) mark = mark

-- "numbers that a known segment has left out": those above its own end, also the last number
unfoldable pub left_out_by : Option ℕ → ℕ → Bool
left_out_by None n = false
left_out_by (Some e) n = ltb e n

-- the number has come, or its segment has left it out
unfoldable pub come_or_left_out : Marks → ℕ → ℕ → Bool
come_or_left_out m last n = came_by (end_at m last (segment_of n)) (has m n) || left_out_by (end_at m last (segment_of n)) n

-- ""Smallest missing" passes over numbers that a known segment has left out."
unfoldable pub smallest_in_segments : Marks → ℕ → Says
smallest_in_segments m last = smallest (come_or_left_out m last) (last + 1) 0

-- ---- a section comes

-- "A segment end that changes within one version empties that segment", and so does one that was not known
unfoldable pub ending_by : Option ℕ → Segment → ℕ → Segment
ending_by None s e = blank (Some e)
ending_by (Some kept) s e = if eqb kept e then s else blank (Some e)

-- the segment with this end
abbrev pub ending_at : Segment → ℕ → Segment
ending_at s e = ending_by s.end s e

-- a number has come too, in a segment with this end
unfoldable pub marked_until : Marks → ℕ → ℕ → Marks
marked_until m n e =
    record { segments = set m.segments (segment_of n) (with_mark (ending_at (segment_at m (segment_of n)) e) n) }
