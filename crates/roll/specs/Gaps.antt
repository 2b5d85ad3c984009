-- One segment: how many of its numbers must come, and the first of them that has not.
use Rattle.std.specs.Prelude.{ℕ, zero, suc, ◌+◌, ◌/◌, ◌%◌, List, Bool, true, false, ◌&&◌, eqb, get_or, Option, None, Some, if◌then◌else◌}
use Rattle.roll.specs.Segments.{counting}
use Rattle.roll.specs.declared.Segment.{Segment}

-- how many numbers a segment with this end has, from its first on; none where the end is unknown
unfoldable pub up_to : Option ℕ → ℕ
up_to None = 0
up_to (Some e) = e % 8 + 1

-- how many numbers of segment k must come: of a schedule those up to its end; else those up to the last number, where it
-- stands in this segment, and all eight where it does not
unfoldable pub wanted_of : Bool → ℕ → ℕ → Option ℕ → ℕ
wanted_of schedule last k end =
    if schedule then up_to (counting last k end)
    else if eqb (last / 8) k then last % 8 + 1
    else 8

-- the first k have come
unfoldable pub all_came : List Bool → ℕ → Bool
all_came came zero = true
all_came came (suc k) = get_or came k false && all_came came k

-- the first of the k numbers from i on that has not come; 8 where all have
unfoldable pub first_gap : List Bool → ℕ → ℕ → ℕ
first_gap came zero i = 8
first_gap came (suc k) i = if get_or came i false then first_gap came k (i + 1) else i

-- the number told for a gap; 8 where there is none
abbrev pub told_gap : Option ℕ → ℕ
told_gap None = 8
told_gap (Some g) = g

-- the first missing of so many; where none is known to be there, it is the first of all
unfoldable pub gap_among : List Bool → ℕ → ℕ
gap_among came zero = 0
gap_among came (suc k) = first_gap came (suc k) 0

-- the first number of segment k that is missing, counted from the segment's first; 8 where none is
unfoldable pub gap_of : Bool → ℕ → ℕ → Segment → ℕ
gap_of schedule last k g = gap_among g.came (wanted_of schedule last k g.end)
