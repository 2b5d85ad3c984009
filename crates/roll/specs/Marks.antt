-- The marks: which numbers have come, "in thirty-two segments of eight sections". Whatever is said of a roll elsewhere goes
-- by `has` and by a segment's end, and by laws of these definitions, and never looks inside.
use Rattle.std.specs.Prelude.{ℕ, zero, suc, ◌+◌, ◌/◌, ◌%◌, ◌<◌, ◌≡◌, [], Bool, true, false, length, get_or, set, replicate, Option, None, if◌then◌else◌}
use Rattle.roll.specs.Answer.{Says, missing, complete}
use Rattle.roll.specs.declared.Marks.{Marks}
use Rattle.roll.specs.declared.Segment.{Segment}

-- the segment that a number stands in
abbrev pub segment_of : ℕ → ℕ
segment_of n = n / 8

-- a segment with this end, of which nothing has come
unfoldable pub blank : Option ℕ → Segment
blank e = record { end = e; came = replicate 8 false }

-- the segment of this index; behind the last there is none, and nothing of it has come
unfoldable pub segment_at : Marks → ℕ → Segment
segment_at m k = get_or m.segments k (record { end = None; came = [] })

-- the number has come
unfoldable pub has : Marks → ℕ → Bool
has m n = get_or (segment_at m (segment_of n)).came (n % 8) false

-- no number has come, and no end is known
unfoldable pub unmarked : Marks
unmarked = record { segments = replicate 32 (blank None) }

-- the segment in which this number has come too
unfoldable pub with_mark : Segment → ℕ → Segment
with_mark s n = record { end = s.end; came = set s.came (n % 8) true }

-- a number has come too
unfoldable pub marked : Marks → ℕ → Marks
marked m n = record { segments = set m.segments (segment_of n) (with_mark (segment_at m (segment_of n)) n) }

-- marks that a program can hold: one for each number from 0 to 255
unfoldable pub Whole : Marks → Type 0
Whole m = (length m.segments ≡ 32) × ((k : ℕ) → k < 32 → length (segment_at m k).came ≡ 8)

-- the smallest of the k numbers from n on that has not come, or complete
unfoldable pub smallest : (ℕ → Bool) → ℕ → ℕ → Says
smallest came zero n = complete
smallest came (suc k) n = if came n then smallest came k (n + 1) else missing n

-- "the smallest number missing, or complete: all from 0 to last"
unfoldable pub smallest_missing : Marks → ℕ → Says
smallest_missing m last = smallest (has m) (last + 1) 0
