-- What stands in an entry's fixed bytes, by name: EN 300 468, clause 5.2; and times and durations out of their bytes. A byte that is not
-- there reads as 0.
use Rattle.std.specs.Prelude.{ℕ, ◌+◌, Bool, ◌||◌, List, get_or, ltb, eqb, if◌then◌else◌}
use Rattle.wire.specs.Number.{number_at}
use Rattle.clock.specs.Fault.{Answered}
use Rattle.clock.specs.Time.{Moment, time_of}
use Rattle.clock.specs.Duration.{duration_of}
use Rattle.tables.specs.Tables.{NIT, BAT, EIT, row_of}
use Rattle.parts.specs.Parts.{part, no_part, within, bytes_of}
use Rattle.clock.specs.declared.Hms.{Hms}
use Rattle.parts.specs.declared.Part.{Part}

-- the table's row is r
abbrev pub is_of : ℕ → List ℕ → Bool
is_of r s = eqb (row_of (get_or s 0 0)) r

-- bytes 0 and 1: SDT's service_id, EIT's event_id, the transport_stream_id of NIT and BAT
abbrev pub id_in : List ℕ → Part → ℕ
id_in s f = number_at 2 (bytes_of s f) 0

-- bytes 2 and 3: the original_network_id of NIT and BAT
unfoldable pub network_in : List ℕ → Part → ℕ
network_in s f = if is_of NIT s || is_of BAT s then number_at 2 (bytes_of s f) 2 else 0

-- n of an event's twelve fixed bytes, from byte k on; nothing where the bytes are no event's
unfoldable pub event_at : List ℕ → Part → ℕ → ℕ → Part
event_at s f k n = if ltb f.size 12 then no_part else if is_of EIT s then part (f.start + k) n else no_part

-- the same of a part that lies in s
unfoldable pub event_part : List ℕ → Part → ℕ → ℕ → Part
event_part s f k n = if within s f then event_at s f k n else no_part

-- start_time: bytes 2 to 6
abbrev pub start_in : List ℕ → Part → Part
start_in s f = event_part s f 2 5

-- duration: bytes 7 to 9
abbrev pub duration_in : List ℕ → Part → Part
duration_in s f = event_part s f 7 3

-- "MJD 16 bits, six BCD digits"
abbrev pub time_from : List ℕ → Answered Moment
time_from l = time_of (number_at 2 l 0) (get_or l 2 0) (get_or l 3 0) (get_or l 4 0)

-- six BCD digits
abbrev pub duration_from : List ℕ → Answered Hms
duration_from l = duration_of (get_or l 0 0) (get_or l 1 0) (get_or l 2 0)
