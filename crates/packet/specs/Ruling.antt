-- What comes of a packet after the packets before it: refused, repeated, or taken.
use Rattle.std.specs.Prelude.{Bool, true, false, not, ◌&&◌, ◌||◌, List, ℕ, ◌+◌, ◌%◌, drop, eqb, if◌then◌else◌}
use Rattle.std.proofs.Math.Option.{Option, none, some}
use Rattle.packet.specs.Refusals.{Judged, refuse, has_payload, judged}
use Rattle.packet.specs.Refusals as Refusals

-- ---- the packets before

-- what of the packets before counts for the next one: "the last counter or none", and the mark of request (ix)
pub record Before : Type 0 where
  pub last : Option ℕ
  pub mark : Bool

-- no packet before
abbrev pub noneBefore : Before
noneBefore = record { last = none; mark = false }

-- "An adaptation field of at least one byte with that bit set .. sets it": the mark, once a packet with this bit has come
abbrev pub mark_with : Before → Bool → Bool
mark_with before splice = before.mark || splice

-- ---- its counter beside the last one; spliced: the mark is set, by a packet before or by this one itself

abbrev pub equal_to : Option ℕ → ℕ → Bool
equal_to none counter = false
equal_to (some last) counter = eqb counter last

-- "Else a counter equal to the last"; "the next packet with payload, the marked one itself if it has any, is never "repeated""
unfoldable pub repeats : Option ℕ → Bool → ℕ → Bool
repeats last spliced counter = not spliced && equal_to last counter

abbrev pub next_to : Option ℕ → ℕ → Bool
next_to none counter = true
next_to (some last) counter = eqb counter ((last + 1) % 16)

-- "If the counter isn't the last plus 1 modulo 16, what is in hand is broken off"; and the packet behind a mark ".. breaks
-- off what is in hand". Without a last counter nothing is in hand.
unfoldable pub joins : Option ℕ → Bool → ℕ → Bool
joins last spliced counter = not spliced && next_to last counter

-- ---- a packet that is taken and has payload: its counter, its start flag, whether it is behind a mark, and its payload

pub record Carried (A : Type 0) : Type 0 where
  pub counter : ℕ
  pub start : Bool
  pub spliced : Bool
  pub bytes : List A

-- what counts for the packet behind it: "the counter then becomes the last", and the packet ".. clears" the mark
abbrev pub hands_on : {A : Type 0} → Carried A → Before
hands_on q = record { last = some q.counter; mark = false }

abbrev pub load_of : Bool → List ℕ → ℕ → Bool → ℕ → Carried ℕ
load_of spliced packet from start counter = record { counter = counter; start = start; spliced = spliced; bytes = drop from packet }

-- ---- the ruling

-- "Control 10: taken, no payload, nothing changes", but for the mark. "Else a counter equal to the last: "repeated",
-- nothing changes", unless the mark is set. "Else taken."
pub data Ruling : Type 0 where
  refuses : ℕ → Ruling
  repeated : Ruling
  bare : Bool → Ruling
  takes : Carried ℕ → Ruling

abbrev pub ruled_on : Before → Carried ℕ → Ruling
ruled_on before q = if repeats before.last q.spliced q.counter then repeated else takes q

abbrev pub ruled_by : Before → List ℕ → Judged → Ruling
ruled_by before packet (refuse n) = refuses n
ruled_by before packet (Refusals.bare splice) = bare splice
ruled_by before packet (has_payload from start counter splice) =
    ruled_on before (load_of (mark_with before splice) packet from start counter)

abbrev pub ruling : Bool → Bool → ℕ → Before → List ℕ → Ruling
ruling small unfit pid before packet = ruled_by before packet (judged small unfit pid packet)
