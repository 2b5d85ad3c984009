-- Document 01's refusals 41 to 49, in their order, and what a packet is that none of them meets.
use Rattle.std.specs.Prelude.{Bool, not, ◌&&◌, ◌||◌, List, [], ◌∷◌, ℕ, ◌+◌, length, get_or, ltb, eqb, if◌then◌else◌}
use Rattle.std.proofs.Math.Option.{Option, none, some}
use Rattle.packet.specs.Header.{transport_error, start_flag, pid_of, scrambling, control, counter_of, adaptation, discontinuity, payload_from, payload_of, pointer_of}

-- ---- the table

-- a row of the table: the number, and whether what the row says holds
pub record Row : Type 0 where
  pub number : ℕ
  pub applies : Bool

infix 70 ◌when◌
abbrev pub ◌when◌ : ℕ → Bool → Row
n when b = record { number = n; applies = b }

-- "adaptation control 00; or 11 with length above 182; or 10 with length other than 183"
abbrev pub wrong_adaptation : List ℕ → Bool
wrong_adaptation packet =
    eqb (control packet) 0
    || ((eqb (control packet) 3 && ltb 182 (adaptation packet)) || (eqb (control packet) 2 && not (eqb (adaptation packet) 183)))

-- "control 01 or 11, start flag, and pointer above payload length minus 2 (a payload of 1: always)"
abbrev pub points_past : List ℕ → Bool
points_past packet = not (eqb (control packet) 2) && (start_flag packet && ltb (length (payload_of packet)) (pointer_of packet + 2))

-- "given when, in this order". Whether a room is too small and whether the record can't stand is told by who has them; the others look at the
-- packet, and one of them at the PID.
abbrev pub refusals : Bool → Bool → ℕ → List ℕ → List Row
refusals small unfit pid packet =
    41 when not (eqb (length packet) 188)
    ∷ 42 when small
    ∷ 43 when unfit
    ∷ 44 when not (eqb (get_or packet 0 0) 0x47)
    ∷ 45 when transport_error packet
    ∷ 46 when not (eqb (pid_of packet) pid)
    ∷ 47 when not (eqb (scrambling packet) 0)
    ∷ 48 when wrong_adaptation packet
    ∷ 49 when points_past packet
    ∷ []

-- "Input to which numbered refusals apply gets the first of them"
abbrev pub first_of : List Row → Option ℕ
first_of [] = none
first_of (r ∷ rows) = if r.applies then some r.number else first_of rows

-- ---- what a packet is

-- refused; taken with no payload, and whether it has the discontinuity_indicator; or with payload from an index on, its start flag, its counter,
-- and whether it has the discontinuity_indicator
pub data Judged : Type 0 where
  refuse : ℕ → Judged
  bare : Bool → Judged
  has_payload : ℕ → Bool → ℕ → Bool → Judged

-- "no other input is refused". "Control 10: taken, no payload"
abbrev pub judged_by : Option ℕ → List ℕ → Judged
judged_by (some n) packet = refuse n
judged_by none packet =
    if eqb (control packet) 2 then bare (discontinuity packet)
    else has_payload (payload_from packet) (start_flag packet) (counter_of packet) (discontinuity packet)

unfoldable pub judged : Bool → Bool → ℕ → List ℕ → Judged
judged small unfit pid packet = judged_by (first_of (refusals small unfit pid packet)) packet
