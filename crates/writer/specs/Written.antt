-- What one call of the writer comes to, for every PID, counter, sections, sizes and room.
use Rattle.std.specs.Prelude.{not, ◌||◌, ℕ, ◌*◌, length, ltb}
use mathlib.Core.List.{List, [], ◌∷◌, flatten}
use Rattle.std.proofs.Math.Option.{Option, none, some}
use Rattle.copy.specs.Laid.{over}
use Rattle.packet.specs.Refusals.{Row, ◌when◌, first_of}
use Rattle.writer.specs.Cut.{fit, cut_by}
use Rattle.writer.specs.Layout.{unbegun, turns_from}
use Rattle.writer.specs.Packets.{packets_of}
use Rattle.writer.specs.Answer.{Outcome, wrote, refused_with}

-- how many packets sections of these sizes take
abbrev pub packet_count : List ℕ → ℕ
packet_count sizes = length (turns_from (unbegun sizes))

-- "101 PID above 8,191 or counter above 15; 102 ..; 103 room too small; in that order"
abbrev pub refusals : ℕ → ℕ → List ℕ → List ℕ → ℕ → List Row
refusals pid counter bytes sizes room =
    101 when (ltb 8191 pid || ltb 15 counter)
    ∷ 102 when not (fit sizes bytes)
    ∷ 103 when ltb room (packet_count sizes * 188)
    ∷ []

-- "Input to which numbered refusals apply gets the first of them .., all lent room unaltered; no other input is refused": the packets stand end
-- to end at the room's start, and its later bytes stay
abbrev pub outcome_by : Option ℕ → ℕ → ℕ → List ℕ → List ℕ → List ℕ → Outcome
outcome_by (some n) pid counter bytes sizes room = record { room = room; said = refused_with n }
outcome_by none pid counter bytes sizes room = record {
  room = over (flatten (packets_of pid counter (cut_by sizes bytes))) room;
  said = wrote (packet_count sizes);
}

abbrev pub written : ℕ → ℕ → List ℕ → List ℕ → List ℕ → Outcome
written pid counter bytes sizes room = outcome_by (first_of (refusals pid counter bytes sizes (length room))) pid counter bytes sizes room
