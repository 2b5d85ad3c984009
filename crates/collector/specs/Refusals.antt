-- Refusals 42 and 43, which look at what a call is lent besides the packet; and what a record tells of the packets before.
use Rattle.std.specs.Prelude.{ℕ, Bool, true, false, ◌&&◌, ◌||◌, List, None, Some, ◌==◌, nat_le, nat_lt, slice_index}
use Rattle.std.specs.Prelude as std
use Rattle.std.proofs.Math.Option.{Option, none, some}
use Rattle.wire.specs.Sections.{total_of}
use Rattle.packet.specs.Ruling.{Before}
use Rattle.collector.specs.declared.Record.{Record}

-- "the last counter or none", as a record has it
abbrev pub Last : Type 0
Last = std.Option ℕ

abbrev pub last_of : Last → Option ℕ
last_of None = none
last_of (Some c) = some c

-- what a record tells of the packets before
abbrev pub before_of : Record → Before
before_of r = record { last = last_of r.last; mark = r.mark }

-- 42, "hold under 4,096 or out under 4,280": of the rooms their sizes alone count
abbrev pub too_small : ℕ → ℕ → Bool
too_small hold out = nat_lt hold 4096 || nat_lt out 4280

-- ---- 43

abbrev pub is_none : Last → Bool
is_none None = true
is_none (Some c) = false

abbrev pub counter_past : Last → Bool
counter_past None = false
counter_past (Some c) = nat_lt 15 c

-- "bytes in hand but no counter; first held byte 0xFF; 3 or more held whose header declares no more than are held, or over 4,096 in all"
abbrev pub held_unfit : ℕ → Bool → List ℕ → Bool
held_unfit n noCounter hold =
    (nat_lt 0 n && noCounter) || ((nat_lt 0 n && slice_index hold 0 == 255) || (nat_le 3 n && (nat_le (total_of hold) n || nat_lt 4096 (total_of hold))))

-- "record can't stand: PID above 8,191; counter above 15; more than 4,095 in hand; .."; of a rejection's number "any .. but 0 to 10"
unfoldable pub cannot_stand : Record → List ℕ → Bool
cannot_stand r hold =
    nat_lt 8191 r.pid
    || (counter_past r.last
    || (nat_lt 10 r.rejection || (nat_lt 4095 r.in_hand || held_unfit r.in_hand (is_none r.last) hold)))
