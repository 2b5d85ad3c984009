-- The writer's packets beside document 02's rule.
use Rattle.std.specs.Prelude.{◌≡◌, ◌↔◌, List, ℕ, ◌+◌, ◌/◌, ◌≤◌, ◌<◌, length}
use Rattle.wire.specs.Each.{Each}
use Rattle.writer.specs.Layout.{sum}
use Rattle.writer.specs.Packets.{packets_of}
use Rattle.writer.specs.Written.{packet_count}
use Rattle.reverse.specs.Rule.{Obeys, NoneInside}

-- they obey it, and no other packets do
abbrev pub RuleExactly : Type 0
RuleExactly = (pid counter : ℕ) (sections packets : List (List ℕ)) → pid ≤ 8191 → counter ≤ 15 → Each (λ s. 0 < length s) sections
    → Obeys pid counter sections packets ↔ (packets ≡ packets_of pid counter sections)

-- "a filler byte only where no section waits ..": and so none inside a section
abbrev pub NoFillerInside : Type 0
NoFillerInside = (pid counter : ℕ) (sections packets : List (List ℕ)) (o : Obeys pid counter sections packets) → NoneInside o.payloads

-- a room of 188 bytes for each 183 of sections, and for what is left of them, is enough
abbrev pub AtMost : Type 0
AtMost = (sizes : List ℕ) → packet_count sizes ≤ (sum sizes + 182) / 183
