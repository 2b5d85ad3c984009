-- A body that is one text or any other bytes, to the end.
use Rattle.std.specs.Prelude.{List, ℕ, length}
use Rattle.wire.specs.Reading.{value, ◌>>=◌}
use Rattle.clock.specs.Fault.{Answered}
use Rattle.layout.specs.Refusal.{part_at}
use Rattle.layout.specs.Body.{framed}
use Rattle.layout.specs.declared.Part.{Part}

-- all bytes of the body behind a tag
unfoldable pub whole : List ℕ → ℕ → Answered Part
whole s tag = framed s tag >>= λ b. value (part_at 0 (length b))
