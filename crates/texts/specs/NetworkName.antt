-- 0x40 network name: EN 300 468, clause 6.2.27.
use Rattle.std.specs.Prelude.{List, ℕ}
use Rattle.clock.specs.Fault.{Answered}
use Rattle.layout.specs.declared.Part.{Part}
use Rattle.texts.specs.Whole.{whole}

-- 0.. name, 8 bits each
unfoldable pub network_name : List ℕ → Answered Part
network_name s = whole s 0x40
