-- 0x42 stuffing: EN 300 468, clause 6.2.40.
use Rattle.std.specs.Prelude.{List, ℕ}
use Rattle.clock.specs.Fault.{Answered}
use Rattle.layout.specs.declared.Part.{Part}
use Rattle.texts.specs.Whole.{whole}

-- 0.. stuffing bytes, any value
unfoldable pub stuffing : List ℕ → Answered Part
stuffing s = whole s 0x42
