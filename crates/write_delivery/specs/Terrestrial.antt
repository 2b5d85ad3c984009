-- 0x5A terrestrial delivery system, written: EN 300 468, clause 6.2.13.4. The layout is that of the reading.
use Rattle.std.specs.Prelude.{List, ℕ, drop}
use Rattle.wire.specs.Reading.{Reading, ◌>>=◌}
use Rattle.delivery.specs.Terrestrial.{layout, shown}
use Rattle.delivery.specs.declared.terrestrial.Terrestrial.{Terrestrial}
use Rattle.writing.specs.Fill.{ones, made, ReservedIn, below, capacities}
use Rattle.writing.specs.Written.{inside, headed}

-- the tag 0x5A, the length, and the body. "112 a field outside its layout": each has its bits, and no digits
unfoldable pub terrestrial_written : Terrestrial → Reading (List ℕ)
terrestrial_written f = inside (below (shown f) (capacities layout)) (made ones layout (shown f)) >>= headed 0x5A

-- "reserved bits were ones"
abbrev pub Usual : List ℕ → Type 0
Usual s = ReservedIn ones layout (drop 2 s)
