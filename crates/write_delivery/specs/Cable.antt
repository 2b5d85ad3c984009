-- 0x44 cable delivery system, written: EN 300 468, clause 6.2.13.1. The layout is that of the reading.
use Rattle.std.specs.Prelude.{List, [], ◌∷◌, ℕ, ◌^◌, drop}
use Rattle.wire.specs.Reading.{Reading, ◌>>=◌}
use Rattle.delivery.specs.Cable.{layout, shown}
use Rattle.delivery.specs.declared.cable.Cable.{Cable}
use Rattle.writing.specs.Fill.{ones, made, ReservedIn, below}
use Rattle.writing.specs.Written.{inside, headed}

-- the fields as numbers, in the layout's order
abbrev pub numbers : Cable → List ℕ
numbers f = f.frequency.0 ∷ f.fec_outer ∷ f.modulation ∷ f.symbol_rate ∷ f.fec_inner ∷ []

-- "112 a field outside its layout": 8 digits, 4 bits, 8 bits, 7 digits, 4 bits
abbrev pub limits : List ℕ
limits = 10 ^ 8 ∷ 2 ^ 4 ∷ 2 ^ 8 ∷ 10 ^ 7 ∷ 2 ^ 4 ∷ []

-- the tag 0x44, the length, and the body
unfoldable pub cable_written : Cable → Reading (List ℕ)
cable_written f = inside (below (numbers f) limits) (made ones layout (shown f)) >>= headed 0x44

-- "reserved bits were ones"
abbrev pub Usual : List ℕ → Type 0
Usual s = ReservedIn ones layout (drop 2 s)
