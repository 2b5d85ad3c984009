-- 0x43 satellite delivery system, written: EN 300 468, clause 6.2.13.2. The layout is that of the reading.
use Rattle.std.specs.Prelude.{◌≡◌, List, [], ◌∷◌, ℕ, ◌^◌, drop}
use Rattle.wire.specs.Reading.{Reading, ◌>>=◌}
use Rattle.layout.specs.Widths.{bit, bits_of}
use Rattle.delivery.specs.Satellite.{layout, layout_under, shown}
use Rattle.delivery.specs.declared.satellite.Satellite.{Satellite}
use Rattle.delivery.specs.declared.satellite.System.{System}
use Rattle.delivery.specs.declared.satellite.System.TheVariants.{S, S2}
use Rattle.writing.specs.Fill.{zeros, made, ReservedIn, below}
use Rattle.writing.specs.Written.{inside, headed}

-- modulation_system as it is broadcast
abbrev pub system_bit : System → ℕ
system_bit S = 0
system_bit (S2 roll-off) = 1

-- "satellite's two under modulation_system 0: zeros"
abbrev pub rollOff : System → ℕ
rollOff S = 0
rollOff (S2 roll-off) = roll-off

-- the fields as numbers, in the layout's order
abbrev pub numbers : Satellite → List ℕ
numbers f =
    f.frequency.0
    ∷ f.orbital_position
    ∷ bit f.west_east_flag
    ∷ f.polarization
    ∷ rollOff f.modulation_system
    ∷ system_bit f.modulation_system
    ∷ f.modulation_type
    ∷ f.symbol_rate
    ∷ f.fec_inner
    ∷ []

-- "112 a field outside its layout": 8 digits, 4 digits, 1 bit, 2, 2, 1, 2 bits, 7 digits, 4 bits
abbrev pub limits : List ℕ
limits = 10 ^ 8 ∷ 10 ^ 4 ∷ 2 ^ 1 ∷ 2 ^ 2 ∷ 2 ^ 2 ∷ 2 ^ 1 ∷ 2 ^ 2 ∷ 10 ^ 7 ∷ 2 ^ 4 ∷ []

-- the tag 0x43, the length, and the body
unfoldable pub satellite_written : Satellite → Reading (List ℕ)
satellite_written f = inside (below (numbers f) limits) (made zeros (layout_under f.modulation_system) (shown f)) >>= headed 0x43

-- "satellite's two under modulation_system 0: zeros"; it has no other reserved bits
abbrev pub Usual : List ℕ → Type 0
Usual s = bits_of layout 5 (drop 2 s) ≡ 0 → ReservedIn zeros (layout_under S) (drop 2 s)
