-- The body of a satellite delivery system, as the code puts it.
use mathlib.Core.Path.{◌≡◌, ap, ◌∙◌}
use mathlib.Core.Bool.{Bool, true, not}
use mathlib.Core.List.{[], ◌∷◌}
use Prim.Native.Nat.{ℕ, ◌+◌, ◌*◌, ◌^◌}
use native.Mathlib.Omega.{arith}
use Rattle.wire.specs.Digits.{bcd_show}
use Rattle.wire.specs.Reading.{refused}
use Rattle.wire.proofs.Shown.{show_below}
use Rattle.forms.specs.Fields.{room, pack}
use Rattle.delivery.specs.Satellite.{layout_under, system_shown, shown}
use Rattle.delivery.specs.declared.satellite.Satellite.{Satellite}
use Rattle.delivery.specs.declared.satellite.System.{System}
use Rattle.delivery.specs.declared.satellite.System.TheVariants.{S, S2}
use Rattle.writing.specs.Fill.{zeros, filled, made, below}
use Rattle.writing.specs.Number.{ofNumber}
use Rattle.writing.proofs.Below.{below_is}
use Rattle.write_delivery.specs.Satellite.{rollOff, system_bit, numbers, limits, satellite_written}
use Rattle.write_delivery.specs.Inner.Middle.{satellite_middle}
use Rattle.write_delivery.proofs.Bodies.{body, joined, refuses, WritesBody, wrote}

-- one number, whether the two bits in front of modulation_system are roll_off or reserved
packed : (s : System) (frequency position east polarization kind rate inner : ℕ)
    → made zeros (layout_under s)
    (frequency ∷ position ∷ east ∷ polarization ∷ system_shown s (kind ∷ rate ∷ inner ∷ []))
    ≡ ofNumber 11 (frequency * 2 ^ 56
    + ((position * 256 + (east * 128 + polarization * 32 + rollOff s * 8 + system_bit s * 4 + kind)) * 2 ^ 32
    + (rate * 16 + inner)))
unfolding made pack filled room
packed S frequency position east polarization kind rate inner = ap (ofNumber 11) (omega arith)
packed (S2 roll-off) frequency position east polarization kind rate inner = ap (ofNumber 11) (omega arith)

module _ (f : Satellite) where
  abbrev first : ℕ
  first = bcd_show 8 f.frequency.0

  abbrev last : ℕ
  last = bcd_show 7 f.symbol_rate * 16 + f.fec_inner

  made_is : below (numbers f) limits ≡ true
      → made zeros (layout_under f.modulation_system) (shown f) ≡ body first (satellite_middle f) last
  made_is h =
      let i = below_is (numbers f) limits h in
      packed f.modulation_system _ _ _ _ _ _ _
      ∙ joined first (satellite_middle f) last (omega (arith, show_below 4 f.orbital_position))
      (omega (arith, show_below 7 f.symbol_rate))

  module _ {r : Bool} (e : r ≡ below (numbers f) limits) where
    pub satellite_refused : not r ≡ true → satellite_written f ≡ refused 112
    unfolding satellite_written
    satellite_refused =
        refuses 0x43 (below (numbers f) limits) (made zeros (layout_under f.modulation_system) (shown f)) e

    pub satellite_wrote : WritesBody (satellite_written f) r 0x43 first (satellite_middle f) last
    unfolding satellite_written
    satellite_wrote =
        wrote 0x43 (below (numbers f) limits) (made zeros (layout_under f.modulation_system) (shown f)) e
        first (satellite_middle f) last made_is
