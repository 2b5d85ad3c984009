-- The body of a cable delivery system, as the code puts it.
use mathlib.Core.Path.{◌≡◌, ap, ◌∙◌}
use mathlib.Core.Bool.{Bool, true, not}
use Prim.Native.Nat.{ℕ, ◌+◌, ◌*◌, ◌^◌}
use native.Mathlib.Omega.{arith}
use Rattle.wire.specs.Digits.{bcd_show}
use Rattle.wire.specs.Reading.{refused}
use Rattle.wire.proofs.Shown.{show_below}
use Rattle.forms.specs.Fields.{room, pack}
use Rattle.delivery.specs.Cable.{layout, shown}
use Rattle.delivery.specs.declared.cable.Cable.{Cable}
use Rattle.writing.specs.Fill.{ones, filled, made, below}
use Rattle.writing.specs.Number.{ofNumber}
use Rattle.writing.proofs.Below.{below_is}
use Rattle.write_delivery.specs.Cable.{numbers, limits, cable_written}
use Rattle.write_delivery.specs.Inner.Middle.{cable_middle}
use Rattle.write_delivery.proofs.Bodies.{body, joined, refuses, WritesBody, wrote}

module _ (f : Cable) where
  abbrev first : ℕ
  first = bcd_show 8 f.frequency.0

  abbrev last : ℕ
  last = bcd_show 7 f.symbol_rate * 16 + f.fec_inner

  packed : pack layout (filled ones layout (shown f)) ≡ first * 2 ^ 56 + (cable_middle f * 2 ^ 32 + last)
  unfolding pack filled room
  packed = omega arith

  made_is : below (numbers f) limits ≡ true → made ones layout (shown f) ≡ body first (cable_middle f) last
  unfolding made
  made_is h =
      let i = below_is (numbers f) limits h in
      ap (ofNumber 11) packed
      ∙ joined first (cable_middle f) last (omega arith) (omega (arith, show_below 7 f.symbol_rate))

  module _ {r : Bool} (e : r ≡ below (numbers f) limits) where
    pub cable_refused : not r ≡ true → cable_written f ≡ refused 112
    unfolding cable_written
    cable_refused = refuses 0x44 (below (numbers f) limits) (made ones layout (shown f)) e

    pub cable_wrote : WritesBody (cable_written f) r 0x44 first (cable_middle f) last
    unfolding cable_written
    cable_wrote =
        wrote 0x44 (below (numbers f) limits) (made ones layout (shown f)) e first (cable_middle f) last made_is
