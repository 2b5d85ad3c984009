-- The body of a terrestrial delivery system, as the code puts it.
use mathlib.Core.Path.{◌≡◌, ap, ◌∙◌}
use mathlib.Core.Bool.{Bool, true, not}
use Prim.Native.Nat.{◌+◌, ◌*◌, ◌^◌}
use native.Mathlib.Omega.{arith}
use Rattle.wire.specs.Reading.{refused}
use Rattle.forms.specs.Fields.{room, pack}
use Rattle.delivery.specs.Terrestrial.{layout, shown}
use Rattle.delivery.specs.declared.terrestrial.Terrestrial.{Terrestrial}
use Rattle.writing.specs.Fill.{ones, filled, made, below, capacities}
use Rattle.writing.specs.Number.{ofNumber}
use Rattle.writing.proofs.Below.{below_is}
use Rattle.write_delivery.specs.Terrestrial.{terrestrial_written}
use Rattle.write_delivery.specs.Inner.Middle.{terrestrial_middle}
use Rattle.write_delivery.proofs.Bodies.{body, joined, refuses, WritesBody, wrote}

module _ (f : Terrestrial) where
  packed : pack layout (filled ones layout (shown f))
      ≡ f.centre_frequency.0 * 2 ^ 56 + (terrestrial_middle f * 2 ^ 32 + 0xFFFF_FFFF)
  unfolding pack filled room
  packed = omega arith

  made_is : below (shown f) (capacities layout) ≡ true
      → made ones layout (shown f) ≡ body f.centre_frequency.0 (terrestrial_middle f) 0xFFFF_FFFF
  unfolding made
  made_is h =
      let i = below_is (shown f) (capacities layout) h in
      ap (ofNumber 11) packed
      ∙ joined f.centre_frequency.0 (terrestrial_middle f) 0xFFFF_FFFF (omega arith) (omega arith)

  module _ {r : Bool} (e : r ≡ below (shown f) (capacities layout)) where
    pub terrestrial_refused : not r ≡ true → terrestrial_written f ≡ refused 112
    unfolding terrestrial_written
    terrestrial_refused = refuses 0x5A (below (shown f) (capacities layout)) (made ones layout (shown f)) e

    pub terrestrial_wrote : WritesBody (terrestrial_written f) r 0x5A f.centre_frequency.0 (terrestrial_middle f)
        0xFFFF_FFFF
    unfolding terrestrial_written
    terrestrial_wrote =
        wrote 0x5A (below (shown f) (capacities layout)) (made ones layout (shown f)) e
        f.centre_frequency.0 (terrestrial_middle f) 0xFFFF_FFFF made_is
