-- The item stands at 13 times its index, and a body has no more than 255 bytes.
use Prim.Native.Nat.{◌+◌, ◌*◌, ◌<◌}
use mathlib.Core.Path.{◌≡◌, sym, ap, ◌∙◌}
use native.Mathlib.Omega.{arith}
use Rattle.wire.specs.Reading.{value}
use Rattle.layout.specs.Items.{place, item}
use Rattle.layout.proofs.Exactly.{item_place, item_low}
use Rattle.lists.specs.LocalTimeOffset.{fields, localTimeOffset}
use Rattle.lists.proofs.local_time_offset.read.Goals as goal
use Rattle.lists.proofs.local_time_offset.read.Goals.{After-part}

module _ (b : After-part) where
  placed : place b.args.s.now 0x58 13 b.args.index ≡ value b.in_ok-at.at
  placed = sym b.in_ok-at.ensures

  where-it-stands : b.in_ok-at.at ≡ 2 + 13 * b.args.index
  where-it-stands = item_place 13 0x58 b.args.s.now b.args.index _ placed

  low : b.in_ok-at.at + 13 < 258
  low = item_low 13 0x58 b.args.s.now b.args.index (b.type_inv.s 1).fits _ placed

pub overflow_sub-at : goal.overflow_sub-at
overflow_sub-at c = omega (arith, where-it-stands (goal.at.overflow_sub-at c).After-part)

pub overflow_cast-at : goal.overflow_cast-at
overflow_cast-at c = omega (arith, low (goal.at.overflow_cast-at c).After-part)

pub fields_of-requires : goal.fields_of-requires
fields_of-requires c = omega (arith, low (goal.at.fields_of-requires c).After-part)

pub returns : goal.returns
unfolding localTimeOffset item
returns c =
    let at = where-it-stands (goal.at.returns c).After-part in
    rw (← c.item_at.ensures, c.in_ok-at.was, ← c.part.ensures)
    (c.fields_of.ensures ∙ ap (λ from. fields from c.part.result.now) (omega arith))
