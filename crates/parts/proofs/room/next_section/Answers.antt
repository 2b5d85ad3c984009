-- `parts::room::next_section` meets its contract: where the part lies in the bytes, it ends in them.
use Rattle.parts.proofs.Fronts.{lies}
use Rattle.parts.proofs.room.next_section.Goals as goal

pub section_at-requires : goal.section_at-requires
section_at-requires c = lies _ _ c.is_within.ensures c.if-is_within.true
