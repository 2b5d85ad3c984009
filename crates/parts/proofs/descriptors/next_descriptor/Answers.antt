-- `parts::descriptors::next_descriptor` meets its contract: where the part lies in the bytes, it ends in them.
use Rattle.parts.proofs.Fronts.{lies}
use Rattle.parts.proofs.descriptors.next_descriptor.Goals as goal

pub descriptor_at-requires : goal.descriptor_at-requires
descriptor_at-requires c = lies _ _ c.is_within.ensures c.if-is_within.true
