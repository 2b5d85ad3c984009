-- `parts::names::event_part` meets its contract: where the fixed bytes lie in the section, they end in it.
use Rattle.parts.proofs.Fronts.{lies}
use Rattle.parts.proofs.names.event_part.Goals as goal

pub event_at-requires : goal.event_at-requires
event_at-requires c = (c.requires, lies _ _ c.is_within.ensures c.if-is_within.true)
