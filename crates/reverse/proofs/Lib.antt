-- That the writer's packets obey the rule, that no others do, and that the collector gives those of their sections back
-- that the judge accepts.
pub mod CellLaws
pub mod AheadLaws
pub mod HeaderLaws
pub mod PacketLaws
pub mod ObeysRule
pub mod OnlyLayout
pub mod NoneInside
pub mod AtMost
pub mod SentLaws
pub mod RoomPackets
pub mod CutSections
pub mod Carries
pub mod OneTurn
pub mod Leaves
pub mod Taken
pub mod FedBack
pub mod CallAfterCall
pub mod Writer
pub mod Fixed
pub mod AtWork
pub mod Tied
