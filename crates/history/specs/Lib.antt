-- The statements of demands 1 and 3 about a collector, with those of requests (viii), (ix) and (xii), that they leave one, the
-- wrong ones that they shut out, and stories of packets.
pub mod History
pub mod Run
pub mod Demand1
pub mod Demand3
pub mod Splices
pub mod Fixed
pub mod OutRoom
pub mod Judging
pub mod Splits
pub mod Healing
pub mod WrongCollectors
pub mod AtWork
pub mod OtherEnds
pub mod Fades
