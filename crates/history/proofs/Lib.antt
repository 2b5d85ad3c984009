-- That the promise of `collector::collect` gives each statement, that the statements fix the collector, and that each
-- wrong collector breaks one.
pub mod LeftInHand
pub mod Agrees
pub mod NoSpan
pub mod FaresByTable
pub mod Marks
pub mod Splices
pub mod Demand1
pub mod Demand3
pub mod WrongCollectors
pub mod AtWork
pub mod OtherEnds
pub mod Fades
pub mod Promise
pub mod Fixed
pub mod FullSections
pub mod OutRoom
pub mod Judging
pub mod Splits
pub mod Target
pub mod Healing
pub mod Tied
