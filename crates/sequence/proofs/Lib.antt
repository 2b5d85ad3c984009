-- That the promise of `roll::take` gives each statement.
pub mod MarkLaws
pub mod TableIds
pub mod SmallestMissing
pub mod SegmentAnswers
pub mod InSegments
pub mod Exactly
pub mod Steps
pub mod WholeSequence
pub mod AboveLast
pub mod Fixed
pub mod AtWork
pub mod TakenAtWork
pub mod Tied
