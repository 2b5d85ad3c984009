-- Laws that several proofs cite, and what the promises come to.
pub mod EntryLoops
pub mod Readings
pub mod InEntries
pub mod InSection
pub mod HeaderTests
pub mod Exactly
pub mod Numbers
pub mod Demands
pub mod Handed
pub mod Tied
