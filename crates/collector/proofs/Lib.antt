-- Laws that several proofs cite, and those of stories that `history` rests on.
pub mod Counters
pub mod MarkLaws
pub mod ByteRuns
pub mod Laying
pub mod Headers
pub mod SectionLoop
pub mod StretchInHand
pub mod Simulation
pub mod Invariants
pub mod StoryLaws
pub mod Parted
pub mod PayloadLaws
pub mod Outcomes
pub mod Fits
