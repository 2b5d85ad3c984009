-- Laws that several proofs cite, and what the promises come to.
pub mod TableLaws
pub mod FlatMarks
pub mod Outcomes
pub mod SheetNumbers
pub mod RollTaken
pub mod OpenSays
