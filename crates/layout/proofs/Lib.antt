-- The laws that the proofs cite, and what holds of the answers.
pub mod Frames
pub mod Inside
pub mod Exactly
pub mod Accepts
pub mod Reported
pub mod WidthLaws
pub mod Unique
