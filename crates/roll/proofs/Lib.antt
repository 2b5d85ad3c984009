-- Laws that several proofs cite, and that each promise allows one outcome.
pub mod Smallest
pub mod Gaps
pub mod Ends
pub mod Turns
pub mod Outcomes
pub mod Unique
