-- The laws that the proofs cite, and what holds of the answers.
pub mod Ranges
pub mod Exactly
pub mod FirstWrong
pub mod Reported
pub mod Unique
pub mod SignedMinutes
pub mod AnyAnswer
