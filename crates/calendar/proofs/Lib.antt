-- The laws that the proofs cite, and what holds of the answers.
pub mod Dates
pub mod Months
pub mod Counting
pub mod Reported
