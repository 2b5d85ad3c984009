-- The laws that the proofs cite.
pub mod NumberBytes
pub mod Tens
pub mod Made
pub mod Answers
pub mod Below
pub mod Bodies
pub mod Refused
pub mod Unique
