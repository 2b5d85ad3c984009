-- Laws that several proofs cite, and what the promises come to.
pub mod FirstOf
pub mod RowLaws
pub mod ToldTwice
pub mod Unique
