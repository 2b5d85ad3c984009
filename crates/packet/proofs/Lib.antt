-- Laws that several proofs cite, and those of the table that the crates above rest on.
pub mod Table
pub mod Unique
