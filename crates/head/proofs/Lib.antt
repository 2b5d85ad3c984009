-- Laws that several proofs cite: what is read in a head stands there.
pub mod Ids
pub mod TableIds
pub mod HeadLaws
