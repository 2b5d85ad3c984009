-- Laws that several proofs cite, and what the promises come to.
pub mod Fronts
pub mod Openings
pub mod Handed
pub mod Cuts
pub mod NothingOf
pub mod Tied
