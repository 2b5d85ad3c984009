-- Laws that several proofs cite, and what the promises come to.
pub mod Hits
pub mod WithoutFault
pub mod FirstFound
pub mod Unique
pub mod Tied
