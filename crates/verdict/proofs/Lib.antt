-- Laws that several proofs cite, and what the promises come to.
pub mod FirstFault
pub mod SaidLaws
pub mod Unique
