-- Laws that several proofs cite, and what the promises come to.
pub mod Loops
pub mod InLoop
pub mod Standing
pub mod WholeWalk
pub mod HandedOut
pub mod Unique
pub mod Tied
