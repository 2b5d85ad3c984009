-- The laws that the proofs of several functions cite, and the theorems.
pub mod Linear
pub mod Fed
pub mod Steps
pub mod Bytes
pub mod Feeding
pub mod Leaving
pub mod Ending
pub mod Ahead
pub mod Head
pub mod Closes
