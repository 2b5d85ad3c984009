-- The laws that the proofs cite, and what holds of what is written.
pub mod Rooms
pub mod Headed
pub mod Numbered
pub mod Held
pub mod Reverses
pub mod Refusals
pub mod AtWork
