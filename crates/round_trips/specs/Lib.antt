-- Demands 1 and 2 over calls of both turns.
pub mod Demand2
pub mod Refusals
pub mod Rooms
pub mod AtWork
