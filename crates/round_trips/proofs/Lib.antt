pub mod Unique
pub mod Numbers
pub mod RoundTrips
pub mod Rooms
pub mod Refusals
pub mod Demand2
pub mod AtWork
