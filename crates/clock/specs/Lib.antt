-- What the readings of times, durations and offsets tell.
pub mod Fault
pub mod Field
pub mod Time
pub mod Duration
pub mod Offset
pub mod Reported
