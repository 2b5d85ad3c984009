-- Contracts among this crate's own functions: nothing that a caller must believe.
pub mod Settling
pub mod Stretch
pub mod Payload
pub mod Taking
