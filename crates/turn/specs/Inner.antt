-- Contracts among this crate's own functions: nothing that a caller must believe.
pub mod Fields
pub mod Ways
pub mod Bodies
