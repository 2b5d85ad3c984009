-- Contracts among this crate's own functions: nothing that a caller must believe.
pub mod Rolls
