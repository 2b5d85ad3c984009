-- Contracts among the functions of `crc`: nothing that a caller must believe.
pub mod Moves
