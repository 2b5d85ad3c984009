-- The laws that the proofs of `crc` cite.
pub mod Xor
pub mod Basis
pub mod Shifts
pub mod Shared
pub mod Products
