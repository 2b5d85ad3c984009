-- The laws that the proofs cite.
pub mod Flags
pub mod Bodies
pub mod CableBody
pub mod SatelliteBody
pub mod TerrestrialBody
pub mod Reverses
pub mod AtWork
