-- Laws that several proofs cite, and what reading comes to.
pub mod Got
pub mod Stands
pub mod Cuts
pub mod Absorbed
pub mod RunOf
pub mod Says
