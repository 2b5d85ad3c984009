-- The statements about a roll: one step of any roll, whole sequences of sections, and what of a roll means nothing.
pub mod Promise
pub mod Step
pub mod Sequence
pub mod Alike
