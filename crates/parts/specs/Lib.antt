-- The parts of a section: how they are handed out, and that they are those of the grammar.
pub mod Parts
pub mod Entries
pub mod Descriptors
pub mod Room
pub mod Opening
pub mod Names
pub mod Handed
