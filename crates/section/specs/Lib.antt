-- Sections: how they are read, what a section is, and what is wrong first with bytes that are none.
pub mod Entries
pub mod Reading
pub mod Grammar
pub mod Faults
pub mod Standing
pub mod Demands
