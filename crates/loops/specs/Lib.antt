-- Descriptors: how they are read, what a loop of them is, and what a walk over one gives and hands out.
pub mod Descriptors
pub mod Grammar
pub mod Walking
