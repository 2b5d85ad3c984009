-- What a copy of bytes leaves, and what a move within one list does.
pub mod Copy
pub mod Move
pub mod Laid
