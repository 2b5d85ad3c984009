-- What a table contains, its two forms, the section and the content sheet, and how a sheet is judged.
pub mod Content
pub mod Sheet
pub mod Section
pub mod Reads
pub mod Faults
pub mod Limits
pub mod Inner
