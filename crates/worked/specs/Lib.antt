-- The starred values of document 01.
pub mod Worked
