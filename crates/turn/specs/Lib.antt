-- Turning sheets into sections and sections into sheets.
pub mod Turn
pub mod Answers
pub mod Promise
pub mod Inner
