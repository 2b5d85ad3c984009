-- What the writers of descriptors share, and what they promise.
pub mod Number
pub mod Fill
pub mod Written
pub mod Rows
pub mod Reverse
