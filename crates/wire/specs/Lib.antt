-- What the layers above share: tests, loops, bytes and digits as numbers, readings, and parts of lists.
pub mod If
pub mod Trail
pub mod Bytes
pub mod Number
pub mod Reading
pub mod Digits
pub mod Parts
pub mod Each
pub mod Sections
pub mod Ensures
