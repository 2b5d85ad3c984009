-- What the account program's functions promise.
pub mod Entered
pub mod Heard
pub mod Input
pub mod Lines
