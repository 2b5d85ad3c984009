-- That each starred value is what the definitions give.
pub mod Times
pub mod Frequencies
pub mod Starred
