-- What tables contain: what a section can hold, and whether its reserved bits are ones.
pub mod Holds
pub mod Ones
