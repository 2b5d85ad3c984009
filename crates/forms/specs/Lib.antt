-- Forms of values in bytes and their laws, fields of some bits, bytes put into a room.
pub mod Form
pub mod Laws
pub mod Fields
pub mod Lists
pub mod Room
pub mod Outcome
pub mod Inner
