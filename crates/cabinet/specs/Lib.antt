-- What the structs that C is given say.
pub mod Numbers
pub mod Table
pub mod Collect
pub mod Judge
pub mod Search
pub mod Walk
pub mod Texts
pub mod Clock
pub mod Parts
pub mod Lists
pub mod Delivery
pub mod Roll
pub mod Sheets
pub mod Packets
pub mod Inner
