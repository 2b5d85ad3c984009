-- That each reading refuses in document 01's order, what it reads out of a descriptor made by hand, and what it tells of a wrong one.
pub mod Order
pub mod Examples
pub mod Refused
