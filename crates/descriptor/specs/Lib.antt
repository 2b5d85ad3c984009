-- In which order a reading refuses.
pub mod Order
