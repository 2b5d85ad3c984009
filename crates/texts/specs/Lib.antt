-- What the readings of the descriptors that hold texts tell.
pub mod Whole
pub mod NetworkName
pub mod Stuffing
pub mod Service
pub mod ShortEvent
