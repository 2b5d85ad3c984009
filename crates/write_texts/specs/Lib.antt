-- What the writers of the descriptors that hold texts make.
pub mod Texts
pub mod NetworkName
pub mod Stuffing
pub mod Service
pub mod ShortEvent
