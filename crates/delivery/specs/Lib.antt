-- What the readings of the delivery systems tell.
pub mod Satellite
pub mod Cable
pub mod Terrestrial
