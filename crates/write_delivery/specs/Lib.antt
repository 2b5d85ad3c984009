-- What the writers of the delivery systems make.
pub mod Satellite
pub mod Cable
pub mod Terrestrial
pub mod Inner
