-- What the date of an MJD is.
pub mod Calendar
pub mod Dates
