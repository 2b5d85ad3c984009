-- What the readings of the descriptors that are lists tell.
pub mod ServiceList
pub mod Content
pub mod ParentalRating
pub mod LocalTimeOffset
