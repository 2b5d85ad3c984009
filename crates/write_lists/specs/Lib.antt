-- What the writers of the descriptors that are lists make.
pub mod Lists
pub mod ServiceList
pub mod Content
pub mod ParentalRating
pub mod LocalTimeOffset
pub mod Inner
