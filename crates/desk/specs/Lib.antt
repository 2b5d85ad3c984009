-- What the writers of descriptors say to C, in numbers.
pub mod Answers
pub mod Calls
pub mod Texts
pub mod Delivery
