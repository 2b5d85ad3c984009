-- What a section and its sheet agree on.
pub mod Agreed
