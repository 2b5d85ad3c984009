-- What holds of the answers.
pub mod Handed
pub mod Layouts
