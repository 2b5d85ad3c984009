-- What holds of the answers.
pub mod Layouts
pub mod Reported
