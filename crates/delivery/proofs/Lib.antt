-- What holds of the answers.
pub mod Layouts
pub mod Printed
pub mod Reported
