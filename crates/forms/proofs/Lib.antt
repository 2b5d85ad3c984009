pub mod Puts
pub mod Outcomes
pub mod Lawful
pub mod FieldLaws
pub mod BitLaws
pub mod ListLaws
pub mod Fronts
pub mod Turns
