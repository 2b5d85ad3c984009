pub mod SectionLaws
pub mod Accepted
pub mod Contained
pub mod TwoForms
pub mod AnySheet
pub mod Held
pub mod SheetSize
pub mod ReadBack
