-- What the calls come to, and that a struct of C and the fields that it stands for give each other back.
pub mod Called
pub mod Given
pub mod Calls
pub mod Fields
pub mod Refusals
pub mod GivenBack
pub mod WrittenAgain
pub mod Tied
