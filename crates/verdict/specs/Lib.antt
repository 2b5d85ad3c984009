-- What may be said of a section.
pub mod Verdict
