-- What is proved of sheets and heads.
pub mod HeadsShown
