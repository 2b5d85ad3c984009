-- What a search finds.
pub mod Search
