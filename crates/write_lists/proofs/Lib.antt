-- The laws that the proofs cite, and what holds of what is written.
pub mod RowReadings
pub mod ItemLists
pub mod PlainItems
pub mod OffsetItems
pub mod Reverses
pub mod Refusals
pub mod ItemBytes
pub mod RowLaws
pub mod AtWork
