-- The laws that the proofs cite, and what holds of the answers.
pub mod IfLaws
pub mod TestLaws
pub mod TrailLaws
pub mod NumberLaws
pub mod ReadingLaws
pub mod PartLaws
pub mod EachLaws
pub mod Decimal
pub mod NextDigit
pub mod SomeBits
pub mod LowBits
pub mod NumberBits
pub mod HalfBytes
pub mod Shown
pub mod Unique
