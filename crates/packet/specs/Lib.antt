-- A packet by itself: its header, document 01's refusals 41 to 49, and what comes of it after the packets before.
pub mod Header
pub mod Refusals
pub mod Ruling
pub mod Judgement
pub mod Inner
