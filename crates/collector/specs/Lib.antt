-- What the collector promises of a call: definitions that state document 01. `Inner` has what private functions say of each other.
pub mod Rules
pub mod Judged
pub mod Refusals
pub mod Answer
pub mod Collected
pub mod Inner
