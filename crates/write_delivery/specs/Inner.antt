-- Contracts among the functions of this crate: nothing that a caller must believe.
pub mod Middle
