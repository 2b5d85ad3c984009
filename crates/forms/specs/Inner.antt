-- Contracts among the functions that turn sheets and sections (`turn`): nothing that a caller must believe.
pub mod Turning
